use Rattle.std.proofs.Common.{ap, ◌∙◌, Ok}
use Rattle.commands.specs.Kept.{is_there}
use Rattle.commands.proofs.Kept.{there-held}
use Rattle.commands.proofs.message.Message.has.Goals as goal

pub returns-in-Some : goal.returns-in-Some
returns-in-Some c = ap (λ there. Ok there) (c.is_there.ensures ∙ ap is_there c.in-Some.ensures ∙ there-held c.args.number c.args.self.now)
