use Rattle.std.proofs.Common.{ap, ◌∙◌}
use Rattle.commands.specs.Kept.{number_in}
use Rattle.commands.proofs.Kept.{number-held}
use Rattle.commands.proofs.message.Message.u64.Goals as goal

pub returns-in-Some : goal.returns-in-Some
returns-in-Some c = c.number.ensures ∙ ap number_in c.in-Some.ensures ∙ number-held c.args.number c.args.self.now
