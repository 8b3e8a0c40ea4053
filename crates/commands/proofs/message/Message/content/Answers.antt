use Rattle.std.proofs.Common.{ap, ◌∙◌}
use Rattle.commands.specs.Kept.{content_in}
use Rattle.commands.proofs.Kept.{content-held}
use Rattle.commands.proofs.message.Message.content.Goals as goal

pub returns-in-Some : goal.returns-in-Some
returns-in-Some c = c.content.ensures ∙ ap content_in c.in-Some.ensures ∙ content-held c.args.number c.args.self.now
