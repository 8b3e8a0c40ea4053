use Rattle.std.proofs.Common.{ap, ◌∙◌, sym}
use Rattle.commands.specs.Kept.{seen}
use Rattle.commands.proofs.Kept.{one-held}
use Rattle.commands.proofs.message.Message.only.Goals as goal

pub returns-in-Some-Content : goal.returns-in-Some-Content
returns-in-Some-Content c =
    let only = one-held c.args.number c.args.self.now _ (ap seen (sym c.in-Some-Content.field-0-is) ∙ c.in-Some-Content.ensures) in
    rw c.new.ensures only
