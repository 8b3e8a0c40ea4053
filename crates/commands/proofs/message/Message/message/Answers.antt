use Rattle.std.proofs.Common.{ap, ◌∙◌, sym, Ok, Some}
use Rattle.commands.specs.Kept.{seen}
use Rattle.commands.proofs.Kept.{message-held}
use Rattle.commands.proofs.message.Message.message.Goals as goal

pub returns-in-Some-Content : goal.returns-in-Some-Content
returns-in-Some-Content c =
    message-held c.args.number c.args.self.now _ (ap seen (sym c.in-Some-Content.field-0-is) ∙ c.in-Some-Content.ensures)
    ∙ ap (λ bytes. Ok (Some bytes)) (sym c.new.ensures ∙ sym c.new-in-Some-Content.ensures)
