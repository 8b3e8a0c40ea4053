use Rattle.std.proofs.Common.{◌∙◌, ap, sym, Some}
use Rattle.std.specs.FinMap as map
use Rattle.records.specs.Maps.{Kept}
use Rattle.records.proofs.Maps.{get_text}
use Rattle.records.proofs.kept.KeptSubscriptions.get.Goals as goal

pub returns-in-Some : goal.returns-in-Some
returns-in-Some c = ap Some c.as_cursor.ensures ∙ c.in-Some.ensures.value ∙ sym (get_text c.self.inside.cursors.entries c.args.name.now) ∙ ap (λ (k : Kept). map.get k c.args.name.now) c.self.view_is

pub returns-in-None : goal.returns-in-None
returns-in-None c = c.in-None.ensures.value ∙ sym (get_text c.self.inside.cursors.entries c.args.name.now) ∙ ap (λ (k : Kept). map.get k c.args.name.now) c.self.view_is
