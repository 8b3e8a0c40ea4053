use Rattle.std.proofs.Common.{◌∙◌, ap, sym}
use Rattle.std.specs.FinMap as map
use Rattle.records.specs.Maps.{Kept}
use Rattle.records.proofs.Maps.{len_text}
use Rattle.records.proofs.kept.KeptSubscriptions.len.Goals as goal

pub returns : goal.returns
returns c = c.len.ensures.len ∙ sym (len_text c.self.inside.cursors.entries c.len.ensures.ordered) ∙ ap (λ (k : Kept). map.len k) c.self.view_is
