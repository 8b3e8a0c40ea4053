use Rattle.std.proofs.Common.{◌∙◌, ap, sym, subst}
use Rattle.std.specs.FinMap as map
use Rattle.records.specs.Maps.{Kept, by_bytes, IsSound}
use Rattle.records.proofs.Maps.{entries_text}
use Rattle.records.proofs.kept.KeptSubscriptions.iter.Goals as goal

pub returns-clause-rest : goal.returns-clause-rest
returns-clause-rest c = ap (λ es. by_bytes es) c.iter.ensures.rest ∙ sym (entries_text c.self.inside.cursors.entries c.iter.ensures.ordered) ∙ ap (λ (k : Kept). map.entries k) c.self.view_is

pub returns-clause-sound : goal.returns-clause-sound
returns-clause-sound c = subst (λ (k : Kept). IsSound k) c.self.view_is c.self.invariant
