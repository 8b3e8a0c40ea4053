use Rattle.std.proofs.Common.{◌∙◌, ap, sym, subst}
use Rattle.std.specs.FinMap as map
use Rattle.records.specs.Maps.{Kept, IsSound}
use Rattle.records.proofs.Maps.{cloned_text}
use Rattle.records.proofs.kept.KeptSubscriptionsClone.clone.Goals as goal

pub returns : goal.returns
returns c = record { cases = ap (λ es. map.from_entries es) (cloned_text _ _ c.in_ok-clone.ensures.cases) ∙ c.self.view_is }

pub invariant_of-result : goal.invariant_of-result
invariant_of-result c = subst (λ (k : Kept). IsSound k) (sym (ap (λ es. map.from_entries es) (cloned_text _ _ c.in_ok-clone.ensures.cases))) c.self.invariant
