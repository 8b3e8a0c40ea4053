use Rattle.std.proofs.Common.{◌≡◌, [], refl, ◌∙◌, subst, arith}
use Rattle.std.proofs.lemmas.List.{length-set, take_all}
use Rattle.std.specs.List.{AllByRecursion}
use Rattle.subscriptions.proofs.Looking.{all_more}
use Rattle.subscriptions.proofs.table.clear_all.Goals as goal

pub loop-i-init : goal.loop-i-init
loop-i-init c = record { same = refl; empty = tt }

pub loop-i-preserved : goal.loop-i-preserved
loop-i-preserved c = record {
  same = length-set c.loop-i.hints.items c.loop-i.i c.clear.new.self ∙ c.loop-i.invariant.same;
  empty = all_more (λ h. h ≡ []) c.loop-i.hints.items c.loop-i.i c.clear.new.self c.loop-i.invariant.empty c.clear.ensures;
}

pub returns-clause-empty : goal.returns-clause-empty
returns-clause-empty c = subst (AllByRecursion (λ h. h ≡ [])) (take_all c.loop-i.i c.loop-i.hints.items (omega (arith, c.loop-i.invariant.same))) c.loop-i.invariant.empty
