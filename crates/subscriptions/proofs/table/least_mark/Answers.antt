use Rattle.std.proofs.Common.{◌≡◌, ◌+◌, ◌++◌, ◌∷◌, [], take, ap, sym, ◌∙◌, subst, arith}
use Rattle.std.proofs.lemmas.List.{take_more, take_all}
use Rattle.std.specs.List.{AllByRecursion}
use Rattle.subscriptions.specs.Trimming.{IsPast}
use Rattle.subscriptions.proofs.Fronts.{past_lower}
use Rattle.subscriptions.proofs.Sound.{all_pushed}
use Rattle.subscriptions.proofs.table.least_mark.Goals as goal

pub loop-sub-preserved : goal.loop-sub-preserved
loop-sub-preserved g c =
    let subs = c.args.subs.now in
    let i = c.loop-sub.sub-index in
    let sub = c.sub-item.result in
    let next : take (i + 1) subs ≡ take i subs ++ sub ∷ [] = take_more subs i sub c.loop-sub-test.true ∙ ap (λ s. take i subs ++ s ∷ []) (sym c.sub-item.is) in (
      omega (arith, c.loop-sub.invariant.0, c.min-least.ensures),
      subst (AllByRecursion (IsPast c.min-least.result)) (sym next)
          (all_pushed (IsPast c.min-least.result) (take i subs) sub
          (past_lower c.loop-sub.least c.min-least.result (take i subs) (omega (arith, c.min-least.ensures)) c.loop-sub.invariant.1)
          (λ p low. c.mark_delete.ensures p (omega (arith, low, c.min-least.ensures)))),
    )

pub returns-clause-past : goal.returns-clause-past
returns-clause-past g c = subst (AllByRecursion (IsPast c.loop-sub.least)) (take_all c.loop-sub.sub-index c.args.subs.now c.loop-sub-test.false) c.loop-sub.invariant.1
