use Rattle.std.proofs.Common.{◌≡◌, ◌∙◌, ◌+◌, ◌∷◌, [], ℕ, length, Some, ap, sym, subst, length-append, arith}
use Rattle.subscriptions.specs.declared.summary.SubscriptionSummary.{SubscriptionSummary}
use Rattle.status_pages.specs.Told.{AreTold}
use Rattle.status_pages.proofs.ToldLemmas.{told_more}
use Rattle.status_pages.proofs.picture.places_of.Goals as goal

pub loop-place-preserved : goal.loop-place-preserved
loop-place-preserved g c =
    let told = λ (n : ℕ) (s : SubscriptionSummary). g.B.Board.subscription_told c.args.board.now c.args.topic n (Some s) in
    let place = c.loop-place.place in
    let before = c.loop-place.subscriptions.items in
    let one = c.in-Some.subscription in
    let here : told place one = rw c.in-Some.is at c.in_ok-subscription.ensures in
    let items = c.in_ok-push-in-Some.ensures.items in
    let counted : length before ≡ place = c.loop-place.invariant.counted in
    record {
      counted = ap length items ∙ length-append before (one ∷ []) ∙ ap (λ (n : ℕ). n + 1) counted;
      told_each = subst (AreTold told 0) (sym items) (told_more told 0 place before one c.loop-place.invariant.told_each (omega arith) here);
    }
