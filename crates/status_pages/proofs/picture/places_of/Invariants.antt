use Rattle.std.proofs.Common.{◌≡◌, ℕ, length, Some}
use Rattle.subscriptions.specs.declared.summary.SubscriptionSummary.{SubscriptionSummary}
use Rattle.status_pages.specs.Told.{AreTold}
use Rattle.status_pages.proofs.picture.places_of.Given as goal

-- the first places were told, and each has its subscription
abbrev pub invariant-loop-place : goal.invariant-loop-place
invariant-loop-place g l = record {
  counted : length l.subscriptions.items ≡ l.place;
  told_each : AreTold (λ (n : ℕ) (s : SubscriptionSummary). g.B.Board.subscription_told l.board l.topic n (Some s)) 0 l.subscriptions.items;
}
