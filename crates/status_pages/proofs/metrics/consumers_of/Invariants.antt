use Rattle.std.proofs.Common.{◌≡◌, take}
use Rattle.std.specs.Prelude.{sum_by}
use Rattle.subscriptions.specs.declared.summary.SubscriptionSummary.{SubscriptionSummary}
use Rattle.status_pages.specs.Metrics.{capped}
use Rattle.status_pages.proofs.metrics.consumers_of.Given as goal

-- the first consumers are counted
abbrev pub invariant-loop-subscription : goal.invariant-loop-subscription
invariant-loop-subscription l = l.sum ≡ capped (sum_by (λ (s : SubscriptionSummary). s.consumers) (take l.subscription-index l.subscriptions))
