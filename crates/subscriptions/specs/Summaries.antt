-- What is told of one subscription of a topic that is served.
use Rattle.std.specs.Prelude.{◌≡◌, ℕ, ◌-◌, ◌^◌, min, Option, Some, None, List, length, sum_by, IsSomeAnd}
use Rattle.subscriptions.specs.State.{Consumer, Subscription}
use Rattle.subscriptions.specs.Statuses.{IsStatusOf}
use Rattle.subscriptions.specs.declared.summary.SubscriptionSummary.{SubscriptionSummary}

-- how many permits a consumer has left, as far as is known
abbrev pub left_of : Consumer → ℕ
left_of c = c.granted - c.sent

-- how many the consumers have left together, and 2^64 - 1 where these are more
abbrev pub permits_left : List Consumer → ℕ
permits_left consumers = min (sum_by left_of consumers) (2 ^ 64 - 1)

-- its status, its mode, and how many consumers it has and how many permits they have left
pub record IsSummary (s : Subscription) (summary : SubscriptionSummary) : Type 0 where
  pub status : IsStatusOf s summary.status
  pub mode : summary.mode ≡ s.mode
  pub consumers : summary.consumers ≡ length s.consumers
  pub permits : summary.permits ≡ permits_left s.consumers

-- a subscription is told, and nothing where there is none
abbrev pub IsSummaryOf : Option Subscription → Option SubscriptionSummary → Type 0
IsSummaryOf (Some s) told = IsSomeAnd told (IsSummary s)
IsSummaryOf None told = told ≡ None
