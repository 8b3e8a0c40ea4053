-- What is told of a topic that is served, as it is found under its lock.
use Rattle.std.specs.Prelude.{◌≡◌, ℕ, Option, slice_get}
use Rattle.subscriptions.specs.Summaries.{IsSummaryOf}
use Rattle.subscriptions.specs.declared.summary.SubscriptionSummary.{SubscriptionSummary}
use Rattle.topic_core.specs.State.{Topic}
use Rattle.topic_core.specs.Soundness.{IsSound}
use Rattle.topic_core.specs.Summaries.{summary_of}
use Rattle.topic_core.specs.declared.summary.TopicSummary.{TopicSummary}

-- a sound topic tells it
abbrev pub IsTold : TopicSummary → Type 0
IsTold summary = (t : Topic) × IsSound t × (summary ≡ summary_of t)

-- a sound topic's entries that are still there begin at this position
abbrev pub MayBegin : ℕ → Type 0
MayBegin base = (t : Topic) × IsSound t × (base ≡ t.ledger.base)

-- a sound topic tells it of the subscription at this place, or that none stands there
abbrev pub IsToldAt : ℕ → Option SubscriptionSummary → Type 0
IsToldAt place told = (t : Topic) × IsSound t × IsSummaryOf (slice_get t.subs.subs place) told
