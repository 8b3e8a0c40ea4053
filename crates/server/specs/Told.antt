-- What whoever looks is told of a broker that serves.
use Rattle.std.specs.Prelude.{◌≡◌, ℕ, Option, Some, None}
use Rattle.topic_lock.specs.Summaries.{IsTold, IsToldAt, MayBegin}
use Rattle.status_pages.specs.declared.board.TopicReport.{TopicReport}
use Rattle.subscriptions.specs.declared.summary.SubscriptionSummary.{SubscriptionSummary}

-- of a topic: its own number, and what a sound topic tells
abbrev pub IsReport : ℕ → Option TopicReport → Type 0
IsReport number (Some report) = (report.number ≡ number) × IsTold report.summary × MayBegin report.base
IsReport number None = Unit {0}

-- of a subscription: what a sound topic tells of the one at this place
abbrev pub IsOfPlace : ℕ → Option SubscriptionSummary → Type 0
IsOfPlace place (Some told) = IsToldAt place (Some told)
IsOfPlace place None = Unit {0}
