-- What a sound topic tells.
use Rattle.std.proofs.Common.{ℕ, Option, Result, Ok, Err, IfOk}
use Rattle.std.specs.Prelude.{slice_get}
use Rattle.subscriptions.specs.Summaries.{IsSummaryOf}
use Rattle.subscriptions.specs.declared.summary.SubscriptionSummary.{SubscriptionSummary}
use Rattle.topic_core.specs.State.{Topic}
use Rattle.topic_core.specs.Soundness.{IsSound}
use Rattle.topic_lock.specs.Summaries.{IsToldAt}

-- what it tells of a place, where memory lets it
pub told_at : {E : Type 0} (t : Topic) (place : ℕ) (r : Result (Option SubscriptionSummary) E) → IsSound t → IfOk r (IsSummaryOf (slice_get t.subs.subs place)) → IfOk r (IsToldAt place)
told_at t place (Ok told) sound h = (t, sound, h)
told_at t place (Err refused) sound h = tt
