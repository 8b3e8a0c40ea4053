-- What a sound topic tells.
use Rattle.std.proofs.Common.{ℕ, Option, Some, None, Result, Ok, Err, IfOk}
use Rattle.subscriptions.specs.declared.summary.SubscriptionSummary.{SubscriptionSummary}
use Rattle.topic_lock.specs.Summaries.{IsToldAt}
use Rattle.server.specs.Told.{IsOfPlace}

-- what it tells of a place is what a board may tell
pub of_place : {E : Type 0} (place : ℕ) (r : Result (Option SubscriptionSummary) E) → IfOk r (IsToldAt place) → IfOk r (IsOfPlace place)
of_place place (Ok (Some told)) h = h
of_place place (Ok None) h = tt
of_place place (Err refused) h = tt
