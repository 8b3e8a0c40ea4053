-- What a part of a flush does to its topic.
use Rattle.std.specs.Prelude.{◌≡◌, ℕ, Option, true, is_some, Result}
use Rattle.topic_stores.specs.declared.batch.Batch.{Batch}
use Rattle.topic_stores.specs.declared.error.WriteError.{WriteError}
use Rattle.topic_core.specs.State.{Topic}
use Rattle.topic_core.specs.Flush.{TakeStep, FinishStep}
use Rattle.node.specs.State.{Stage, Resting, Written, stage_after, verdict_of_flush}

-- a batch is taken, or none; what is told of it is told so
pub record TakesPart (old : Topic) (before : Stage) (result : Result (Unit {0}) WriteError) (new : Topic) (after : Stage) : Type 0 where
  pub taken : Result (Option Batch) WriteError
  pub step : TakeStep old taken new
  pub told : verdict_of_flush result ≡ verdict_of_flush taken
  pub stage : after ≡ stage_after taken before

-- a flush whose batch was written ends as the write did
pub record FinishesPart (old : Topic) (before : Stage) (result : Result ℕ WriteError) (new : Topic) (after : Stage) : Type 0 where
  pub written : Result ℕ WriteError
  pub was : before ≡ Written written
  pub handed_on : is_some old.doubt ≡ true
  pub step : FinishStep old written result new
  pub stage : after ≡ Resting
