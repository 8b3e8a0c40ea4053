-- A flush that comes in parts, beside its topic and the topic's store.
use Rattle.std.specs.Prelude.{Bool, Option, Some, None}
use Rattle.topic_stores.specs.declared.batch.Batch.{Batch}
use Rattle.topic_core.specs.State.{Topic}
use Rattle.topic_core.specs.Standing.{Phase, Before, phase_after, resting, IsFor}
use Rattle.node.specs.State.{Stage, Resting, Taken, Written}
use Rattle.node.specs.declared.flight.Flight.{Flight}
use Rattle.node.specs.declared.flight.Flight.TheVariants as flight

abbrev pub batch_of : Flight → Batch
batch_of (flight.Taken batch) = batch
batch_of (flight.Written batch result) = batch

abbrev pub stage_of : Option Flight → Stage
stage_of None = Resting
stage_of (Some (flight.Taken batch)) = Taken
stage_of (Some (flight.Written batch result)) = Written result

-- how far the store is, beside a topic that failed or works, with a flush at this stage
abbrev pub phase_at : Bool → Stage → Phase
phase_at failed Resting = resting failed
phase_at failed Taken = Before
phase_at failed (Written result) = phase_after result

-- the batch of a flush that is under way can be written, and is a copy of what the topic has handed on
abbrev pub IsUnderWay : Topic → Option Flight → Type 0
IsUnderWay topic None = Unit {0}
IsUnderWay topic (Some parts) = IsFor topic (batch_of parts)
