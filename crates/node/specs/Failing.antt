-- What the failure of a topic rests on.
use Rattle.std.specs.Prelude.{◌≡◌, ◌<◌, ℕ, true, false, is_some, Err, List, length}
use Rattle.gated_log.specs.declared.refusal.Refusal.TheVariants as refusal
use Rattle.topic_stores.specs.declared.error.WriteError.TheVariants.{Device}
use Rattle.session.specs.Broker.{topic_at}
use Rattle.node.specs.State.{State, Written, stage_at}
use Rattle.node.specs.Steps.{Flushes, Reopens}
use Rattle.node.specs.Runs.{Run, StateCrash, Life, AllowedRun}
use Rattle.node.specs.Cuts.{Turn, AllowedLife}
use Rattle.node.specs.declared.event.Event.{Event}
use Rattle.node.specs.declared.event.Happening.{Happening}
use Rattle.node.specs.declared.event.Output.{Output}
use Rattle.node.specs.declared.event.Verdict.TheVariants as verdict

-- a topic works, and no failed write of what it handed on waits for its end
pub record Works (s : State) (number : ℕ) : Type 0 where
  pub works : (topic_at s.broker number).failed ≡ false
  pub sure : stage_at s number ≡ Written (Err Device) → is_some (topic_at s.broker number).doubt ≡ false

-- Where a topic worked and has failed since, the device has failed in between. It works behind each opening of the node, and
-- behind its own one where it had failed; so a failed topic has a count of failures above that of its last opening.
pub record FailsForACause : Type 0 where
  pub run : (old : State) (events : List Event) (outputs : List Output) (new : State) (number : ℕ) → Run old events outputs new → Works old number → (topic_at new.broker number).failed ≡ true → old.faults < new.faults
  pub life : (old : Life) (happenings : List Happening) (outputs : List Output) (new : Life) (number : ℕ) → AllowedRun old happenings outputs new → (old.up ≡ true → Works old.state number)
      → new.up ≡ true → (topic_at new.state.broker number).failed ≡ true → old.state.faults < new.state.faults
  pub cut : (old : Life) (turns : List Turn) (outputs : List Output) (new : Life) (number : ℕ) → AllowedLife old turns outputs new → (old.up ≡ true → Works old.state number)
      → new.up ≡ true → (topic_at new.state.broker number).failed ≡ true → old.state.faults < new.state.faults
  pub opened : (old new : State) (number : ℕ) → StateCrash old new → Works new number
  pub reopened : (old : State) (number : ℕ) (output : Output) (new : State) → Reopens old number output new → number < length old.broker.topics → (topic_at old.broker number).failed ≡ true → output.result ≡ verdict.Done
      → Works new number
  -- so a flush tells a failure of the device only where the device failed in it, or before it and since the last opening of the topic
  pub told : (first : State) (events : List Event) (outputs : List Output) (old : State) (number : ℕ) (output : Output) (new : State) → Run first events outputs old → Works first number → Flushes old number output new
      → output.result ≡ verdict.Refused refusal.Device → first.faults < new.faults
