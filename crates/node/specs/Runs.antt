-- Runs of events, and of events and crashes.
use Rattle.std.specs.Prelude.{◌≡◌, ◌⊎◌, ◌<◌, ◌≤◌, ℕ, Bool, true, false, None, Result, OnOk, List, [], ◌∷◌, ◌++◌, length, take}
use Rattle.std.specs.declared.alloc.AllocError.{AllocError}
use Rattle.gated_log.specs.declared.refusal.Refusal.TheVariants as refusal
use Rattle.topic_core.specs.Crashes.{TopicCrash}
use Rattle.session.specs.Broker.{Broker, topic_at, Settles}
use Rattle.node.specs.State.{State, Resting, stage_at}
use Rattle.node.specs.Steps.{BrokerStep, Amid}
use Rattle.node.specs.declared.event.Event.{Event}
use Rattle.node.specs.declared.event.Verdict.{Verdict}
use Rattle.node.specs.declared.event.Verdict.TheVariants as verdict
use Rattle.node.specs.declared.event.Output.{Output}
use Rattle.node.specs.declared.event.Happening.{Happening}
use Rattle.node.specs.declared.event.Happening.TheVariants as happening

-- steps, each of one thing that comes and with one output, one after another
abbrev pub Chain : {S X : Type 0} → (S → X → Output → S → Type 0) → S → List X → List Output → S → Type 0
Chain Step old [] [] new = new ≡ old
Chain Step old (x ∷ xs) (output ∷ outputs) new = (between : _) × Step old x output between × Chain Step between xs outputs new
Chain Step old [] (output ∷ outputs) new = ⊥
Chain Step old (x ∷ xs) [] new = ⊥

-- events and outputs, one after another
abbrev pub Run : State → List Event → List Output → State → Type 0
Run old events outputs new = Chain BrokerStep old events outputs new

-- a front of the events was worked, as long as the outputs that were added; all of them where no memory was refused
pub record Ran (old : State) (events : List Event) (before : List Output) (result : Result (Unit {0}) AllocError) (after : List Output) (new : State) : Type 0 where
  pub answers : List Output
  pub added : after ≡ before ++ answers
  pub run : Run old (take (length answers) events) answers new
  pub whole : OnOk result (length answers ≡ length events)

-- a broker that a front of the events reaches: between two of them, or while the next one goes on
pub record Reached (old : State) (events : List Event) (broker : Broker) : Type 0 where
  pub worked : List Event
  pub rest : List Event
  pub outputs : List Output
  pub between : State
  pub run : Run old worked outputs between
  pub front : events ≡ worked ++ rest
  pub here : (broker ≡ between.broker) ⊎ ((next : Event) × (later : List Event) × (rest ≡ next ∷ later) × Amid between.sessions between.broker next broker)

-- what a crash leaves of a node, as it is opened again: the name in doubt is settled, each topic is as a crash leaves it, and there
-- is no session
pub record StateCrash (old new : State) : Type 0 where
  pub per_ledger : new.broker.per_ledger ≡ old.broker.per_ledger
  pub service_url : new.broker.service_url ≡ old.broker.service_url
  pub settled : Broker
  pub settles : Settles old.broker.doubtful old.broker settled
  pub names : new.broker.names ≡ settled.names
  pub sure : new.broker.doubtful ≡ None
  pub count : length new.broker.topics ≡ length settled.topics
  pub each : (number : ℕ) → TopicCrash (topic_at old.broker number) (topic_at new.broker number)
  pub stages : (number : ℕ) → stage_at new number ≡ Resting
  pub sessions : new.sessions ≡ []
  pub used : new.used ≡ 0
  pub faults : old.faults ≤ new.faults

-- A node that works, or one that is down: of that one it is the state of which a crash left what there is.
pub record Life : Type 0 where
  pub up : Bool
  pub state : State

-- it stays down, and the device may have failed
pub record StaysDown (old : State) (new : Life) : Type 0 where
  pub down : new.up ≡ false
  pub state : new.state ≡ record old { faults = new.state.faults }
  pub faults : old.faults ≤ new.state.faults

pub record Opens (old : State) (new : Life) : Type 0 where
  pub up : new.up ≡ true
  pub crash : StateCrash old new.state

-- An opening after a crash. It is refused only for want of memory, or where the device failed in it.
abbrev pub OpeningEnds : Verdict → State → Life → Type 0
OpeningEnds verdict.Done old new = Opens old new
OpeningEnds (verdict.Refused refusal.NoMemory) old new = StaysDown old new
OpeningEnds (verdict.Refused refusal.Device) old new = StaysDown old new × (old.faults < new.state.faults)
OpeningEnds (verdict.Refused (refusal.Damaged file offset)) old new = ⊥
OpeningEnds (verdict.Refused refusal.NotInitialised) old new = ⊥
OpeningEnds (verdict.Refused refusal.Version) old new = ⊥
OpeningEnds (verdict.Refused refusal.TooLarge) old new = ⊥
OpeningEnds verdict.Full old new = ⊥
OpeningEnds verdict.Unknown old new = ⊥
OpeningEnds (verdict.Ended why) old new = ⊥

abbrev pub OpeningStep : State → Output → Life → Type 0
OpeningStep old output new = (output.bytes ≡ []) × OpeningEnds output.result old new

-- a node that is down knows no session and no topic
abbrev pub EventIn : Bool → Life → Event → Output → Life → Type 0
EventIn true old event output new = (new.up ≡ true) × BrokerStep old.state event output new.state
EventIn false old event output new = (output ≡ record { bytes = []; result = verdict.Unknown }) × (new ≡ old)

-- an event, or a crash and the opening after it
abbrev pub HappeningStep : Life → Happening → Output → Life → Type 0
HappeningStep old (happening.Event event) output new = EventIn old.up old event output new
HappeningStep old (happening.Crash) output new = OpeningStep old.state output new

-- happenings and outputs, one after another
abbrev pub AllowedRun : Life → List Happening → List Output → Life → Type 0
AllowedRun old happenings outputs new = Chain HappeningStep old happenings outputs new
