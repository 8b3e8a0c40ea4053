-- What a node keeps through a life, and what no output of one is.
use Rattle.std.specs.Prelude.{◌≡◌, ℕ, Some, List, slice_get}
use Rattle.std.specs.List.{AllByRecursion}
use Rattle.gated_log.specs.declared.refusal.Refusal.TheVariants as refusal
use Rattle.session.specs.Broker.{Broker}
use Rattle.node.specs.State.{State}
use Rattle.node.specs.Runs.{Run, Life, AllowedRun}
use Rattle.node.specs.Cuts.{Turn, AllowedLife}
use Rattle.node.specs.declared.event.Event.{Event}
use Rattle.node.specs.declared.event.Happening.{Happening}
use Rattle.node.specs.declared.event.Output.{Output}
use Rattle.node.specs.declared.event.Verdict.{Verdict}
use Rattle.node.specs.declared.event.Verdict.TheVariants as verdict

-- a number that has a name keeps it, and the broker keeps its URL and how many entry ids a ledger id has
pub record Keeps (old new : Broker) : Type 0 where
  pub names : (number : ℕ) (name : List ℕ) → slice_get old.names number ≡ Some name → slice_get new.names number ≡ Some name
  pub service_url : new.service_url ≡ old.service_url
  pub per_ledger : new.per_ledger ≡ old.per_ledger

-- so does each run and each life
pub record NamesAreKept : Type 0 where
  pub run : (old : State) (events : List Event) (outputs : List Output) (new : State) → Run old events outputs new → Keeps old.broker new.broker
  pub life : (old : Life) (happenings : List Happening) (outputs : List Output) (new : Life) → AllowedRun old happenings outputs new → Keeps old.state.broker new.state.broker
  pub cut : (old : Life) (turns : List Turn) (outputs : List Output) (new : Life) → AllowedLife old turns outputs new → Keeps old.state.broker new.state.broker

-- a refusal is for want of memory or for a failure of the device: it tells no fault of the files, and nothing that is too large
abbrev pub TellsNoFault : Verdict → Type 0
TellsNoFault verdict.Done = Unit {0}
TellsNoFault (verdict.Ended why) = Unit {0}
TellsNoFault (verdict.Refused refusal.NoMemory) = Unit {0}
TellsNoFault (verdict.Refused refusal.Device) = Unit {0}
TellsNoFault (verdict.Refused (refusal.Damaged file offset)) = ⊥
TellsNoFault (verdict.Refused refusal.NotInitialised) = ⊥
TellsNoFault (verdict.Refused refusal.Version) = ⊥
TellsNoFault (verdict.Refused refusal.TooLarge) = ⊥
TellsNoFault verdict.Full = Unit {0}
TellsNoFault verdict.Unknown = Unit {0}

abbrev pub TellNoFault : List Output → Type 0
TellNoFault outputs = AllByRecursion (λ output. TellsNoFault output.result) outputs

-- so it is of each run and each life
pub record OutputsTellNoFault : Type 0 where
  pub run : (old : State) (events : List Event) (outputs : List Output) (new : State) → Run old events outputs new → TellNoFault outputs
  pub life : (old : Life) (happenings : List Happening) (outputs : List Output) (new : Life) → AllowedRun old happenings outputs new → TellNoFault outputs
  pub cut : (old : Life) (turns : List Turn) (outputs : List Output) (new : Life) → AllowedLife old turns outputs new → TellNoFault outputs
