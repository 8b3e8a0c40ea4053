-- A machine that is driven through events and crashes.
use Rattle.std.specs.Prelude.{◌≡◌, ◌≢◌, ◌<◌, ℕ, suc, Bool, true, false, Option, Some, None, Result, IfOk, List, ◌∷◌, ◌++◌, length, take, slice_get}
use Rattle.std.specs.declared.alloc.AllocError.{AllocError}
use Rattle.disk.specs.declared.crash_shelf.CrashForm.{CrashForm}
use Rattle.disk.specs.Disk.{Disk, Image, Same}
use Rattle.disk.specs.Laid.{Laid, after_crash}
use Rattle.gated_log.specs.declared.refusal.Refusal.TheVariants as refusal
use Rattle.topic_stores.specs.declared.store.TopicStore.{Ghosts as StoreMembers}
use Rattle.subscriptions.specs.Statuses.{AreStatuses}
use Rattle.topic_core.specs.Standing.{Phase, Before, Written, Lost}
use Rattle.session.specs.Broker.{topic_at}
use Rattle.node.specs.State.{State, place_in, stage_at}
use Rattle.node.specs.Flights.{phase_at}
use Rattle.node.specs.Standing.{state_of, phase_in, known_by, known_in, known_of, StillKnows, Stands, AtRest, StandsForSome}
use Rattle.managed_ledger.specs.Entries.{Ledger, end_of}
use Rattle.records.specs.Maps.{Kept}
use Rattle.node.specs.Runs.{Life, AllowedRun}
use Rattle.node.specs.Cuts.{Amidst}
use Rattle.node.specs.Laws.{IsSoundBroker, IsAtStart, Accounts}
use Rattle.node.specs.Starting.{AccountsBehind}
use Rattle.node.specs.declared.held.Held.{Held}
use Rattle.node.specs.declared.event.Happening.{Happening}
use Rattle.node.specs.declared.event.Happening.TheVariants as happening
use Rattle.node.specs.declared.event.Output.{Output}
use Rattle.node.specs.declared.event.Verdict.{Verdict}
use Rattle.node.specs.declared.event.Verdict.TheVariants as verdict
use Rattle.node.specs.declared.status.TopicStatus.{TopicStatus}
use Rattle.node.specs.declared.power.Machine.{Machine}
use Rattle.node.specs.declared.power.Machine.TheVariants as machine

-- what is told of the topic at a place: its name, how many entries came to its ledger in all, where those that are still there begin, and
-- the statuses of its subscriptions
abbrev pub StatusIn : Option ℕ → State → Option TopicStatus → Type 0
StatusIn (Some number) state (Some status) =
    (status.number ≡ number) × (slice_get state.broker.names number ≡ Some status.name) × (status.entries ≡ end_of (topic_at state.broker number).ledger)
    × (status.base ≡ (topic_at state.broker number).ledger.base) × AreStatuses (topic_at state.broker number).subs.subs status.subscriptions.items
StatusIn (Some number) state None = ⊥
StatusIn None state told = told ≡ None

-- where the node is down nothing is told, and nothing of a topic that isn't there
abbrev pub StatusOf : Bool → State → ℕ → Option TopicStatus → Type 0
StatusOf true state number told = StatusIn (place_in state.broker.topics number) state told
StatusOf false state number told = told ≡ None

-- the topic of this number has so many segment files from where its ledger begins on, by the files alone
abbrev pub HasSegments : (ℕ → Image → List ℕ → Type 0) → ℕ → Image → ℕ → Type 0
HasSegments laid number files segments = (counts : List ℕ) × laid number files counts × (segments ≡ length counts)

-- as many segments are told as there are; where the store met a failure of the device, as many as it knows of
abbrev pub TellsSegments : (ℕ → Image → List ℕ → Type 0) → ℕ → Phase → Image → ℕ → ℕ → Type 0
TellsSegments laid number Before files known segments = HasSegments laid number files segments
TellsSegments laid number (Written base) files known segments = HasSegments laid number files segments
TellsSegments laid number Lost files known segments = segments ≡ known

-- so it is of the topic that has this number, by what its store remembers
abbrev pub SegmentsAt : {T : Type 0} {store : StoreMembers T} → (ℕ → Image → List ℕ → Type 0) → ℕ → List (Held T store) → Image → Option TopicStatus → Type 0
SegmentsAt laid number held files (Some status) = (h : Held _ _) → slice_get held number ≡ Some h → TellsSegments laid number (phase_in h) files (known_by h) status.segments
SegmentsAt laid number held files None = Unit {0}

-- how far the store of the topic of a number is
abbrev pub phase_of : State → ℕ → Phase
phase_of state number = phase_at (topic_at state.broker number).failed (stage_at state number)

-- Of how many segments the stores know, while a node goes on: those that work know of those in these files, which reads gave before, and
-- what they know goes on.
pub record KnowsOn (laid : ℕ → Image → List ℕ → Type 0) (files : Image) (old new : State) (known now : ℕ → ℕ) : Type 0 where
  pub there : (number : ℕ) → number < length old.broker.topics → phase_of old number ≢ Lost → HasSegments laid number files (known number)
  pub still : (number : ℕ) → number < length old.broker.topics → StillKnows (phase_of old number) (phase_of new number) (known number) (now number)

-- the files stand for what a crash leaves of a broker that a front of the happenings reaches, the first opening before them
abbrev pub StandsAmidst : (ℕ → Image → Ledger → Kept → Type 0) → State → List Happening → Image → Type 0
StandsAmidst files_stand first happenings files =
    StandsForSome files_stand (λ broker. Amidst (record { up = false; state = first }) (happening.Crash ∷ happenings) broker) files

-- the device of a machine
abbrev pub shelf_in : {T S : Type 0} {store : StoreMembers T} → Machine T S store → S
shelf_in (machine.Up node) = node.topics.shelf
shelf_in (machine.Down site) = site.shelf

-- of how many segments the store of the topic of a number knows; a node that is down has no stores
abbrev pub segments_known : {T S : Type 0} {store : StoreMembers T} → Machine T S store → ℕ → ℕ
segments_known (machine.Up node) number = known_in (known_of node.topics) number
segments_known (machine.Down site) number = 0

-- The power was cut, in the form that was ordered last, and the node was opened, which writes nothing: reads give what the crash
-- left, but where the device failed in the opening.
pub record Cut {S : Type 0} (disk : S → Disk) (laid : S → Laid) (left_as : CrashForm → S → S → Type 0) (old : S) (told : Verdict) (new : S) : Type 0 where
  pub between : S
  pub left : left_as (laid old).form old between
  pub burnt : laid between ≡ after_crash (laid old)
  pub seen : (disk between).honest → told ≢ verdict.Refused refusal.Device → Same (disk between).seen (disk new).seen

module _ {T S : Type 0} {store : StoreMembers T} (disk : S → Disk) where
  -- The machine holds this life: a node that works, or the site alone, whose device stands for what a crash leaves of the state.
  abbrev pub Holds : Machine T S store → Life → Type 0
  Holds (machine.Up node) life = Stands disk node × (life ≡ record { up = true; state = state_of disk node })
  Holds (machine.Down site) life = AtRest store.stands life.state (disk site.shelf) × (life.up ≡ false) × (site.url ≡ life.state.broker.service_url)

  -- so it is of the status of a machine
  abbrev pub SegmentsTold : (ℕ → Image → List ℕ → Type 0) → Machine T S store → ℕ → Option TopicStatus → Type 0
  SegmentsTold laid (machine.Up node) number told = SegmentsAt laid number node.topics.held.items (disk node.topics.shelf).seen told
  SegmentsTold laid (machine.Down site) number told = Unit {0}

  -- what it does
  abbrev pub disk_in : Machine T S store → Disk
  disk_in m = disk (shelf_in m)

  -- The node was opened, and then a front of the happenings was worked, as long as the outputs that were added; all of them
  -- where no memory was refused for an output. From a start where nothing is owed, what the sessions were told is accounted for;
  -- from any sound one, what they were told since the first opening, where that was good.
  pub record Drove (first : State) (happenings : List Happening) (before : List Output) (result : Result (Machine T S store) AllocError) (after : List Output) : Type 0 where
    pub answers : List Output
    pub last : Life
    pub added : after ≡ before ++ answers
    pub run : AllowedRun (record { up = false; state = first }) (take (length answers) (happening.Crash ∷ happenings)) answers last
    pub whole : IfOk result (λ machine. (length answers ≡ suc (length happenings)) × Holds machine last)
    pub accounts : IsAtStart first.broker → Accounts first.broker (take (length answers) (happening.Crash ∷ happenings)) answers last.state.broker
    pub since : IsSoundBroker first.broker → AccountsBehind first happenings answers last.state.broker
