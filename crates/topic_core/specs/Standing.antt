-- A topic on its device: the core, its store and the files.
use Rattle.std.specs.Prelude.{◌≡◌, ℕ, ◌+◌, ◌≤◌, ◌^◌, Bool, true, false, ◌||◌, is_some, Result, Ok, Err, length}
use Rattle.disk.specs.Disk.{Disk, Image}
use Rattle.managed_ledger.specs.Entries.{Ledger, end_of, lengthened, trimmed}
use Rattle.records.specs.Floors.{StartFrom}
use Rattle.records.specs.Maps.{Kept}
use Rattle.subscriptions.specs.Laws.{IsKept}
use Rattle.subscriptions.specs.Marks.{marks_in}
use Rattle.topic_stores.specs.declared.batch.Batch.{Batch}
use Rattle.topic_stores.specs.declared.error.WriteError.{WriteError}
use Rattle.topic_stores.specs.declared.error.WriteError.TheVariants.{Device, NoMemory}
use Rattle.topic_stores.specs.Views.{StoreView, Settled}
use Rattle.topic_stores.specs.Writing.{StandsFor}
use Rattle.topic_core.specs.Messages.{marks_of}
use Rattle.topic_core.specs.State.{Topic, floor, entries_of, entries_in_doubt, changes_in_doubt}
use Rattle.topic_core.specs.Flush.{awaits}
use Rattle.topic_core.specs.Crashes.{IsLeft, longer, changed}
use Rattle.topic_core.specs.Soundness.{IsAcknowledged}

-- how far the store is, beside the core
pub data Phase : Type 0 where
  -- it has what the core counts as committed: no flush is under way, or its batch isn't written
  Before : Phase
  -- it has what is in doubt too, in a ledger that begins there: the batch is written, and the core doesn't know yet
  Written : ℕ → Phase
  -- it met a failure of the device, of which the core may not know yet
  Lost : Phase

-- where the write of a batch ended so
abbrev pub phase_after : Result ℕ WriteError → Phase
phase_after (Ok base) = Written base
phase_after (Err NoMemory) = Before
phase_after (Err Device) = Lost

-- where no flush is under way
abbrev pub resting : Bool → Phase
resting true = Lost
resting false = Before

-- a whole flush, a reopening or a dispatch leaves the phase, but for a topic that fails by it or is opened again
abbrev pub phase_then : Bool → Bool → Phase → Phase
phase_then true true phase = phase
phase_then true false phase = Before
phase_then false true phase = Lost
phase_then false false phase = phase

-- the batch is a copy of what the core has handed on, there are numbers for its entries, and no subscription that it makes begins
-- before the ledger
pub record IsFor (core : Topic) (batch : Batch) : Type 0 where
  pub awaited : awaits core batch ≡ true
  pub entries : batch.entries.items ≡ entries_in_doubt core
  pub changes : batch.changes.items ≡ changes_in_doubt core
  pub numbered : core.committed + length batch.entries.items ≤ 2 ^ 62
  pub starts : StartFrom core.ledger.base batch.changes.items
  pub rises : core.ledger.base ≤ floor core

-- the store remembers what the core counts as committed, in a ledger that begins no later
pub record IsBefore (core : Topic) (v : StoreView) : Type 0 where
  pub core_works : core.failed ≡ false
  pub works : v.failed ≡ false
  pub counted : v.count ≡ core.committed
  pub kept : v.kept ≡ core.kept
  pub begins : v.base ≤ core.ledger.base

-- it remembers what is in doubt too, in a ledger that begins there, and no later than it may
pub record IsWritten (base : ℕ) (core : Topic) (v : StoreView) : Type 0 where
  pub core_works : core.failed ≡ false
  pub under_way : is_some core.doubt ≡ true
  pub works : v.failed ≡ false
  pub counted : v.count ≡ core.committed + entries_of core.doubt
  pub kept : v.kept ≡ changed core
  pub begins : v.base ≡ base
  pub within : base ≤ floor core

-- it refuses
pub record IsLost (core : Topic) (v : StoreView) : Type 0 where
  pub told : (core.failed || is_some core.doubt) ≡ true
  pub failed : v.failed ≡ true

abbrev pub Remembers : Phase → Topic → StoreView → Type 0
Remembers Before core v = IsBefore core v
Remembers (Written base) core v = IsWritten base core v
Remembers Lost core v = IsLost core v

-- Topic and store remember the same, whatever the device does. The subscriptions are what the changes make of the durable ones.
-- A segment of the store is full of as many entries as a ledger id has entry ids.
pub record Match (phase : Phase) (core : Topic) (v : StoreView) : Type 0 where
  pub kept : IsKept core.committed core.kept core.subs
  pub remembers : Remembers phase core v
  pub numbered : v.per_ledger ≡ core.per_ledger

-- what the device holds
abbrev pub Holds : Phase → Topic → StoreView → Disk → Type 0
Holds Before core v disk = Settled v disk core.ledger core.kept
Holds (Written base) core v disk = Settled v disk (trimmed base (longer core)) (changed core)
Holds Lost core v disk = Unit {0}

-- Topic, store and device hold a topic together, in this phase. Whatever a crash now leaves stands for what a crash leaves of the
-- topic. Each entry has its marks, and what a trim took or may take is acknowledged.
pub record Standing (files_stand : ℕ → Image → Ledger → Kept → Type 0) (phase : Phase) (core : Topic) (v : StoreView) (disk : Disk) : Type 0 where
  pub matched : Match phase core v
  pub honest : disk.honest
  pub counted : end_of core.ledger ≡ core.committed
  pub marks : marks_in core.subs ≡ marks_of (lengthened core.ledger core.waiting)
  pub acknowledged : IsAcknowledged core
  pub left : (files : Image) → disk.may_leave files → StandsFor (files_stand v.topic) (IsLeft core) files
  pub holds : Holds phase core v disk

-- Store and device that go with the old core go with the new one: the same entries are committed, it works or has failed as
-- before, the same is in doubt, and the subscriptions are what the changes make of the same durable ones. A ledger id has as
-- many entry ids as before, and where each entry had its marks, each has.
pub record GoesOn (old new : Topic) : Type 0 where
  pub committed : new.committed ≡ old.committed
  pub ledger : new.ledger ≡ old.ledger
  pub durable : new.kept ≡ old.kept
  pub failed : new.failed ≡ old.failed
  pub doubt : new.doubt ≡ old.doubt
  pub entries : entries_in_doubt new ≡ entries_in_doubt old
  pub changes : changes_in_doubt new ≡ changes_in_doubt old
  pub kept : (kept : Kept) → IsKept old.committed kept old.subs → IsKept new.committed kept new.subs
  pub per_ledger : new.per_ledger ≡ old.per_ledger
  pub marks : (ledger : Ledger) → marks_in old.subs ≡ marks_of (lengthened ledger old.waiting) → marks_in new.subs ≡ marks_of (lengthened ledger new.waiting)
