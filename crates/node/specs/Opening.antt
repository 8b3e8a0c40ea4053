-- A node, and a topic of it again, that are opened, whatever the files hold.
use Rattle.std.specs.Prelude.{◌≡◌, ◌⊎◌, ◌<◌, ◌≤◌, ◌^◌, ℕ, true, Some, None, Result, Ok, Err, List, [], length, slice_get}
use Rattle.disk.specs.Disk.{Disk, Image, Failed}
use Rattle.gated_log.specs.declared.refusal.Refusal.{Refusal}
use Rattle.gated_log.specs.declared.refusal.Refusal.TheVariants as refusal
use Rattle.managed_ledger.specs.Entries.{Ledger, end_of}
use Rattle.records.specs.Maps.{Kept}
use Rattle.topic_stores.specs.declared.store.TopicStore.{Ghosts as StoreMembers}
use Rattle.topic_core.specs.Messages.{marks_of}
use Rattle.topic_core.specs.State.{Topic, opened}
use Rattle.topic_core.specs.Crashes.{IsShorter, reopened}
use Rattle.session.specs.Broker.{Broker, topic_at}
use Rattle.catalog.specs.Names.{Names}
use Rattle.catalog.specs.Catalogs.{StandsFor as NamesStand}
use Rattle.catalog.specs.Catalogs.{OldCounts}
use Rattle.catalog.specs.Folded.{IsNewestFault as CatalogFault}
use Rattle.node.specs.State.{State, Resting, stage_at}
use Rattle.node.specs.Naming.{IsFormed}
use Rattle.node.specs.Laws.{IsAtStart}
use Rattle.node.specs.Standing.{disk_of, HeldStands}
use Rattle.node.specs.declared.held.Held.{Held}
use Rattle.node.specs.declared.site.Site.{Site}
use Rattle.node.specs.declared.event.Event.{Event}
use Rattle.node.specs.declared.event.Event.TheVariants.{Open, Bytes, Pump, Close, OnTopic}
use Rattle.node.specs.declared.event.TopicEvent.{TopicEvent}
use Rattle.node.specs.declared.event.TopicEvent.TheVariants.{Flush, Take, Write, Finish, Reopen}
use Rattle.node.specs.declared.event.Verdict.{Verdict}
use Rattle.node.specs.declared.event.Verdict.TheVariants as verdict
use Rattle.node.specs.declared.node.Node.{Node}

-- The files stand for these names, and for the entries and subscriptions of each topic; the node has them, and nothing happened to
-- it since: each topic is sound, owes nothing and has nothing waiting.
pub record IsJustOpened (files_stand : ℕ → Image → Ledger → Kept → Type 0) (files : Image) (state : State) : Type 0 where
  pub names : NamesStand state.broker.per_ledger files state.broker.names
  pub formed : IsFormed state.broker
  pub sure : state.broker.doubtful ≡ None
  pub topics : (number : ℕ) (t : Topic) → slice_get state.broker.topics number ≡ Some t
      → files_stand number files t.ledger t.kept × (t ≡ opened state.broker.per_ledger t.ledger (marks_of t.ledger) t.kept)
  pub start : IsAtStart state.broker
  pub stages : (number : ℕ) → stage_at state number ≡ Resting
  pub sessions : state.sessions ≡ []
  pub used : state.used ≡ 0

-- the first fault of so many topics: that of the first one whose files have a fault
pub record IsTopicFault (files_stand : ℕ → Image → Ledger → Kept → Type 0) (faulty : ℕ → Image → Refusal → Type 0) (count : ℕ) (files : Image) (why : Refusal) : Type 0 where
  pub number : ℕ
  pub there : number < count
  pub fault : faulty number files why
  pub first : (before : ℕ) → before < number → (ledger : Ledger) × (kept : Kept) × files_stand before files ledger kept

-- the first fault that stands in the files of a node: that a folder of version 1 counts, the catalog's, or that of its topics, by their numbers
abbrev pub IsFirstFault : (ℕ → Image → Ledger → Kept → Type 0) → (ℕ → Image → Refusal → Type 0) → Image → Refusal → Type 0
IsFirstFault files_stand faulty files why =
    CatalogFault files why ⊎ ((¬ OldCounts files) × (per_ledger : ℕ) × (names : Names) × NamesStand per_ledger files names × IsTopicFault files_stand faulty (length names) files why)

-- a node's files have one first fault
abbrev pub HaveOneFault : (ℕ → Image → Ledger → Kept → Type 0) → (ℕ → Image → Refusal → Type 0) → Type 0
HaveOneFault files_stand faulty = (files : Image) (one other : Refusal) → IsFirstFault files_stand faulty files one → IsFirstFault files_stand faulty files other → one ≡ other

-- it has what the files stand for, which can be counted, and nothing happened to it since
pub record IsOpened {T : Type 0} {store : StoreMembers T} (files_stand : ℕ → Image → Ledger → Kept → Type 0) (per_ledger number : ℕ) (files : Image) (h : Held T store) : Type 0 where
  pub stands : files_stand number files h.core.ledger h.core.kept
  pub few : end_of h.core.ledger ≤ 2 ^ 62
  pub opened : h.core ≡ opened per_ledger h.core.ledger (marks_of h.core.ledger) h.core.kept
  pub rests : h.flight ≡ None

module _ {T : Type 0} {store : StoreMembers T} where
  -- the device holds each of these topics
  abbrev pub AllStand : List (Held T store) → Disk → Type 0
  AllStand topics disk = (number : ℕ) (h : Held T store) → slice_get topics number ≡ Some h → HeldStands h disk

  -- each has what its files stand for, and nothing happened to it since
  abbrev pub AreJustOpened : (ℕ → Image → Ledger → Kept → Type 0) → ℕ → Image → List (Held T store) → Type 0
  AreJustOpened files_stand per_ledger files topics = (number : ℕ) (h : Held T store) → slice_get topics number ≡ Some h → IsOpened files_stand per_ledger number files h

module _ {T S : Type 0} {store : StoreMembers T} where
  -- the URL after an opening: the node has it, or it was handed back
  abbrev pub url_after : Result (Node T S store) (Refusal × Site S) → List ℕ
  url_after (Ok node) = node.topics.url
  url_after (Err refused) = refused.1.url

module _ {T S : Type 0} {store : StoreMembers T} (disk : S → Disk) where
  -- the device after it
  abbrev pub disk_after : Result (Node T S store) (Refusal × Site S) → Disk
  disk_after (Ok node) = disk_of disk node
  disk_after (Err refused) = disk refused.1.shelf

-- What the opening of a failed topic tells: a failure of the device only where the device failed. Where that is honest a topic
-- that is opened has what the files stand for; else memory was refused, the device failed, this is the first fault that stands
-- in the files, or they stand for fewer entries than it had committed.
pub record ReopenTells (files_stand : ℕ → Image → Ledger → Kept → Type 0) (faulty : ℕ → Image → Refusal → Type 0) (number : ℕ) (old new : Topic) (before after : Disk) (told : Verdict) : Type 0 where
  pub cause : told ≡ verdict.Refused refusal.Device → Failed before after
  pub found : before.honest → old.failed ≡ true → told ≡ verdict.Done
      → files_stand number before.seen new.ledger new.kept × (new ≡ reopened old new.ledger (marks_of new.ledger) new.kept)
  pub refused : before.honest → (why : Refusal) → told ≡ verdict.Refused why
      → (why ≡ refusal.NoMemory) ⊎ ((why ≡ refusal.Device) ⊎ (faulty number before.seen why ⊎ IsShorter files_stand number old before.seen why))

-- of an event that opens no topic it says nothing
abbrev pub TellsOn : (ℕ → Image → Ledger → Kept → Type 0) → (ℕ → Image → Refusal → Type 0) → TopicEvent → ℕ → Topic → Topic → Disk → Disk → Verdict → Type 0
TellsOn files_stand faulty Flush number old new before after told = Unit {0}
TellsOn files_stand faulty Take number old new before after told = Unit {0}
TellsOn files_stand faulty Write number old new before after told = Unit {0}
TellsOn files_stand faulty Finish number old new before after told = Unit {0}
TellsOn files_stand faulty Reopen number old new before after told = ReopenTells files_stand faulty number old new before after told

abbrev pub TellsIn : (ℕ → Image → Ledger → Kept → Type 0) → (ℕ → Image → Refusal → Type 0) → Event → Broker → Broker → Disk → Disk → Verdict → Type 0
TellsIn files_stand faulty Open old new before after told = Unit {0}
TellsIn files_stand faulty (Bytes who bytes) old new before after told = Unit {0}
TellsIn files_stand faulty (Pump who) old new before after told = Unit {0}
TellsIn files_stand faulty (Close who) old new before after told = Unit {0}
TellsIn files_stand faulty (OnTopic topic event) old new before after told = TellsOn files_stand faulty event topic (topic_at old topic) (topic_at new topic) before after told
