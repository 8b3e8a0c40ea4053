-- A broker that is opened over its devices, the catalog's and one for each topic by its number, whatever their files hold.
use Rattle.std.specs.Prelude.{◌≡◌, ◌⊎◌, ◌<◌, ℕ, Some, List, length, slice_get}
use Rattle.disk.specs.Disk.{Disk, Image, Same, Leaves, Kept as Counted, Failed}
use Rattle.disk.specs.Contents.{Settled}
use Rattle.disk.specs.Areas.{Area, Agree, OfTopic}
use Rattle.gated_log.specs.declared.refusal.Refusal.{Refusal}
use Rattle.managed_ledger.specs.Entries.{Ledger}
use Rattle.records.specs.Maps.{Kept}
use Rattle.topic_stores.specs.declared.store.TopicStore.{Ghosts as StoreMembers}
use Rattle.topic_core.specs.Messages.{marks_of}
use Rattle.topic_core.specs.Standing.{Before, Standing}
use Rattle.topic_core.specs.State.{Topic, opened}
use Rattle.catalog.specs.Names.{Names}
use Rattle.catalog.specs.declared.catalog.Catalog.{Catalog}
use Rattle.catalog.specs.Catalogs.{IsList, Holds, StandsFor as NamesStand, OldCounts, remembered, per_ledger}
use Rattle.catalog.specs.Folded.{IsNewestFault as CatalogFault}
use Rattle.topic_lock.specs.declared.devices.Devices.{Devices}
use Rattle.topic_lock.specs.declared.part.OpenPart.{OpenPart}

-- the topic has what the files of its number stand for, and nothing happened to it since
pub record IsOpened (files_stand : ℕ → Image → Ledger → Kept → Type 0) (per_ledger number : ℕ) (files : Image) (t : Topic) : Type 0 where
  pub stands : files_stand number files t.ledger t.kept
  pub opened : t ≡ opened per_ledger t.ledger (marks_of t.ledger) t.kept

-- An opening wrote nothing to a device. What reads give stays, but of a file of this area where the device failed.
pub record OnlyReads (lost : Type 0) (own : Area) (old new : Disk) : Type 0 where
  pub seen : old.honest → ¬ lost → Same old.seen new.seen
  pub others : old.honest → Agree (λ f. ¬ own f) old.seen new.seen
  pub any_moment : old.honest → Leaves old.may_leave old new
  pub kept : Counted old new

-- ---- topics by their numbers

module _ {T : Type 0} {store : StoreMembers T} where
  -- each has its number, and the name of that number
  abbrev pub AreNumbered : Names → List (OpenPart T store) → Type 0
  AreNumbered names parts = (number : ℕ) (part : OpenPart T store) → slice_get parts number ≡ Some part → (part.number ≡ number) × (slice_get names number ≡ Some part.name)

module _ {S : Type 0} (disk : S → Disk) where
  abbrev pub AreHonest : List S → Type 0
  AreHonest shelves = (number : ℕ) (shelf : S) → slice_get shelves number ≡ Some shelf → (disk shelf).honest

  -- each device was only read, of the files of its topic
  abbrev pub AreOnlyRead : Type 0 → List S → List S → Type 0
  AreOnlyRead lost old new = (number : ℕ) (before after : S) → slice_get old number ≡ Some before → slice_get new number ≡ Some after → OnlyReads lost (OfTopic number) (disk before) (disk after)

  -- one of the devices has failed
  pub record OneFailed (old new : List S) : Type 0 where
    pub number : ℕ
    pub before : S
    pub after : S
    pub was : slice_get old number ≡ Some before
    pub is : slice_get new number ≡ Some after
    pub failed : Failed (disk before) (disk after)

  -- the first fault of so many topics, each on its device: that of the first one whose files have a fault
  pub record IsTopicFault (files_stand : ℕ → Image → Ledger → Kept → Type 0) (faulty : ℕ → Image → Refusal → Type 0) (count : ℕ) (shelves : List S) (why : Refusal) : Type 0 where
    pub number : ℕ
    pub there : number < count
    pub shelf : S
    pub own : slice_get shelves number ≡ Some shelf
    pub fault : faulty number (disk shelf).seen why
    pub first : (before : ℕ) (other : S) → before < number → slice_get shelves before ≡ Some other → (ledger : Ledger) × (kept : Kept) × files_stand before (disk other).seen ledger kept

  -- the first fault that stands in the files: the catalog's, or that of its topics by their numbers
  abbrev pub IsFirstFault : (ℕ → Image → Ledger → Kept → Type 0) → (ℕ → Image → Refusal → Type 0) → Devices S → Refusal → Type 0
  IsFirstFault files_stand faulty devices why = CatalogFault (disk devices.catalog).seen why
      ⊎ ((¬ OldCounts (disk devices.catalog).seen) × (per_ledger : ℕ) × (names : Names) × NamesStand per_ledger (disk devices.catalog).seen names × IsTopicFault files_stand faulty (length names) devices.topics.items why)

  -- the catalog's file stands for names, and the files of each topic of them, on its device, for entries and subscriptions
  pub record FilesStand (files_stand : ℕ → Image → Ledger → Kept → Type 0) (devices : Devices S) : Type 0 where
    pub per_ledger : ℕ
    pub names : Names
    pub named : NamesStand per_ledger (disk devices.catalog).seen names
    pub topics : (number : ℕ) (shelf : S) → number < length names → slice_get devices.topics.items number ≡ Some shelf → (ledger : Ledger) × (kept : Kept) × files_stand number (disk shelf).seen ledger kept

  -- the catalog has the names that its file stood for, and goes with the file as it is now
  pub record IsCatalogOpened (catalog : Catalog) (old new : Devices S) : Type 0 where
    pub named : NamesStand (per_ledger catalog) (disk old.catalog).seen (remembered catalog)
    pub settled : Settled (Holds catalog) (disk new.catalog) (remembered catalog)

  -- one of them has failed
  abbrev pub AnyFailed : Devices S → Devices S → Type 0
  AnyFailed old new = Failed (disk old.catalog) (disk new.catalog) ⊎ OneFailed old.topics.items new.topics.items

  -- each was only read
  pub record AllOnlyRead (lost : Type 0) (old new : Devices S) : Type 0 where
    pub catalog : OnlyReads lost IsList (disk old.catalog) (disk new.catalog)
    pub topics : AreOnlyRead lost old.topics.items new.topics.items

  -- each topic has what the files on its device stood for, and stands on that device as it is now
  module _ {T : Type 0} {store : StoreMembers T} where
    abbrev pub AreOpened : ℕ → List S → List S → List (OpenPart T store) → Type 0
    AreOpened per_ledger old new parts = (number : ℕ) (part : OpenPart T store) (before after : S) → slice_get parts number ≡ Some part → slice_get old number ≡ Some before → slice_get new number ≡ Some after → (disk before).honest
        → IsOpened store.stands per_ledger number (disk before).seen part.core × Standing store.stands Before part.core (store.view part.stores) (disk after)
