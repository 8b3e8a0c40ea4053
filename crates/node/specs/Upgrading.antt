-- What an upgrade of a folder makes of one of version 1.
use Rattle.std.specs.Prelude.{◌≡◌, ◌⊎◌, ◌<◌, ℕ, Some, List, length, slice_get}
use Rattle.disk.specs.Areas.{catalog_file, served}
use Rattle.disk.specs.declared.file_id.Folder.TheVariants.{One, Two}
use Rattle.disk.specs.Disk.{Disk, Image}
use Rattle.gated_log.specs.declared.refusal.Refusal.{Refusal}
use Rattle.managed_ledger.specs.Entries.{Ledger}
use Rattle.records.specs.Maps.{Kept}
use Rattle.catalog.specs.Names.{Names}
use Rattle.catalog.specs.Catalogs.{OldCounts, StandsIn}
use Rattle.catalog.specs.Folded.{IsFaultIn, IsHeaderFault}
use Rattle.topic_stores.specs.Old.{AreIn, IsOldFault, old}

-- what a folder holds: how many entries a ledger has, the names of its topics, and of each its entries and subscriptions
pub record Content : Type 0 where
  pub per_ledger : ℕ
  pub names : Names
  pub topics : List (Ledger × Kept)

-- the files of each topic of version 1 stand for its part
abbrev pub AreOld : Content → Image → Type 0
AreOld x c = (number : ℕ) (t : Ledger × Kept) → slice_get x.topics number ≡ Some t → AreIn (old number) c t.0 t.1

-- and those of version 2
abbrev pub AreNew : Content → Image → Type 0
AreNew x c = (number : ℕ) (t : Ledger × Kept) → slice_get x.topics number ≡ Some t → AreIn (served number) c t.0 t.1

-- a folder of version 1 that holds this
pub record IsOld (x : Content) (c : Image) : Type 0 where
  pub as_many : length x.topics ≡ length x.names
  pub names : StandsIn One x.per_ledger c x.names
  pub topics : AreOld x c

-- a folder of version 2 that holds this: none of version 1 counts beside it
pub record IsNew (x : Content) (c : Image) : Type 0 where
  pub as_many : length x.topics ≡ length x.names
  pub newest : ¬ OldCounts c
  pub names : StandsIn Two x.per_ledger c x.names
  pub topics : AreNew x c

-- the topic of this number stands in these files of version 1, and for the same in those of version 2, whatever crash comes
pub record IsCopied (number : ℕ) (files : Image) (disk : Disk) : Type 0 where
  pub ledger : Ledger
  pub kept : Kept
  pub was : AreIn (old number) files ledger kept
  pub is : (c : Image) → disk.may_leave c → AreIn (served number) c ledger kept

abbrev pub AreCopied : ℕ → Image → Disk → Type 0
AreCopied count files disk = (number : ℕ) → number < count → IsCopied number files disk

-- the first fault of so many topics of version 1: that of the first one whose files have a fault
pub record IsOldTopicFault (count : ℕ) (files : Image) (why : Refusal) : Type 0 where
  pub number : ℕ
  pub there : number < count
  pub fault : IsOldFault number files why
  pub first : (before : ℕ) → before < number → (ledger : Ledger) × (kept : Kept) × AreIn (old before) files ledger kept

-- why there is no upgrade: the first fault of the folder of version 1; or where none counts, that of the header of the list of version 2
abbrev pub IsUpgradeFault : Image → Refusal → Type 0
IsUpgradeFault files why =
    (OldCounts files × (IsFaultIn One files why ⊎ ((per_ledger : ℕ) × (names : Names) × StandsIn One per_ledger files names × IsOldTopicFault (length names) files why)))
    ⊎ ((¬ OldCounts files) × IsHeaderFault (files catalog_file) why)
