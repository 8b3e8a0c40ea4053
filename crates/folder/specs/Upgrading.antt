-- What an upgrade of a folder tells.
use Rattle.std.specs.Prelude.{◌≡◌, ◌⊎◌, ◌+◌, ◌≤◌, ◌++◌, ℕ, List, length, codes}
use Rattle.std.specs.Fmt.{decimal}
use Rattle.disk.specs.Areas.{catalog_file}
use Rattle.disk.specs.Disk.{Disk, Image}
use Rattle.disk.specs.declared.file_id.Folder.TheVariants.{Two}
use Rattle.gated_log.specs.declared.label.Label.{Label}
use Rattle.gated_log.specs.Labels.{header_size}
use Rattle.gated_log.specs.Headers.{IsOpen}
use Rattle.catalog.specs.Catalogs.{IsCatalogLabel, OldCounts}
use Rattle.node.specs.declared.upgrading.Upgraded.{Upgraded}
use Rattle.node.specs.declared.upgrading.Upgraded.TheVariants.{Done, Already}
use Rattle.node.specs.Upgrading.{Content, IsOld, IsNew, IsUpgradeFault}
use Rattle.folder.specs.declared.fault.FolderFault.{FolderFault}
use Rattle.folder.specs.declared.fault.FolderFault.TheVariants.{Refused, AlreadyInitialised, HoldsTopics, InUse}
use Rattle.folder.specs.Faults.{IsOutage}

abbrev pub upgraded_line : Upgraded → List ℕ
upgraded_line (Done topics) = codes "upgraded, " ++ (decimal topics ++ codes " topics\n")
upgraded_line Already = codes "already version 2\n"

-- the files held so many topics, and stand for the same in a folder of version 2 now, whatever crash comes; or no folder of version 1
-- counts, whatever crash comes, and the header of the list of version 2 is one
abbrev pub Upgrades : Disk → Disk → Upgraded → Type 0
Upgrades old new (Done topics) = (x : Content) × IsOld x old.seen × (topics ≡ length x.names) × ((c : Image) → new.may_leave c → IsNew x c)
Upgrades old new Already =
    (¬ OldCounts old.seen) × ((label : Label) × IsCatalogLabel label × IsOpen Two label (old.seen catalog_file))
    × ((c : Image) → new.may_leave c → ¬ OldCounts c) × (header_size Two + 1 ≤ length (old.seen catalog_file))

-- the first fault that stands in the files
abbrev pub IsFaultOfFiles : Image → FolderFault → Type 0
IsFaultOfFiles files (Refused why) = IsUpgradeFault files why
IsFaultOfFiles files AlreadyInitialised = ⊥
IsFaultOfFiles files HoldsTopics = ⊥
IsFaultOfFiles files InUse = ⊥

-- memory was refused, or the device failed, or that
abbrev pub IsFaultOfUpgrade : Image → FolderFault → Type 0
IsFaultOfUpgrade files fault = IsOutage fault ⊎ IsFaultOfFiles files fault
