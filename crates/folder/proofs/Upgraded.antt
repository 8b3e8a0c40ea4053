-- What an upgrade answered, as the command tells it.
use Rattle.std.proofs.Common.{◌≡◌, ◌⊎◌, ◌+◌, ◌≤◌, ℕ, length, refl, ap, inl, inr, ⊎_elim}
use Rattle.disk.specs.Areas.{catalog_file}
use Rattle.disk.specs.Disk.{Disk, Image}
use Rattle.disk.specs.declared.file_id.Folder.TheVariants.{Two}
use Rattle.gated_log.specs.declared.label.Label.{Label}
use Rattle.gated_log.specs.declared.refusal.Refusal.{Refusal}
use Rattle.gated_log.specs.declared.refusal.Refusal.TheVariants.{Device, NoMemory}
use Rattle.gated_log.specs.Labels.{header_size}
use Rattle.gated_log.specs.Headers.{IsOpen}
use Rattle.catalog.specs.Catalogs.{IsCatalogLabel, OldCounts}
use Rattle.node.specs.declared.upgrading.Upgraded.{Upgraded}
use Rattle.node.specs.declared.upgrading.Upgraded.TheVariants.{Done, Already}
use Rattle.node.specs.Upgrading.{Content, IsOld, IsNew, IsUpgradeFault}
use Rattle.folder.specs.declared.fault.FolderFault.TheVariants.{Refused}
use Rattle.folder.specs.Upgrading.{Upgrades, IsFaultOfUpgrade}

-- what became of the files
pub upgrades_by : (old new : Disk) (u : Upgraded)
    → ((topics : ℕ) → u ≡ Done topics → (x : Content) × IsOld x old.seen × (topics ≡ length x.names) × ((c : Image) → new.may_leave c → IsNew x c))
    → (u ≡ Already → (¬ OldCounts old.seen) × ((label : Label) × IsCatalogLabel label × IsOpen Two label (old.seen catalog_file))
    × ((c : Image) → new.may_leave c → ¬ OldCounts c) × (header_size Two + 1 ≤ length (old.seen catalog_file)))
    → Upgrades old new u
upgrades_by old new (Done topics) found already = found topics refl
upgrades_by old new Already found already = already refl

-- why there was none
pub fault_by : (files : Image) (why : Refusal) → ((why ≡ NoMemory) ⊎ ((why ≡ Device) ⊎ IsUpgradeFault files why)) → IsFaultOfUpgrade files (Refused why)
fault_by files why told =
    ⊎_elim (λ (memory : why ≡ NoMemory). inl (inl (ap (λ (w : Refusal). Refused w) memory)))
    (λ (rest : (why ≡ Device) ⊎ IsUpgradeFault files why). ⊎_elim (λ (device : why ≡ Device). inl (inr (ap (λ (w : Refusal). Refused w) device))) (λ (fault : IsUpgradeFault files why). inr fault) rest) told
