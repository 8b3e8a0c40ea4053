-- What a catalog remembers of its file.
use Rattle.std.specs.Prelude.{◌≡◌, ◌≢◌, ◌⊎◌, ◌+◌, ℕ, Bool, List, ◌∷◌, length, drop}
use Rattle.std.proofs.Common.{ap, get_or, sym, ◌∙◌}
use Rattle.disk.specs.declared.file_id.FileId.{FileId}
use Rattle.disk.specs.Areas.{catalog_file}
use Rattle.disk.specs.Disk.{Image}
use Rattle.disk.specs.declared.file_id.Folder.{Folder}
use Rattle.disk.specs.declared.file_id.Folder.TheVariants.{One, Two}
use Rattle.disk.specs.declared.file_id.FileId.TheVariants.{Catalog}
use Rattle.gated_log.specs.declared.label.Label.{Label}
use Rattle.gated_log.specs.Labels.{plain}
use Rattle.gated_log.specs.Headers.{HasOpenHeader}
use Rattle.gated_log.specs.Batches.{IsLog}
use Rattle.gated_log.specs.Logs.{LogHolds, log_id, log_content, log_failed}
use Rattle.catalog.specs.declared.old.OldCatalog.{OldCatalog}
use Rattle.catalog.specs.declared.catalog.Catalog.{Catalog as NameList}
use Rattle.catalog.specs.Names.{Names, AreNames, IsPerLedger}

-- its file
abbrev pub Own : FileId → Type 0
Own f = f ≡ catalog_file

-- the list of topics of a folder of this version stands for this number of entries a ledger and these names
pub record StandsIn (folder : Folder) (number : ℕ) (image : Image) (names : Names) : Type 0 where
  pub log : IsLog folder (plain number) names (image (Catalog folder))
  pub ledgers : IsPerLedger number
  pub names_are : AreNames names

-- the file stands for them
abbrev pub StandsFor : ℕ → Image → Names → Type 0
StandsFor = StandsIn Two

-- a folder of version 1 counts: the header of its list of topics is open, whatever else stands in that file
abbrev pub OldCounts : Image → Type 0
OldCounts image = HasOpenHeader One (image (Catalog One))

-- all of that list but its gate, which isn't open any more
pub record IsClosedOf (old new : List ℕ) : Type 0 where
  pub gate : ℕ
  pub closed : gate ≢ 1
  pub bytes : new ≡ gate ∷ drop 1 old

-- and then its header isn't open
pub not_open : (folder : Folder) (old new : List ℕ) → IsClosedOf old new → ¬ HasOpenHeader folder new
not_open folder old new is = λ still. is.closed (ap (λ (l : List ℕ). get_or l 0 0) (sym is.bytes ∙ still.bytes))

-- the list of topics of a folder of either version
abbrev pub IsList : FileId → Type 0
IsList f = (f ≡ Catalog One) ⊎ (f ≡ Catalog Two)

-- the label of a list's header: the number of entries a ledger alone
pub record IsCatalogLabel (label : Label) : Type 0 where
  pub alone : label ≡ plain label.number
  pub ledgers : IsPerLedger label.number

-- the names that it remembers
abbrev pub remembered : NameList → Names
remembered catalog = catalog.names.keys

-- how many entries a ledger has
abbrev pub per_ledger : NameList → ℕ
per_ledger catalog = (log_id catalog.log).label.number

-- the same of the list of a folder of version 1
abbrev pub old_names : OldCatalog → Names
old_names old = old.names.keys

abbrev pub old_per_ledger : OldCatalog → ℕ
old_per_ledger old = old.label.number

-- an append failed
abbrev pub failed : NameList → Bool
failed catalog = log_failed catalog.log

-- as many entries a ledger, and as many names or one more
abbrev pub Follows : NameList → NameList → Type 0
Follows old new = (per_ledger new ≡ per_ledger old) × ((length (remembered new) ≡ length (remembered old)) ⊎ (length (remembered new) ≡ length (remembered old) + 1))

-- the catalog works, and the file holds these names just as it remembers them
pub record Holds (catalog : NameList) (image : Image) (names : Names) : Type 0 where
  pub log : LogHolds catalog.log image names
  pub same : catalog.names.keys ≡ names

-- the names in the file, as many as it remembers; also after a failure
abbrev pub content : NameList → Image → Names
content catalog image = log_content catalog.log image
