-- The file of a catalog stands for one thing, or has one fault.
use Rattle.std.proofs.Common.{◌≡◌, ℕ, List, sym, subst, refl, ◌∙◌, ap}
use Rattle.disk.specs.declared.file_id.FileId.{FileId}
use Rattle.disk.specs.declared.file_id.FileId.TheVariants.{Catalog as list_of}
use Rattle.disk.specs.declared.file_id.Folder.{Folder}
use Rattle.disk.specs.declared.file_id.Folder.TheVariants.{Two}
use Rattle.disk.specs.Disk.{Image}
use Rattle.disk.specs.Areas.{Agree, catalog_file, folder_of}
use Rattle.gated_log.specs.declared.label.Label.{Label}
use Rattle.gated_log.specs.declared.log_id.LogId.{LogId}
use Rattle.gated_log.specs.declared.refusal.Refusal.{Refusal}
use Rattle.gated_log.specs.Labels.{plain}
use Rattle.gated_log.specs.Batches.{IsLog}
use Rattle.gated_log.specs.Headers.{HasOpenHeader}
use Rattle.gated_log.specs.Local.{holds_local_lem}
use Rattle.gated_log.specs.Logs.{StandsFor as LogStands, log_id}
use Rattle.gated_log.specs.Folds.{Link}
use Rattle.gated_log.specs.One.{good_header}
use Rattle.gated_log.specs.OneFault.{fault_one, log_no_fault, log_one}
use Rattle.catalog.specs.declared.catalog.Catalog.{Catalog}
use Rattle.catalog.specs.Names.{Names, AreNames}
use Rattle.catalog.specs.Catalogs.{Own, Holds, StandsFor, StandsIn, per_ledger}
use Rattle.catalog.specs.Folded.{IsOfNames, IsFault, less}

-- the list of a folder of either version stands for one thing, and its header is open
pub list_one : (folder : Folder) (number other : ℕ) (image : Image) (names others : Names) → StandsIn folder number image names → StandsIn folder other image others → (number ≡ other) × (names ≡ others)
list_one folder number other image names others is is' =
    let same = log_one folder (plain number) (plain other) names others (image (list_of folder)) is.log is'.log in
    (ap (λ (l : Label). l.number) same.0, same.1)

pub list_open : (folder : Folder) (number : ℕ) (image : Image) (names : Names) → StandsIn folder number image names → HasOpenHeader folder (image (list_of folder))
list_open folder number image names is = (good_header folder (plain number) is.log.gate names is.log.rest (image (list_of folder)) is.log.bytes).is_open

pub one_list : (number other : ℕ) (image : Image) (names others : Names) → StandsFor number image names → StandsFor other image others → (number ≡ other) × (names ≡ others)
one_list = list_one Two

pub one_fault : (image : Image) (one other : Refusal) → IsFault image one → IsFault image other → one ≡ other
one_fault image one other is is' = fault_one IsOfNames less catalog_file (image catalog_file) one other is is'

pub no_fault : (number : ℕ) (image : Image) (names : Names) (refusal : Refusal) → StandsFor number image names → ¬ IsFault image refusal
no_fault number image names refusal is =
    let log : Link = record { label = plain number; bodies = names } in
    λ fault. log_no_fault IsOfNames less log catalog_file (image catalog_file) refusal (record { label = record { alone = refl; ledgers = is.ledgers }; names_are = is.names_are }) is.log fault

pub own_file : (number : ℕ) (a b : Image) (names : Names) → Agree Own a b → StandsFor number a names → StandsFor number b names
own_file number a b names same is = record {
  log = subst (λ (l : List ℕ). IsLog Two (plain number) names l) (sym (same catalog_file refl)) is.log;
  ledgers = is.ledgers;
  names_are = is.names_are;
}

-- what a log with such a label stands for is what its file stands for
pub list_log : (folder : Folder) (id : LogId) (image : Image) (names : Names) → id.file ≡ list_of folder → id.label ≡ plain id.label.number → LogStands id image names
    → IsLog folder (plain id.label.number) names (image (list_of folder))
list_log folder id image names file alone is =
    subst (λ (f : FileId). IsLog (folder_of f) (plain id.label.number) names (image f)) file (subst (λ (l : Label). IsLog (folder_of id.file) l names (image id.file)) alone is)

pub own_log : (catalog : Catalog) (image : Image) (names : Names) → LogStands (log_id catalog.log) image names → IsLog Two (plain (per_ledger catalog)) names (image catalog_file)
own_log catalog image names is = list_log Two (log_id catalog.log) image names catalog.file catalog.alone is

-- a catalog that holds names has a file that stands for them
pub holds_stands : (catalog : Catalog) (image : Image) (names : Names) → Holds catalog image names → StandsFor (per_ledger catalog) image names
holds_stands catalog image names holds = record {
  log = own_log catalog image names holds.log.is;
  ledgers = catalog.ledgers;
  names_are = subst (λ (l : Names). AreNames l) holds.same catalog.are;
}

-- and looks at its own file alone
pub holds_local : (catalog : Catalog) (a b : Image) (names : Names) → Agree Own a b → Holds catalog a names → Holds catalog b names
holds_local catalog a b names same holds = record {
  log = holds_local_lem catalog.log a b names (λ f own. same f (own ∙ catalog.file)) holds.log;
  same = holds.same;
}
