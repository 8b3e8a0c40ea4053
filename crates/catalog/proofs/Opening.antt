-- A catalog is opened.
use Rattle.std.proofs.Common.{◌≡◌, ◌⊎◌, ℕ, sym, subst}
use Rattle.disk.specs.declared.file_id.FileId.TheVariants.{Catalog as list_of}
use Rattle.disk.specs.declared.file_id.Folder.{Folder}
use Rattle.disk.specs.declared.file_id.Folder.TheVariants.{One}
use Rattle.disk.specs.Disk.{Disk, Image}
use Rattle.disk.specs.Contents.{Settled}
use Rattle.gated_log.specs.declared.refusal.Refusal.{Refusal}
use Rattle.gated_log.specs.declared.refusal.Refusal.TheVariants.{Device, NoMemory}
use Rattle.gated_log.specs.Labels.{plain}
use Rattle.gated_log.specs.Batches.{Bodies, IsLog}
use Rattle.gated_log.specs.Folds.{Link}
use Rattle.gated_log.specs.declared.log.GatedLog.{GatedLog}
use Rattle.gated_log.specs.declared.log_id.LogId.{LogId}
use Rattle.gated_log.specs.Logs.{LogHolds, log_id}
use Rattle.catalog.specs.declared.catalog.Catalog.{Catalog}
use Rattle.catalog.specs.Names.{Names, AreNames}
use Rattle.catalog.specs.Catalogs.{Holds, IsCatalogLabel, StandsFor, StandsIn, remembered, per_ledger}
use Rattle.catalog.specs.Folded.{HasNames, IsFaultIn}
use Rattle.catalog.specs.Laws.{list_log, one_list, holds_stands}

-- no memory, the device, or a fault
abbrev pub Told : Folder → Image → Refusal → Type 0
Told folder image e = (e ≡ NoMemory) ⊎ ((e ≡ Device) ⊎ IsFaultIn folder image e)

pub told_same : (folder : Folder) (image : Image) (e e' : Refusal) → e ≡ e' → Told folder image e' → Told folder image e
told_same folder image e e' same told = subst (λ (x : Refusal). Told folder image x) (sym same) told

pub taken_are : (names : Names) (log : Link) → HasNames names log → AreNames names
taken_are names log has = subst AreNames (sym has.same) has.is.names_are

-- the log of an opened catalog holds what the fold has taken
pub opened : (catalog : Catalog) (disk : Disk) (bodies : Bodies) → remembered catalog ≡ bodies → Settled (LogHolds catalog.log) disk bodies → Settled (Holds catalog) disk (remembered catalog)
opened catalog disk bodies same s =
    let log = subst (λ (b : Bodies). Settled (LogHolds catalog.log) disk b) (sym same) s in
    record {
      honest = log.honest;
      now = record { log = log.now; same = λ i. remembered catalog };
      left = λ c may. record { log = log.left c may; same = λ i. remembered catalog };
    }

-- whatever a crash leaves of the list of a folder of version 1 stands for what the fold has taken
pub old_opened : (log : GatedLog) (id : LogId) (names : Names) (disk : Disk) (bodies : Bodies) → id ≡ log_id log → (log_id log).file ≡ list_of One → HasNames names (record { label = (log_id log).label; bodies = bodies })
    → Settled (LogHolds log) disk bodies → (c : Image) → disk.may_leave c → StandsIn One id.label.number c names
old_opened log id names disk bodies same file has s c may =
    let label = has.is.label in
    let there : StandsIn One (log_id log).label.number c names = record {
      log = subst (λ (b : Bodies). IsLog One (plain (log_id log).label.number) b (c (list_of One))) (sym has.same) (list_log One (log_id log) c bodies file label.alone (s.left c may).is);
      ledgers = label.ledgers;
      names_are = taken_are names (record { label = (log_id log).label; bodies = bodies }) has;
    } in
    subst (λ (i : LogId). StandsIn One i.label.number c names) (sym same) there

pub label_taken : (id id' : LogId) → id ≡ id' → IsCatalogLabel id'.label → IsCatalogLabel id.label
label_taken id id' same is = subst (λ (i : LogId). IsCatalogLabel i.label) (sym same) is

-- it has the names that the file stands for
pub again : (catalog : Catalog) (was : Image) (disk : Disk) (number : ℕ) (names : Names) → disk.seen ≡ was → Settled (Holds catalog) disk (remembered catalog) → StandsFor number was names → (per_ledger catalog ≡ number) × Settled (Holds catalog) disk names
again catalog was disk number names same s is =
    let there = holds_stands catalog disk.seen (remembered catalog) s.now in
    let one = one_list (per_ledger catalog) number was (remembered catalog) names (subst (λ (i : Image). StandsFor (per_ledger catalog) i (remembered catalog)) same there) is in
    (one.0, subst (λ (l : Names). Settled (Holds catalog) disk l) one.1 s)
