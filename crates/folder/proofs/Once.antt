-- Where a list of topics stands, and where it isn't missing.
use Rattle.std.proofs.Common.{◌≡◌, ◌⊎◌, ℕ, List, ◌++◌, ⊎_elim, inl, inr, length, refl, ap, subst, arith, length-append}
use Rattle.std.specs.Prelude.{◌≢◌, drop}
use Rattle.disk.specs.declared.file_id.FileId.TheVariants.{Catalog}
use Rattle.disk.specs.declared.file_id.Folder.{Folder}
use Rattle.disk.specs.declared.file_id.Folder.TheVariants.{One, Two}
use Rattle.disk.specs.Disk.{Image}
use Rattle.gated_log.specs.declared.refusal.Refusal.{Refusal}
use Rattle.gated_log.specs.declared.refusal.Refusal.TheVariants.{Device, NotInitialised, NoMemory, Damaged, Version, TooLarge}
use Rattle.gated_log.specs.declared.label.Label.{Label}
use Rattle.gated_log.specs.Labels.{header}
use Rattle.gated_log.specs.Headers.{HasOpenHeader, IsOpen}
use Rattle.gated_log.specs.One.{good_header, long_header, version_open}
use Rattle.catalog.specs.Names.{Names}
use Rattle.catalog.specs.Catalogs.{StandsFor}
use Rattle.catalog.specs.Folded.{IsFault, IsNewestFault}
use Rattle.catalog.specs.Laws.{list_open}
use Rattle.folder.specs.declared.fault.FolderFault.TheVariants.{Refused, AlreadyInitialised}
use Rattle.folder.specs.Making.{HasList, fault_of_making}

-- a header with a label is open
label_open : (folder : Folder) (label : Label) (file : List ℕ) → IsOpen folder label file → HasOpenHeader folder file
label_open One label file is = record { rest = drop 1 (header One 1 label) ++ is.rest; bytes = is.bytes; whole = omega (arith, long_header One label, ap (λ (l : List ℕ). length l) is.bytes, length-append (header One 1 label) is.rest) }
label_open Two label file is = record { rest = drop 1 (header Two 1 label) ++ is.rest; bytes = is.bytes; whole = omega (arith, long_header Two label, ap (λ (l : List ℕ). length l) is.bytes, length-append (header Two 1 label) is.rest) }

-- names stand in an open list
pub names_listed : (number : ℕ) (files : Image) (names : Names) → StandsFor number files names → HasList files
names_listed number files names is = inr (list_open Two number files names is)

-- a fault of a list that isn't missing is one of an open list
fault_open : (files : Image) (why : Refusal) → why ≢ NotInitialised → IsFault files why → HasOpenHeader Two (files (Catalog Two))
fault_open files NotInitialised other is = absurd (other refl)
fault_open files Version other is = version_open Two (files (Catalog Two)) is
fault_open files (Damaged of offset) other (named, inl (inl is, at)) = is.0
fault_open files (Damaged of offset) other (named, inl (inr is, at)) = label_open Two is.label (files (Catalog Two)) is.is_open
fault_open files (Damaged of offset) other (named, inr is) = (good_header Two is.log.label 1 is.log.bodies is.rest (files (Catalog Two)) is.bytes).is_open
fault_open files Device other is = absurd is
fault_open files NoMemory other is = absurd is
fault_open files TooLarge other is = absurd is

-- so it is of the lists of both versions
pub fault_listed : (files : Image) (why : Refusal) → why ≢ NotInitialised → IsNewestFault files why → HasList files
fault_listed files why other fault = ⊎_elim (λ old. inl old.0) (λ list. inr (fault_open files why other list.1)) fault

-- a list that is missing is open in neither version
fault_missing : (files : Image) → IsNewestFault files NotInitialised → HasList files → ⊥
fault_missing files fault listed = ⊎_elim (λ old. let is : NotInitialised ≡ Version = old.1 in let bad : ⊥ = cc in bad) (λ list. ⊎_elim (λ one. list.0 one) (λ two. list.1 two) listed) fault

-- what an opening tells beside want of memory and a failure
abbrev Told : Image → Refusal → Type 0
Told files why = (why ≡ NoMemory) ⊎ ((why ≡ Device) ⊎ IsNewestFault files why)

-- neither want of memory nor a failure, it is a fault of the list
told_fault : (files : Image) (why : Refusal) → (¬ (why ≡ NoMemory)) → (¬ (why ≡ Device)) → Told files why → IsNewestFault files why
told_fault files why memory works told =
    ⊎_elim (λ (is : why ≡ NoMemory). absurd (memory is)) (λ (rest : (why ≡ Device) ⊎ IsNewestFault files why). ⊎_elim (λ (is : why ≡ Device). absurd (works is)) (λ (fault : IsNewestFault files why). fault) rest) told

module _ (files : Image) (why : Refusal) (missing : why ≡ NotInitialised) where
  no_failure : (why ≡ Device) → ⊥
  no_failure is = let bad : ⊥ = cc in bad

  no_want : (why ≡ NoMemory) → ⊥
  no_want is = let bad : ⊥ = cc in bad

  -- an open list isn't refused as one that is missing
  pub missing_unlisted : Told files why → HasList files → ⊥
  missing_unlisted told listed = fault_missing files (subst (λ (w : Refusal). IsNewestFault files w) missing (told_fault files why no_want no_failure told)) listed

module _ (why : Refusal) (already : fault_of_making why ≡ AlreadyInitialised) where
  apart : (other : Refusal) → ((fault_of_making other ≡ AlreadyInitialised) → ⊥) → (why ≡ other) → ⊥
  apart other unlike is = unlike (subst (λ (w : Refusal). fault_of_making w ≡ AlreadyInitialised) is already)

  refused_apart : (other : Refusal) → (Refused other ≡ AlreadyInitialised) → ⊥
  refused_apart other is = let bad : ⊥ = cc in bad

  pub already_works : (why ≡ Device) → ⊥
  already_works = apart Device (refused_apart Device)

  -- what is told as a list that is there is a fault of an open list
  pub already_listed : (files : Image) → Told files why → HasList files
  already_listed files told =
      fault_listed files why (λ is. apart NotInitialised (refused_apart NotInitialised) is) (told_fault files why (apart NoMemory (refused_apart NoMemory)) already_works told)
