-- How a node is made.
use Rattle.std.specs.Prelude.{◌≡◌, ◌⊎◌, ◌++◌, ℕ, Result, List, codes, IsErr, IsErrOf}
use Rattle.std.specs.Fmt.{decimal}
use Rattle.disk.specs.declared.file_id.Folder.TheVariants.{One, Two}
use Rattle.disk.specs.declared.file_id.FileId.TheVariants.{Catalog}
use Rattle.disk.specs.Disk.{Disk, Image, Same, Leaves}
use Rattle.gated_log.specs.Headers.{HasOpenHeader}
use Rattle.gated_log.specs.declared.refusal.Refusal.{Refusal}
use Rattle.gated_log.specs.declared.refusal.Refusal.TheVariants as refusal
use Rattle.folder.specs.declared.fault.FolderFault.{FolderFault}
use Rattle.folder.specs.declared.fault.FolderFault.TheVariants.{Refused, AlreadyInitialised}
use Rattle.folder.specs.Faults.{IsOutage}

-- `initialised`, and how many entries a ledger has
abbrev pub initialised_line : ℕ → List ℕ
initialised_line count = codes "initialised, " ++ (decimal count ++ codes " entries a ledger\n")

-- a list of topics is there, of either version, sound or not: its file has an open header
abbrev pub HasList : Image → Type 0
HasList files = HasOpenHeader One (files (Catalog One)) ⊎ HasOpenHeader Two (files (Catalog Two))

-- Why no node is made where the opening of a list of topics is refused so: behind an open header there is one, sound or not.
abbrev pub fault_of_making : Refusal → FolderFault
fault_of_making refusal.Device = Refused refusal.Device
fault_of_making (refusal.Damaged file offset) = AlreadyInitialised
fault_of_making refusal.NotInitialised = Refused refusal.NotInitialised
fault_of_making refusal.Version = AlreadyInitialised
fault_of_making refusal.NoMemory = Refused refusal.NoMemory
fault_of_making refusal.TooLarge = AlreadyInitialised

-- why no node is made
abbrev pub IsFaultOfMaking : FolderFault → Type 0
IsFaultOfMaking fault = (fault ≡ AlreadyInitialised) ⊎ IsOutage fault

-- Nothing was made: that is told, reads give what they gave, but where the device failed, and a crash at any moment leaves what it
-- might have left before.
pub record MakesNothing {X : Type 0} (old new : Disk) (result : Result X FolderFault) : Type 0 where
  pub told : IsErr result
  pub seen : (¬ IsErrOf result (Refused refusal.Device)) → Same old.seen new.seen
  pub any_moment : Leaves old.may_leave old new
