-- All files of the device.
use Rattle.std.specs.Prelude.{◌≡◌, ◌≢◌}
use Rattle.std.specs.declared.option.Option.{Option}
use Rattle.std.specs.Prelude.{Some, None}
use Rattle.std.specs.declared.hash.FoldHasher.{FoldHasher}
use Rattle.std.specs.declared.hash.BuildHasherDefault.{BuildHasherDefault}
use Rattle.std.specs.HashMap.{get, HashMap}
use Rattle.disk.specs.declared.file_id.FileId.{FileId}
use Rattle.disk_mem.specs.declared.file.File.{File}
use Rattle.disk_mem.specs.FileState.{FileState, empty}
use Rattle.disk_mem.specs.SameFile.{same_file}

abbrev pub Files : Type 0
Files = HashMap FileId File (BuildHasherDefault FoldHasher)

-- what a file is
abbrev pub state : File → FileState
state file = record { bytes = file.bytes.items; synced = file.synced.items; written = file.written.items; least = file.least; greatest = file.greatest }

-- what a file is that may be missing
abbrev pub state_of : Option File → FileState
state_of None = empty
state_of (Some file) = state file

-- what each file is
abbrev pub state_at : Files → FileId → FileState
state_at files f = state_of (get same_file files f)

-- one file has changed so, and no other has
pub record FileChanges (file : FileId) (change : FileState → FileState) (old new : FileId → FileState) : Type 0 where
  pub there : new file ≡ change (old file)
  pub elsewhere : (f : FileId) → f ≢ file → new f ≡ old f

-- no file has changed
abbrev pub NoneChanges : (FileId → FileState) → (FileId → FileState) → Type 0
NoneChanges old new = (f : FileId) → new f ≡ old f
