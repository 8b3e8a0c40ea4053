-- The whole device, and what its calls do to it.
use Rattle.std.specs.Prelude.{◌≡◌, ◌⊎◌, ℕ, ◌≤◌, true, Some, Result, IsErr, OnOk, OnErr, List, length, slice_get}
use Rattle.disk.specs.declared.file_id.FileId.{FileId}
use Rattle.disk.specs.declared.shelf.DeviceError.{DeviceError}
use Rattle.disk.specs.declared.crash_shelf.CrashForm.{CrashForm}
use Rattle.disk.specs.Disk.{Disk, Image}
use Rattle.disk.specs.Laid.{Laid}
use Rattle.disk_mem.specs.declared.shelf.MemShelf.{MemShelf}
use Rattle.disk_mem.specs.FileState.{FileState, MayLeave, CrashesTo}
use Rattle.disk_mem.specs.Files.{Files, state_at, FileChanges, NoneChanges}
use Rattle.disk_mem.specs.Laid.{laid_by, fires, after_call}

-- what each file is
abbrev pub states : MemShelf → FileId → FileState
states shelf = state_at shelf.files

-- the fuses that were laid
abbrev pub laid : MemShelf → Laid
laid shelf = laid_by shelf.fuses

-- each file is left as the form says, and then rests
abbrev pub LeftAs : CrashForm → MemShelf → MemShelf → Type 0
LeftAs form old new = (f : FileId) → CrashesTo form (states old f) (states new f)

-- what a crash may leave of these files
abbrev pub leaves : Files → Image → Type 0
leaves files c = (f : FileId) → MayLeave (state_at files f) (c f)

-- what a crash may leave now, or might have left at an earlier moment from t on
abbrev pub left_from : List Files → Files → ℕ → Image → Type 0
left_from past files t c = leaves files c ⊎ ((k : ℕ) × (was : Files) × (t ≤ k) × (slice_get past k ≡ Some was) × leaves was c)

-- the device
abbrev pub disk_of : MemShelf → Disk
disk_of shelf = record {
  seen = λ f. (states shelf f).bytes;
  may_leave = leaves shelf.files;
  moment = length shelf.past.items;
  left_since = left_from shelf.past.items shelf.files;
  faults = length shelf.failures.items;
  honest = Unit {0};
}

-- A write, a cut or a sync: it is counted, it fails where a fuse has come, and where it fails no file has changed.
pub record Counted (file : FileId) (change : FileState → FileState) (outcome : Result (Unit {0}) DeviceError) (old new : MemShelf) : Type 0 where
  pub burnt : laid new ≡ after_call (laid old)
  pub fused : fires (laid old) ≡ true → IsErr outcome
  pub done : OnOk outcome (FileChanges file change (states old) (states new))
  pub refused : OnErr outcome (NoneChanges (states old) (states new))

-- A call that changes no file.
pub record Unwritten (old new : MemShelf) : Type 0 where
  pub files : new.files ≡ old.files
  pub past : new.past.items ≡ old.past.items
  pub faults : length old.failures.items ≤ length new.failures.items
