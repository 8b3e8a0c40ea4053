-- What a copy of bytes leaves.
use Rattle.std.specs.Prelude.{◌≡◌, ◌≢◌, ℕ, ◌++◌, take, drop}
use Rattle.disk.specs.declared.file_id.FileId.{FileId}
use Rattle.disk.specs.Disk.{Image}

-- so many bytes of a file, from an offset on, stand behind those that the other one had, and no other file has changed
pub record IsCopied (from : FileId) (at count : ℕ) (to : FileId) (old new : Image) : Type 0 where
  pub copied : new to ≡ old to ++ take count (drop at (old from))
  pub elsewhere : (f : FileId) → f ≢ to → new f ≡ old f
