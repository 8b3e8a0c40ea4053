-- Which calls have failed, and for what.
use Rattle.std.specs.Prelude.{◌≡◌, None}
use Rattle.std.specs.declared.io.Error.{Error}
use Rattle.std.specs.declared.io.ErrorKind.TheVariants.{Other}
use Rattle.std.specs.IoError.{error_kind, raw_os_error}
use Rattle.disk.specs.declared.file_id.FileId.{FileId}
use Rattle.disk_fs.specs.declared.troubles.Call.{Call}
use Rattle.disk_fs.specs.declared.troubles.Failure.{Failure}

-- it was this call for this file
abbrev pub IsOf : FileId → Call → Failure → Type 0
IsOf file call failure = (failure.file ≡ file) × (failure.call ≡ call)

-- that of a call behind a failed sync, and no number of the system's
abbrev pub IsOfCheck : Error → Type 0
IsOfCheck error = (error_kind error ≡ Other) × (raw_os_error error ≡ None)
