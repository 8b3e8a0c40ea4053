-- Which fault of a command on a folder an error is.
use Rattle.std.specs.Prelude.{◌≡◌, ◌⊎◌, None}
use Rattle.std.specs.declared.io.Error.{Error}
use Rattle.std.specs.declared.io.ErrorKind.TheVariants.{OutOfMemory}
use Rattle.std.specs.IoError.{error_kind, raw_os_error}
use Rattle.std.specs.declared.fs.TryLockError.{TryLockError}
use Rattle.std.specs.declared.fs.TryLockError.TheVariants as lock
use Rattle.gated_log.specs.declared.refusal.Refusal.TheVariants.{Device, NoMemory}
use Rattle.folder.specs.declared.fault.FolderFault.{FolderFault}
use Rattle.folder.specs.declared.fault.FolderFault.TheVariants.{Refused, InUse}

-- a growth was refused, and no call of the system
abbrev pub IsOfMemory : Error → Type 0
IsOfMemory error = (error_kind error ≡ OutOfMemory) × (raw_os_error error ≡ None)

-- want of memory where it is that, and else a failure of the device
pub record IsFaultOf (error : Error) (fault : FolderFault) : Type 0 where
  pub memory : IsOfMemory error → fault ≡ Refused NoMemory
  pub device : (¬ IsOfMemory error) → fault ≡ Refused Device

-- of a lock that wasn't to be had: another process holds it, or the call failed
abbrev pub IsFaultOfLock : TryLockError → FolderFault → Type 0
IsFaultOfLock lock.WouldBlock fault = fault ≡ InUse
IsFaultOfLock (lock.Error error) fault = IsFaultOf error fault

-- memory was refused, or the device failed
abbrev pub IsOutage : FolderFault → Type 0
IsOutage fault = (fault ≡ Refused NoMemory) ⊎ (fault ≡ Refused Device)

-- why a folder can't be held
abbrev pub IsFaultOfHolding : FolderFault → Type 0
IsFaultOfHolding fault = (fault ≡ InUse) ⊎ IsOutage fault
