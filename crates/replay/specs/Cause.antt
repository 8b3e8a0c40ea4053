-- Why a replay answers `Device`.
use Rattle.std.specs.Prelude.{◌≡◌, Result, IfErr}
use Rattle.disk.specs.Disk.{Failed}
use Rattle.disk_mem.specs.declared.shelf.MemShelf.{MemShelf}
use Rattle.disk_mem.specs.Device.{disk_of, laid}
use Rattle.disk_mem.specs.Laid.{nothing_laid}
use Rattle.replay.specs.declared.fault.ProgramFault.{ProgramFault}
use Rattle.replay.specs.declared.fault.ProgramFault.TheVariants.{Device}

-- a device fault is answered only for this cause
abbrev pub DeviceOnlyIf : {X : Type 0} → Type 0 → Result X ProgramFault → Type 0
DeviceOnlyIf cause result = IfErr result (λ fault. fault ≡ Device → cause)

-- a device in memory has failed on which no fuse was laid
pub record NewDeviceFailed : Type 0 where
  pub old : MemShelf
  pub new : MemShelf
  pub unlaid : laid old ≡ nothing_laid
  pub failed : Failed (disk_of old) (disk_of new)
