use Rattle.std.proofs.Common.{length, refl, arith}
use Rattle.disk.specs.Disk.{Torn}
use Rattle.disk_mem.specs.FileState.{after_write}
use Rattle.disk_mem.specs.Device.{states}
use Rattle.disk_mem.specs.Laws.{sound_at}
use Rattle.disk_mem.proofs.Calls.{counted_time}
use Rattle.disk_mem.proofs.Left.{left_write}
use Rattle.disk_mem.proofs.device.MemShelfShelf.write_at.Goals as goal

pub returns-clause-time : goal.returns-clause-time
returns-clause-time c = λ honest.
    counted_time c.args.file (after_write c.args.offset c.args.bytes.now) (Torn c.args.offset (length c.args.bytes.now)) c.write_step.result c.args.self.now c.write_step.new.self
    c.write_step.ensures.counted c.write_step.ensures.noted
    (λ d. record { before = refl; after = refl; no_shorter = omega arith; no_longer = omega arith })
    (left_write c.args.offset c.args.bytes.now (states c.args.self.now c.args.file) (sound_at c.args.self.now.files c.args.file))
