use Rattle.std.proofs.Common.{refl, arith}
use Rattle.disk.specs.Disk.{TornCut}
use Rattle.disk_mem.specs.FileState.{after_cut}
use Rattle.disk_mem.specs.Device.{states}
use Rattle.disk_mem.specs.Laws.{sound_at}
use Rattle.disk_mem.proofs.Calls.{counted_time}
use Rattle.disk_mem.proofs.Left.{left_cut}
use Rattle.disk_mem.proofs.device.MemShelfShelf.cut.Goals as goal

pub returns-clause-time : goal.returns-clause-time
returns-clause-time c = λ honest.
    counted_time c.args.file (after_cut c.args.len) (TornCut c.args.len) c.cut_step.result c.args.self.now c.cut_step.new.self
    c.cut_step.ensures.counted c.cut_step.ensures.noted
    (λ d. record { before = refl; no_shorter = omega arith; no_longer = omega arith })
    (left_cut c.args.len (states c.args.self.now c.args.file) (sound_at c.args.self.now.files c.args.file))
