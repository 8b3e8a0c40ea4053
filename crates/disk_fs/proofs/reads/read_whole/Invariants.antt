use Rattle.std.proofs.Common.{◌≡◌, ◌≤◌, length}
use Rattle.disk_fs.proofs.reads.read_whole.Given as goal

abbrev pub invariant-reads : goal.invariant-reads
invariant-reads g l = (l.filled ≤ length l.buffer) × (length l.buffer ≡ length l.fn.buffer)
