use Rattle.std.proofs.Common.{take}
use Rattle.std.specs.Io.KnownBytes.{Appends}
use Rattle.admin.specs.Status.{lines_of_all}
use Rattle.admin.proofs.status.print_status.Given as goal

-- the lines of the first topics are written
abbrev pub invariant-loop-status : goal.invariant-loop-status
invariant-loop-status g l = Appends (g.W.Write.contents l.fn.writer) (g.W.Write.contents l.writer) (lines_of_all (take l.status-index l.statuses))
