use Rattle.std.proofs.Common.{◌≡◌, ◌≤◌, ◌+◌, length, take}
use Rattle.records.specs.Bytes.{body_of}
use Rattle.records.proofs.write.fits.Given as goal

abbrev pub invariant-loop-change : goal.invariant-loop-change
invariant-loop-change l = record { size : l.size ≡ length (body_of (take l.change-index l.records)); small : l.size ≤ l.most + 1 }
