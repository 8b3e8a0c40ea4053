use Rattle.std.proofs.Common.{length, drop}
use Rattle.records.specs.Spelled.{AreBytes}
use Rattle.records.proofs.Reading.{HasApplied}
use Rattle.records.proofs.read.read_body.Given as goal

abbrev pub invariant-loop-rest : goal.invariant-loop-rest
invariant-loop-rest l = record { applied : HasApplied l.entries l.fn.kept (drop 1 l.body) l.kept l.rest; bytes : AreBytes l.rest }

abbrev pub decreases-loop-rest : goal.decreases-loop-rest
decreases-loop-rest l = length l.rest
