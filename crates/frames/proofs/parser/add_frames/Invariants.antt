use Rattle.std.proofs.Common.{length, ◌++◌}
use Rattle.frames.proofs.Steps.{Midway}
use Rattle.frames.proofs.parser.add_frames.Given as goal

abbrev pub invariant-pieces : goal.invariant-pieces
invariant-pieces l = Midway (l.fn.unfinished.items ++ l.fn.piece) l.fn.frames.items l.frames.items l.unfinished.items l.rest

abbrev pub decreases-pieces : goal.decreases-pieces
decreases-pieces l = length l.rest
