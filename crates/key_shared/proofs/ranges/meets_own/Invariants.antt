use Rattle.std.proofs.Common.{◌≡◌, length}
use Rattle.key_shared.specs.Ranges.{meets_own}
use Rattle.key_shared.proofs.ranges.meets_own.Given as goal

abbrev pub invariant-loop-rest : goal.invariant-loop-rest
invariant-loop-rest l = meets_own l.rest ≡ meets_own l.ranges

abbrev pub decreases-loop-rest : goal.decreases-loop-rest
decreases-loop-rest l = length l.rest
