use Rattle.std.proofs.Common.{◌≡◌, length}
use Rattle.key_shared.specs.Murmur.{blocks, tail, mixed_in}
use Rattle.key_shared.proofs.murmur.murmur.Given as goal

abbrev pub invariant-loop-rest : goal.invariant-loop-rest
invariant-loop-rest l = record {
  mixed : mixed_in l.hash (blocks l.rest) ≡ mixed_in 0 (blocks l.bytes);
  behind : tail l.rest ≡ tail l.bytes;
}

abbrev pub decreases-loop-rest : goal.decreases-loop-rest
decreases-loop-rest l = length l.rest
