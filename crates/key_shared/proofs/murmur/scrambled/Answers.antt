use Rattle.std.proofs.Common.{refl}
use Rattle.key_shared.specs.Murmur.{scrambled}
use Rattle.key_shared.proofs.murmur.scrambled.Goals as goal

pub returns : goal.returns
unfolding scrambled
returns c = rw c.rotate_left.ensures refl
