use Rattle.std.proofs.Common.{refl}
use Rattle.key_shared.specs.Murmur.{mixed}
use Rattle.key_shared.proofs.murmur.mixed.Goals as goal

pub returns : goal.returns
unfolding mixed
returns c = rw (c.rotate_left.ensures, c.scrambled.ensures) refl
