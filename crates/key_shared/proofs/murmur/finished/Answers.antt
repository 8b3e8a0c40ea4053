use Rattle.std.proofs.Common.{refl}
use Rattle.key_shared.specs.Murmur.{finished}
use Rattle.key_shared.proofs.murmur.finished.Goals as goal

pub returns : goal.returns
unfolding finished
returns c = refl
