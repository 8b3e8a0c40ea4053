use Rattle.key_shared.proofs.Cut.{cut}
use Rattle.key_shared.proofs.laws.bytes_are_blocks_and_a_tail.Goals as goal

pub returns : goal.returns
returns c = cut
