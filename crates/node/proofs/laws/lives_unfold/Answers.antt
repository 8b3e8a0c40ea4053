use Rattle.node.proofs.Unfolding.{life_unfolds, cut_life_unfolds}
use Rattle.node.proofs.laws.lives_unfold.Goals as goal

pub returns : goal.returns
returns c = record { life = life_unfolds; cut = cut_life_unfolds }
