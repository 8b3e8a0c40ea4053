use Rattle.node.proofs.Cutting.{cut_turn}
use Rattle.node.proofs.laws.cuts_are_turns.Goals as goal

pub returns : goal.returns
returns c = cut_turn
