use Rattle.node.proofs.Covering.{moves_covered}
use Rattle.node.proofs.laws.receipts_are_covered.Goals as goal

pub returns : goal.returns
returns c = moves_covered
