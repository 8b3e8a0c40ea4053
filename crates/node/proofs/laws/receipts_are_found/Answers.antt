use Rattle.node.proofs.Finding.{moves_found}
use Rattle.node.proofs.laws.receipts_are_found.Goals as goal

pub returns : goal.returns
returns c = moves_found
