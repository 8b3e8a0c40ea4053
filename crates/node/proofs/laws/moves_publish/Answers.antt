use Rattle.node.proofs.Finding.{moves_publish}
use Rattle.node.proofs.laws.moves_publish.Goals as goal

pub returns : goal.returns
returns c = moves_publish
