use Rattle.node.proofs.Delivering.{moves_delivered}
use Rattle.node.proofs.laws.messages_are_admitted.Goals as goal

pub returns : goal.returns
returns c = moves_delivered
