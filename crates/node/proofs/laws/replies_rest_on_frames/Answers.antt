use Rattle.node.proofs.Grounds.{rest}
use Rattle.node.proofs.Incoming.{moves_come}
use Rattle.node.proofs.laws.replies_rest_on_frames.Goals as goal

pub returns : goal.returns
returns c = record { moves = moves_come; rest = rest }
