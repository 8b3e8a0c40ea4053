use Rattle.node.proofs.Hearing.{frames_accounted}
use Rattle.node.proofs.laws.frames_are_accounted_for.Goals as goal

pub returns : goal.returns
returns c = frames_accounted
