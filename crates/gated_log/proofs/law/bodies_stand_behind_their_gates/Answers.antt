use Rattle.gated_log.proofs.Places.{body_behind}
use Rattle.gated_log.proofs.law.bodies_stand_behind_their_gates.Goals as goal

pub returns : goal.returns
returns c = body_behind
