use Rattle.topic_core.proofs.Keeps.{dispatch-admits}
use Rattle.topic_core.proofs.laws.messages_are_admitted.Goals as goal

pub returns : goal.returns
returns c = λ old who id outgoing new step. dispatch-admits old who id outgoing new step
