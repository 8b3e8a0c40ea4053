use Rattle.topic_core.proofs.HandingOut.{command_handed}
use Rattle.topic_core.proofs.laws.commands_hand_out_nothing.Goals as goal

pub returns : goal.returns
returns c = λ old who command answer new step. command_handed old who command answer new step
