use Rattle.node.proofs.AfterCuts.{lives_go_on}
use Rattle.node.proofs.resuming.lives_go_on.Goals as goal

pub returns : goal.returns
returns c = lives_go_on
