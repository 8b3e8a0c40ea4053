use Rattle.topic_core.proofs.Standings.{topics-go_on}
use Rattle.topic_core.proofs.laws.topics_go_on.Goals as goal

pub returns : goal.returns
returns c = topics-go_on
