use Rattle.topic_core.proofs.Ranges.{messages-are_counted}
use Rattle.topic_core.proofs.laws.messages_are_counted.Goals as goal

pub returns : goal.returns
returns c = messages-are_counted
