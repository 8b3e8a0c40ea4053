use Rattle.topic_core.proofs.Counted.{none_counted}
use Rattle.topic_core.proofs.producer_counts.ProducerCounts.new.Goals as goal

pub returns : goal.returns
returns c = none_counted _ c.new.ensures.empty c.new-2.ensures.empty c.new-3.ensures.empty
