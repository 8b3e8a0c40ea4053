use Rattle.topic_core.proofs.Counted.{closed_counted}
use Rattle.topic_core.proofs.producer_counts.ProducerCounts.close.Goals as goal

pub returns : goal.returns
returns c = λ ps was. closed_counted c.args.who c.args.id ps c.args.self.now c.forget_id.new.counts c.forget_id.ensures was
