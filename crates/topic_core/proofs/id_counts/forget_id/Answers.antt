use Rattle.topic_core.proofs.Counted.{id_updated}
use Rattle.topic_core.proofs.id_counts.forget_id.Goals as goal

pub returns : goal.returns
returns c = id_updated c.args.counts.now c.remove.new.self c.args.who c.args.id _ c.remove.ensures.updates
