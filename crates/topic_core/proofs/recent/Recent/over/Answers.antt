use Rattle.topic_core.proofs.LastEntries.{none_last}
use Rattle.topic_core.proofs.recent.Recent.over.Goals as goal

pub invariant_of-result : goal.invariant_of-result
invariant_of-result c = rw (c.new.ensures.items) (none_last c.args.durable.ledger)
