use Rattle.std.proofs.Common.{◌+◌, ap}
use Rattle.topic_core.proofs.Counted.{id_counted}
use Rattle.topic_core.proofs.id_counts.count_id.Goals as goal

pub returns-clause-ok : goal.returns-clause-ok
returns-clause-ok c = id_counted c.args.counts.now c.insert.new.self c.args.who c.args.id _ c.in_ok-insert.ensures.updates (ap (λ n. n + 1) c.count_of_id-count.ensures)
