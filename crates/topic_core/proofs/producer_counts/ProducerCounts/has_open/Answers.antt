use Rattle.std.proofs.Common.{nat_eq, not, ap, ◌∙◌}
use Rattle.topic_core.specs.Steps.{is_open_producer}
use Rattle.topic_core.proofs.Counted.{any_counted}
use Rattle.topic_core.proofs.producer_counts.ProducerCounts.has_open.Goals as goal

pub returns : goal.returns
returns c = λ ps was. ap (λ n. not (nat_eq n 0)) (c.count_of_id.ensures ∙ was.open_ones c.args.who c.args.id) ∙ any_counted (is_open_producer c.args.who c.args.id) ps
