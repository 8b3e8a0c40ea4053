use Rattle.std.proofs.Common.{nat_eq, not, ap, ◌∙◌}
use Rattle.topic_core.specs.Counts.{is_named}
use Rattle.topic_core.proofs.Counted.{any_counted}
use Rattle.topic_core.proofs.producer_counts.ProducerCounts.has_name.Goals as goal

pub returns : goal.returns
returns c = λ ps was. ap (λ n. not (nat_eq n 0)) (c.count_of_name.ensures ∙ was.named c.args.name.now) ∙ any_counted (is_named c.args.name.now) ps
