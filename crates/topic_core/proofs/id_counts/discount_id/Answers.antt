use Rattle.std.proofs.Common.{◌-◌, ap, rules, arith}
use Rattle.topic_core.proofs.Counted.{id_discounted}
use Rattle.topic_core.proofs.id_counts.discount_id.Goals as goal

pub returns-then-count-le1 : goal.returns-then-count-le1
returns-then-count-le1 c = id_discounted c.args.counts.now c.remove.new.self c.args.who c.args.id _ c.remove.ensures.updates (omega (arith, c.if-count-le1.true, c.count_of_id-count.ensures))

pub returns : goal.returns
returns c =
    let left = c.count_of_id-count.result - 1 in
    id_discounted c.args.counts.now (c.get_mut.follows.lender left) c.args.who c.args.id _ ((c.get_mut.follows.holds left).3 (search rules)) (ap (λ n. n - 1) c.count_of_id-count.ensures)
