use Rattle.std.proofs.Common.{◌-◌, ap, rules, arith}
use Rattle.std.proofs.lemmas.Map.Text.{btree_map_updates_text}
use Rattle.topic_core.proofs.Counted.{name_discounted}
use Rattle.topic_core.proofs.name_counts.discount_name.Goals as goal

pub returns-then-count-le1 : goal.returns-then-count-le1
returns-then-count-le1 c =
    name_discounted c.args.counts.now c.remove.new.self c.args.name.now _ (btree_map_updates_text c.args.name.now c.args.counts.now c.remove.new.self _ c.remove.ensures.updates) (omega (arith, c.if-count-le1.true, c.count_of_name-count.ensures))

pub returns : goal.returns
returns c =
    let left = c.count_of_name-count.result - 1 in
    let new = c.get_mut.follows.lender left in
    name_discounted c.args.counts.now new c.args.name.now _ (btree_map_updates_text c.args.name.now c.args.counts.now new _ ((c.get_mut.follows.holds left).3 (search rules))) (ap (λ n. n - 1) c.count_of_name-count.ensures)
