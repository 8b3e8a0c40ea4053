use Rattle.std.proofs.Common.{List, subst}
use Rattle.topic_core.specs.declared.producer.Producer.{Producer}
use Rattle.topic_core.specs.Counts.{AreFewer, goes}
use Rattle.topic_core.proofs.Counted.{dropped_counted}
use Rattle.topic_core.proofs.producers.Producers.drop_going.Goals as goal

pub invariant_of-self : goal.invariant_of-self
invariant_of-self c =
    let fewer = subst (λ (ps : List Producer). AreFewer (goes c.args.going) ps c.self.inside.counts c.discount_all.new.self) c.as_slice.ensures.value c.discount_all.ensures in
    rw c.drop_going.ensures (dropped_counted (goes c.args.going) c.self.inside.list.items c.self.inside.counts c.discount_all.new.self c.self.invariant fewer)
