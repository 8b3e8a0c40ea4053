use Rattle.node.proofs.UnderWay.{matched_still, under_way_still}
use Rattle.node.proofs.held.Held.collect.Goals as goal

pub invariant_of-self : goal.invariant_of-self
invariant_of-self g c =
    let h = c.args.self.now in
    let next = c.collect.new.self in
    let go = c.collect.ensures.goes_on in
    let stands = g.T.TopicStore.stands in
    record {
      matched = matched_still stands h.core next go h.flight (g.T.TopicStore.view h.stores) h.matched;
      under_way = under_way_still stands h.core next go h.flight h.under_way;
    }
