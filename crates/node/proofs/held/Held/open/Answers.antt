use Rattle.node.proofs.Opening.{opened_standing, rests_so}
use Rattle.node.proofs.held.Held.open.Goals as goal

pub returns-clause-stands : goal.returns-clause-stands
returns-clause-stands g c = λ honest.
    let e = c.in_ok-core.ensures in
    let core = c.in_ok-core.core in
    let store = c.in_ok-core.stores in
    let d = g.S.Shelf.disk c.open.new.shelf in
    rests_so c.at_rest.result core store d c.at_rest.ensures
    (opened_standing g.T.TopicStore.stands c.args.per_ledger core (g.T.TopicStore.view store) e.opened.1 d (g.met.T.TopicStore.laws store) g.met.T.TopicStore.stands_below (e.settled honest) e.matched)
