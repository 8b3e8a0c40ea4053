use Rattle.topic_lock.proofs.AllOpening.{opened_standing, opened_found}
use Rattle.topic_lock.proofs.opening.open_part.Goals as goal

pub returns-clause-found : goal.returns-clause-found
returns-clause-found g c = λ honest.
    let e = c.in-Ok.ensures in
    let store = c.in-Ok.opened.1 in
    opened_found g.T.TopicStore.stands c.args.per_ledger c.in-Ok.opened.0 (g.T.TopicStore.view store) e.opened.1 c.args.number (g.S.Shelf.disk c.args.shelf.now) (g.S.Shelf.disk c.open.new.shelf)
    (g.met.T.TopicStore.laws store) e.topic (e.seen honest (λ no. cc)) (e.settled honest)

pub returns-clause-stands : goal.returns-clause-stands
returns-clause-stands g c = λ honest.
    let e = c.in-Ok.ensures in
    let store = c.in-Ok.opened.1 in
    opened_standing g.T.TopicStore.stands c.args.per_ledger c.in-Ok.opened.0 (g.T.TopicStore.view store) e.opened.1 (g.S.Shelf.disk c.open.new.shelf)
    (g.met.T.TopicStore.laws store) (g.met.T.TopicStore.stands_below (g.T.TopicStore.view store).topic) (e.settled honest) e.matched
