use Rattle.catalog.specs.Catalogs.{remembered}
use Rattle.topic_lock.proofs.AllOpening.{Going}
use Rattle.topic_lock.proofs.opening.open_topics.Given as goal

abbrev pub invariant-loop-number : goal.invariant-loop-number
invariant-loop-number g l = Going {store = g.T.TopicStore} g.S.Shelf.disk (remembered l.fn.catalog) l.per_ledger l.fn.shelves.items l.shelves.items l.parts.items l.number
