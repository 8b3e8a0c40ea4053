use Rattle.node.proofs.AllOpening.{Going}
use Rattle.node.proofs.open.open_topics.Given as goal

abbrev pub invariant-loop-number : goal.invariant-loop-number
invariant-loop-number g l = Going {store = g.T.TopicStore} l.fn.per_ledger (g.S.Shelf.disk l.fn.shelf) (g.S.Shelf.disk l.shelf) l.held.items l.number
