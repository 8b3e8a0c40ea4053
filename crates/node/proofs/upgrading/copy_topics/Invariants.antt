use Rattle.node.proofs.NewFolder.{AreCopying}
use Rattle.node.proofs.upgrading.copy_topics.Given as goal

abbrev pub invariant-loop-number : goal.invariant-loop-number
invariant-loop-number g l = AreCopying (g.S.Shelf.disk l.fn.shelf) (g.S.Shelf.disk l.shelf) l.number
