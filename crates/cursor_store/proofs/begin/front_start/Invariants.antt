use Rattle.gated_log.specs.Reading.{left_to_read}
use Rattle.cursor_store.proofs.Passing.{Passing}
use Rattle.cursor_store.proofs.begin.front_start.Given as goal

abbrev pub invariant-bodies : goal.invariant-bodies
invariant-bodies g l = Passing l.fn.head (g.S.Shelf.disk l.fn.shelf) (g.S.Shelf.disk l.shelf) l.reader l.told

abbrev pub decreases-bodies : goal.decreases-bodies
decreases-bodies g l = left_to_read l.reader
