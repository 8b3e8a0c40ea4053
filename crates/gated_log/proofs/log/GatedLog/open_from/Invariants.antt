use Rattle.std.proofs.Common.{◌≡◌}
use Rattle.gated_log.specs.Reading.{left_to_read}
use Rattle.gated_log.proofs.Folding.{Going}
use Rattle.gated_log.proofs.log.GatedLog.open_from.Given as goal

abbrev pub invariant-bodies : goal.invariant-bodies
invariant-bodies g l = Going l.fn.head (g.S.Shelf.disk l.fn.shelf) (g.S.Shelf.disk l.shelf) (g.F.Fold.holds l.fn.fold) (g.F.Fold.holds l.fold) l.reader × (g.F.Fold.rule l.fold ≡ g.F.Fold.rule l.fn.fold)

abbrev pub decreases-bodies : goal.decreases-bodies
decreases-bodies g l = left_to_read l.reader
