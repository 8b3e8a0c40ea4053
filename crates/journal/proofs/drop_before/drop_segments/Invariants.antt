use Rattle.std.proofs.Common.{◌-◌, ◌≤◌}
use Rattle.disk.specs.Disk.{Kept}
use Rattle.disk.specs.Areas.{Within}
use Rattle.journal.specs.Drops.{Dropped, AreEmpty}
use Rattle.journal.proofs.drop_before.drop_segments.Given as goal

abbrev pub invariant-segments : goal.invariant-segments
invariant-segments g l =
    ((g.S.Shelf.disk l.fn.shelf).honest → Within (Dropped l.fn.topic l.fn.from l.fn.to) (λ c. Unit {0}) (g.S.Shelf.disk l.fn.shelf) (g.S.Shelf.disk l.shelf))
    × Kept (g.S.Shelf.disk l.fn.shelf) (g.S.Shelf.disk l.shelf) × (l.fn.from ≤ l.number)
    × ((g.S.Shelf.disk l.fn.shelf).honest → AreEmpty l.fn.topic l.fn.from l.number (g.S.Shelf.disk l.shelf))

abbrev pub decreases-segments : goal.decreases-segments
decreases-segments g l = l.to - l.number
