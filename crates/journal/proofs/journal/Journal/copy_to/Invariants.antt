use Rattle.std.proofs.Common.{◌-◌, ◌≤◌, length}
use Rattle.disk.specs.Disk.{Kept}
use Rattle.disk.specs.Areas.{Within}
use Rattle.journal.specs.Chains.{Chain, SegmentsOf}
use Rattle.journal.specs.Journals.{Settled}
use Rattle.journal.proofs.Copying.{Copied}
use Rattle.journal.proofs.journal.Journal.copy_to.Given as goal

abbrev pub invariant-segments : goal.invariant-segments
invariant-segments g l =
    (l.place ≤ length l.fn.self.closed.items) × Kept (g.S.Shelf.disk l.fn.shelf) (g.S.Shelf.disk l.shelf)
    × ((g.S.Shelf.disk l.fn.shelf).honest → Within (SegmentsOf l.fn.topic) (λ c. Unit {0}) (g.S.Shelf.disk l.fn.shelf) (g.S.Shelf.disk l.shelf))
    × ((chain : Chain) → Settled l.fn.self (g.S.Shelf.disk l.fn.shelf) chain → Copied l.fn.topic l.fn.self.first chain.closed l.place (g.S.Shelf.disk l.shelf))

abbrev pub decreases-segments : goal.decreases-segments
decreases-segments g l = length l.self.closed.items - l.place
