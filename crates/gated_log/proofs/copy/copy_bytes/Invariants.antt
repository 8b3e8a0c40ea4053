use Rattle.std.proofs.Common.{◌-◌, ◌≡◌, ◌+◌, ◌≤◌, length}
use Rattle.disk.specs.Disk.{Kept}
use Rattle.disk.specs.Areas.{Within}
use Rattle.gated_log.specs.Copies.{IsCopied}
use Rattle.gated_log.proofs.copy.copy_bytes.Given as goal

abbrev pub invariant-parts : goal.invariant-parts
invariant-parts g l =
    (l.done ≤ l.fn.count) × Kept (g.S.Shelf.disk l.fn.shelf) (g.S.Shelf.disk l.shelf)
    × ((g.S.Shelf.disk l.fn.shelf).honest → Within (λ f. f ≡ l.fn.to) (λ c. Unit {0}) (g.S.Shelf.disk l.fn.shelf) (g.S.Shelf.disk l.shelf))
    × ((g.S.Shelf.disk l.fn.shelf).honest → l.fn.at + l.fn.count ≤ length ((g.S.Shelf.disk l.fn.shelf).seen l.fn.from) → IsCopied l.fn.from l.fn.at l.done l.fn.to (g.S.Shelf.disk l.fn.shelf).seen (g.S.Shelf.disk l.shelf).seen)

abbrev pub decreases-parts : goal.decreases-parts
decreases-parts g l = l.count - l.done
