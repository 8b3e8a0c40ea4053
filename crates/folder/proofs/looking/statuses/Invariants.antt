use Rattle.std.proofs.Common.{◌-◌, ◌^◌, length}
use Rattle.node.specs.Standing.{state_of, Stands}
use Rattle.folder.specs.Looking.{AreCounted}
use Rattle.folder.proofs.Counted.{segments_laid}
use Rattle.folder.proofs.Told.{AreFirst}
use Rattle.folder.proofs.looking.statuses.Given as goal

-- the topics so far are told, with their segments
abbrev pub invariant-loop-statuses : goal.invariant-loop-statuses
invariant-loop-statuses g l = Stands g.S.Shelf.disk l.fn.node
    → AreFirst (state_of g.S.Shelf.disk l.fn.node) l.statuses.items × AreCounted segments_laid l.fn.node.topics.held.items (g.S.Shelf.disk l.fn.node.topics.shelf).seen l.statuses.items

abbrev pub decreases-loop-statuses : goal.decreases-loop-statuses
decreases-loop-statuses g l = 2 ^ 64 - length l.statuses.items
