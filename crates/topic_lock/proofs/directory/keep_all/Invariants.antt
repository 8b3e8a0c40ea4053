use Rattle.std.proofs.Common.{◌≡◌, ◌+◌, ◌≤◌, length}
use Rattle.std.specs.Prelude.{vec_capacity}
use Rattle.topic_lock.proofs.directory.keep_all.Given as goal

abbrev pub invariant-loop-shelf : goal.invariant-loop-shelf
invariant-loop-shelf g l = (length l.spare.items + length l.shelves.items ≡ 64) × (length l.shares.items ≡ length l.shelves.items) × (64 ≤ vec_capacity l.spare)

abbrev pub decreases-loop-shelf : goal.decreases-loop-shelf
decreases-loop-shelf g l = length l.shelves.items
