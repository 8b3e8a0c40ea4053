use Rattle.std.proofs.Common.{◌≡◌, ◌≤◌, length}
use Rattle.topic_lock.specs.Places.{AreNumberedFrom}
use Rattle.topic_lock.proofs.locked.LockedPort.learn.Given as goal

abbrev pub invariant-loop-number : goal.invariant-loop-number
invariant-loop-number g l = (length l.mine.items ≡ l.number) × (length l.initial.mine.items ≤ length l.mine.items) × AreNumberedFrom (λ it. it.token.value.number) 0 l.mine.items
