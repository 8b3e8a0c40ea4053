use Rattle.std.proofs.Common.{◌≡◌, ◌≤◌, length}
use Rattle.topic_lock.specs.Places.{AreNumberedFrom}
use Rattle.topic_lock.proofs.locked.LockedPort.look_around.Given as goal

abbrev pub invariant-loop-number : goal.invariant-loop-number
invariant-loop-number g l = (length l.known.items ≡ l.number) × (length l.initial.known.items ≤ length l.known.items) × AreNumberedFrom (λ it. it.token.value.number) 0 l.known.items
