use Rattle.std.proofs.Common.{◌≡◌, ◌+◌, length}
use Rattle.topic_lock.proofs.ledgers.cut_flushers.Given as goal

abbrev pub invariant-loop : goal.invariant-loop
invariant-loop g l = (l.known.parts + l.counter ≡ 192) × (l.known.amount ≡ 0) × (length l.flushers.items ≡ l.counter)
