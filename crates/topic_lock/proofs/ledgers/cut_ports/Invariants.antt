use Rattle.std.proofs.Common.{◌≡◌, ◌+◌, length}
use Rattle.topic_lock.proofs.ledgers.cut_ports.Given as goal

abbrev pub invariant-loop : goal.invariant-loop
invariant-loop g l = (l.accepted.parts + l.counter ≡ l.count) × (l.accepted.amount ≡ 0) × (l.handed.parts + l.counter ≡ l.count) × (l.handed.amount ≡ 0) × (length l.ports.items ≡ l.counter)
