use Rattle.std.proofs.Common.{◌≡◌, ◌+◌, ◌*◌, length}
use Rattle.topic_lock.proofs.ledgers.cut_topics.Given as goal

abbrev pub invariant-loop : goal.invariant-loop
invariant-loop g l = (l.accepted.parts + l.counter ≡ 64) × (l.accepted.amount ≡ 0) × (l.handed.parts + l.counter ≡ 64) × (l.handed.amount ≡ 0)
    × (l.held.parts + l.counter ≡ 64) × (l.held.amount ≡ 0) × (l.known.parts + 2 * l.counter ≡ 128) × (l.known.amount ≡ 0) × (length l.topics.items ≡ l.counter)
