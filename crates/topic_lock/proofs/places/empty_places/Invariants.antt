use Rattle.std.proofs.Common.{◌≡◌, length}
use Rattle.topic_lock.proofs.places.empty_places.Given as goal

abbrev pub invariant-loop : goal.invariant-loop
invariant-loop g l = length l.places.items ≡ l.counter
