use Rattle.std.proofs.Common.{◌≡◌, length}
use Rattle.topic_lock_tests.proofs.tests.shelves.Given as goal

abbrev pub invariant-loop : goal.invariant-loop
invariant-loop l = length l.shelves.items ≡ l.counter
