use Rattle.std.proofs.Common.{◌≡◌, length}
use Rattle.server_tests.proofs.tests.limits.shelves.Given as goal

abbrev pub invariant-loop : goal.invariant-loop
invariant-loop l = length l.shelves.items ≡ l.counter
