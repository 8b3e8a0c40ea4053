use Rattle.std.proofs.Common.{◌≤◌}
use Rattle.workers_tests.proofs.tests.limits.pongs.Given as goal

abbrev pub invariant-loop : goal.invariant-loop
invariant-loop l = l.count ≤ l.counter
