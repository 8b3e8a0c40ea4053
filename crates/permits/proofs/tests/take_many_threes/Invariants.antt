use Rattle.std.proofs.Common.{◌≡◌}
use Rattle.permits.proofs.tests.take_many_threes.Given as goal

abbrev pub invariant-loop : goal.invariant-loop
invariant-loop l = l.taker.word ≡ l.initial.taker.word
