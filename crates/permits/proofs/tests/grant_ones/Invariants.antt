use Rattle.std.proofs.Common.{◌≡◌}
use Rattle.permits.proofs.tests.grant_ones.Given as goal

abbrev pub invariant-loop : goal.invariant-loop
invariant-loop l = l.granter.word ≡ l.initial.granter.word
