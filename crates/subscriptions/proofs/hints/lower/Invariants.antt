use Rattle.std.proofs.Common.{◌≡◌}
use Rattle.subscriptions.specs.Hints.{lowered}
use Rattle.subscriptions.proofs.Lists.{firsts}
use Rattle.subscriptions.proofs.hints.lower.Given as goal

abbrev pub invariant-loop-i : goal.invariant-loop-i
invariant-loop-i l = l.hints.items ≡ firsts (lowered l.least) l.i l.initial.hints.items
