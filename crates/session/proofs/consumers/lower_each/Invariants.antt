use Rattle.std.proofs.Common.{◌≡◌}
use Rattle.session.proofs.consumers.lower_each.Given as goal

abbrev pub invariant-loop-place : goal.invariant-loop-place
invariant-loop-place l = l.consumers.items ≡ l.initial.consumers.items
