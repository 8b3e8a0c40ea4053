use Rattle.std.proofs.Common.{◌≡◌, ℕ, List, length}
use Rattle.subscriptions.specs.Hints.{AreHintsOf}
use Rattle.subscriptions.specs.Steps.{left_on}
use Rattle.subscriptions.proofs.Lists.{firsts}
use Rattle.subscriptions.proofs.table.leave_all.Given as goal

abbrev pub invariant-loop-i : goal.invariant-loop-i
invariant-loop-i g l = record {
  left : l.subs.items ≡ firsts (λ s. left_on l.who s) l.i l.initial.subs.items;
  places : length l.hints.items ≡ length l.subs.items;
  hints : (slots : List ℕ) → AreHintsOf slots l.initial.subs.items l.initial.hints.items → AreHintsOf slots l.subs.items l.hints.items;
}
