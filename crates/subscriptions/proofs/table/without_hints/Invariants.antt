use Rattle.std.proofs.Common.{◌≡◌, [], length}
use Rattle.std.specs.List.{AllByRecursion}
use Rattle.subscriptions.proofs.table.without_hints.Given as goal

abbrev pub invariant-loop : goal.invariant-loop
invariant-loop l = record {
  same : length l.hints.items ≡ l.counter;
  empty : AllByRecursion (λ h. h ≡ []) l.hints.items;
}
