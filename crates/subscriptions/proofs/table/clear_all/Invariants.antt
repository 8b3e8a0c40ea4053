use Rattle.std.proofs.Common.{◌≡◌, [], length, take}
use Rattle.std.specs.List.{AllByRecursion}
use Rattle.subscriptions.proofs.table.clear_all.Given as goal

abbrev pub invariant-loop-i : goal.invariant-loop-i
invariant-loop-i l = record {
  same : length l.hints.items ≡ length l.initial.hints.items;
  empty : AllByRecursion (λ h. h ≡ []) (take l.i l.hints.items);
}
