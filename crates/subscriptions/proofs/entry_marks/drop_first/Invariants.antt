use Rattle.std.proofs.Common.{◌≡◌, ◌≤◌, drop}
use Rattle.subscriptions.proofs.entry_marks.drop_first.Given as goal

abbrev pub invariant-loop-left : goal.invariant-loop-left
invariant-loop-left l = (drop l.left l.marks.items ≡ drop l.fn.count l.fn.marks.items) × (l.left ≤ l.fn.count)

abbrev pub decreases-loop-left : goal.decreases-loop-left
decreases-loop-left l = l.left
