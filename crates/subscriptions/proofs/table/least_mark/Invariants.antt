use Rattle.std.proofs.Common.{◌≤◌, take}
use Rattle.std.specs.List.{AllByRecursion}
use Rattle.subscriptions.specs.Trimming.{IsPast}
use Rattle.subscriptions.proofs.table.least_mark.Given as goal

abbrev pub invariant-loop-sub : goal.invariant-loop-sub
invariant-loop-sub g l = (l.least ≤ l.most) × AllByRecursion (IsPast l.least) (take l.sub-index l.subs)
