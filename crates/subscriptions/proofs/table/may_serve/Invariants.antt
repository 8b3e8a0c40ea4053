use Rattle.std.proofs.Common.{◌≡◌, take}
use Rattle.std.specs.List.{AllByRecursion, AllZip}
use Rattle.subscriptions.specs.Quiet.{IsQuietOn}
use Rattle.subscriptions.specs.Steps.{HasLearntOn, HasLookedOn}
use Rattle.subscriptions.proofs.table.may_serve.Given as goal

abbrev pub invariant-loop-i : goal.invariant-loop-i
invariant-loop-i g l = record {
  learnt : AllZip (HasLearntOn l.who) l.initial.subs.items l.subs.items;
  exact : g.G.Gauge.exact → l.subs.items ≡ l.initial.subs.items;
  looked : AllZip (HasLookedOn g.G.Gauge.exact l.who l.committed) (take l.i l.initial.subs.items) (take l.i l.subs.items);
  quiet : AllByRecursion (IsQuietOn l.who l.committed) (take l.i l.subs.items);
}
