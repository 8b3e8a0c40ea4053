use Rattle.std.proofs.Common.{◌≡◌, false, take}
use Rattle.std.specs.List.{list_any}
use Rattle.subscriptions.specs.Quiet.{has_permit_of}
use Rattle.subscriptions.specs.Steps.{HaveLearnt, HaveLooked}
use Rattle.subscriptions.proofs.consumers.have_permit.Given as goal

abbrev pub invariant-loop-i : goal.invariant-loop-i
invariant-loop-i g l = record {
  learnt : HaveLearnt l.who l.initial.consumers.items l.consumers.items;
  looked : HaveLooked g.G.Gauge.exact l.who (take l.i l.initial.consumers.items) (take l.i l.consumers.items);
  exact : g.G.Gauge.exact → l.consumers.items ≡ l.initial.consumers.items;
  none : list_any (has_permit_of l.who) (take l.i l.consumers.items) ≡ false;
}
