use Rattle.std.proofs.Common.{◌≡◌, take}
use Rattle.session.specs.Noting.{AreQuiet}
use Rattle.session.proofs.asked.first_busy.Given as goal

abbrev pub invariant-loop-place : goal.invariant-loop-place
invariant-loop-place g l = record {
  quiet : g.P.Port.sole l.initial.port → AreQuiet (g.P.Port.broker l.initial.port) l.initial.who (take l.place l.initial.topics);
  same : g.P.Port.sole l.initial.port → g.P.Port.broker l.port ≡ g.P.Port.broker l.initial.port;
  passes : g.P.Port.passes l.initial.port l.port;
}
