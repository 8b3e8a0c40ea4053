use Rattle.std.proofs.Common.{◌≡◌}
use Rattle.session.proofs.roll.look_each.Given as goal

abbrev pub invariant-loop-place : goal.invariant-loop-place
invariant-loop-place g l = record {
  same : g.P.Port.sole l.initial.port → g.P.Port.broker l.port ≡ g.P.Port.broker l.initial.port;
  passes : g.P.Port.passes l.initial.port l.port;
}
