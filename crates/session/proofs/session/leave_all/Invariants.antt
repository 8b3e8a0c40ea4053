use Rattle.std.proofs.Common.{◌≡◌}
use Rattle.session.proofs.Leaving.{first_left}
use Rattle.session.proofs.session.leave_all.Given as goal

abbrev pub invariant-loop-topic : goal.invariant-loop-topic
invariant-loop-topic g l = record {
  left : g.P.Port.sole l.initial.port → g.P.Port.broker l.port ≡ first_left l.topic (g.P.Port.broker l.initial.port) l.who;
  passes : g.P.Port.passes l.initial.port l.port;
}
