use Rattle.std.proofs.Common.{◌≤◌, ◌-◌}
use Rattle.session.specs.Client.{play, Speaks}
use Rattle.session.specs.Pumping.{Sends}
use Rattle.session.proofs.speaker.Speaker.serve.Given as goal

abbrev pub invariant-loop-count : goal.invariant-loop-count
invariant-loop-count g l = record {
  most : l.count ≤ l.room;
  sends : g.P.Port.sole l.initial.port → Sends l.consumer l.count (play l.initial.self (g.P.Port.broker l.initial.port) l.initial.out.items)
      (play l.self (g.P.Port.broker l.port) l.out.items);
  speaks : Speaks l.initial.self l.initial.out.items l.self l.out.items;
  passes : g.P.Port.passes l.initial.port l.port;
}

abbrev pub decreases-loop-count : goal.decreases-loop-count
decreases-loop-count g l = l.room - l.count
