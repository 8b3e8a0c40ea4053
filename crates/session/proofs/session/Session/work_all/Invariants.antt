use Rattle.session.specs.Client.{play, Speaks}
use Rattle.session.specs.Working.{names_in, FramesStep}
use Rattle.session.proofs.session.Session.work_all.Given as goal

abbrev pub invariant-loop-frame : goal.invariant-loop-frame
invariant-loop-frame g l = record {
  steps : g.P.Port.sole l.initial.port → FramesStep (g.P.Port.fails l.initial.port l.port) (play l.initial.self (g.P.Port.broker l.initial.port) l.initial.out.items) l.yielded
      (play l.self (g.P.Port.broker l.port) l.out.items);
  speaks : Speaks l.initial.self l.initial.out.items l.self l.out.items;
  works : g.P.Port.works (names_in l.yielded) l.initial.port l.port;
}
