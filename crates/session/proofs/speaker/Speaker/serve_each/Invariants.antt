use Rattle.std.proofs.Common.{◌≤◌, take}
use Rattle.session.specs.Asking.{Knows}
use Rattle.session.specs.Client.{play, Speaks}
use Rattle.session.specs.Pumping.{ServesEach}
use Rattle.session.proofs.speaker.Speaker.serve_each.Given as goal

abbrev pub invariant-loop-place : goal.invariant-loop-place
invariant-loop-place g l = record {
  most : l.count ≤ 64;
  serves : g.P.Port.sole l.initial.port → ServesEach (λ topic why. g.P.Port.refuses l.initial.port topic why l.port) (take l.place (g.R.Roll.entries l.initial.roll)) 64 l.count
      (play l.initial.self (g.P.Port.broker l.initial.port) l.initial.out.items) (play l.self (g.P.Port.broker l.port) l.out.items);
  knows : g.P.Port.sole l.initial.port → Knows l.self.number (g.P.Port.broker l.port) l.last;
  speaks : Speaks l.initial.self l.initial.out.items l.self l.out.items;
  passes : g.P.Port.passes l.initial.port l.port;
}
