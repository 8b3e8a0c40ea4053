use Rattle.std.proofs.Common.{◌≡◌, ◌≤◌, ◌<◌, ◌-◌, ◌^◌, ℕ, [], None}
use Rattle.session.specs.Broker.{due_at}
use Rattle.session.specs.Client.{play, Speaks}
use Rattle.session.specs.Pumping.{Collects}
use Rattle.session.proofs.speaker.Speaker.collect_all.Given as goal

abbrev pub invariant-loop-from : goal.invariant-loop-from
invariant-loop-from g l = record {
  most : l.count ≤ 65536;
  collects : g.P.Port.sole l.initial.port → Collects l.count (play l.initial.self (g.P.Port.broker l.initial.port) l.initial.out.items)
      (play l.self (g.P.Port.broker l.port) l.out.items);
  all : g.P.Port.sole l.initial.port → l.self.fault ≡ None → l.count < 65536 → (topic : ℕ) → topic < l.from → due_at (g.P.Port.broker l.port) topic l.self.number ≡ [];
  speaks : Speaks l.initial.self l.initial.out.items l.self l.out.items;
  passes : g.P.Port.passes l.initial.port l.port;
}

abbrev pub decreases-loop-from : goal.decreases-loop-from
decreases-loop-from g l = 2 ^ 64 - l.from
