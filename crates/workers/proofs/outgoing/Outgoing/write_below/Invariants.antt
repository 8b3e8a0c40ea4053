use Rattle.std.specs.Prelude.{◌-◌, ◌^◌}
use Rattle.rtrb.specs.Ring.{SameConsumer}
use Rattle.workers.specs.Writes.{Wrote}
use Rattle.workers.proofs.outgoing.Outgoing.write_below.Given as goal

abbrev pub invariant-loop : goal.invariant-loop
invariant-loop g l = SameConsumer l.initial.self.replies l.self.replies × Wrote g.W.Write.contents l.initial.self l.self

abbrev pub decreases-loop : goal.decreases-loop
decreases-loop g l = 2 ^ 62 - l.self.next
