use Rattle.std.proofs.Common.{◌≡◌, true, add-one, arith, rules}
use Rattle.session.proofs.Speaking.{speaks_both}
use Rattle.session.proofs.speaker.Speaker.collect_topic.Goals as goal

pub returns-then-not-collect_one-clause-speaks : goal.returns-then-not-collect_one-clause-speaks
returns-then-not-collect_one-clause-speaks g c = speaks_both _ _ _ _ _ _ c.loop-count.invariant.speaks c.collect_one.ensures.speaks

pub loop-count-preserved : goal.loop-count-preserved
loop-count-preserved g c = record {
  most = omega arith;
  collects = λ s. let some : c.collect_one.result ≡ true = search rules in
      rw add-one (_, c.loop-count.invariant.collects s, c.collect_one.ensures.some some (g.met.P.Port.passes_sole _ _ c.loop-count.invariant.passes s));
  speaks = speaks_both _ _ _ _ _ _ c.loop-count.invariant.speaks c.collect_one.ensures.speaks;
  passes = g.met.P.Port.passes_both _ _ _ c.loop-count.invariant.passes c.collect_one.ensures.passes;
}
