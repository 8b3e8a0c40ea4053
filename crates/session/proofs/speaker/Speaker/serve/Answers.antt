use Rattle.std.proofs.Common.{◌≡◌, true, Ok, add-one, arith, rules}
use Rattle.session.proofs.Speaking.{speaks_both}
use Rattle.session.proofs.speaker.Speaker.serve.Goals as goal

pub loop-count-preserved : goal.loop-count-preserved
loop-count-preserved g c = record {
  most = omega arith;
  sends = λ s. let some : c.serve_one.result ≡ Ok true = search rules in
      rw add-one (_, c.loop-count.invariant.sends s, c.serve_one.ensures.some some (g.met.P.Port.passes_sole _ _ c.loop-count.invariant.passes s));
  speaks = speaks_both _ _ _ _ _ _ c.loop-count.invariant.speaks c.serve_one.ensures.speaks;
  passes = g.met.P.Port.passes_both _ _ _ c.loop-count.invariant.passes c.serve_one.ensures.passes;
}

pub returns-in_err-serve_one-clause-speaks : goal.returns-in_err-serve_one-clause-speaks
returns-in_err-serve_one-clause-speaks g c = speaks_both _ _ _ _ _ _ c.loop-count.invariant.speaks c.serve_one.ensures.speaks

pub returns-then-not-branch-clause-speaks : goal.returns-then-not-branch-clause-speaks
returns-then-not-branch-clause-speaks g c = speaks_both _ _ _ _ _ _ c.loop-count.invariant.speaks c.serve_one.ensures.speaks
