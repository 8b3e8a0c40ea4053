use Rattle.std.proofs.Common.{arith}
use Rattle.session.proofs.Leaving.{first_left-more, first_left-all}
use Rattle.session.proofs.session.leave_all.Goals as goal

pub leave-requires : goal.leave-requires
leave-requires g c = omega (arith, c.topics-topic-end.ensures, g.met.P.Port.passes_count _ _ c.loop-topic.invariant.passes)

pub loop-topic-preserved : goal.loop-topic-preserved
loop-topic-preserved g c = record {
  left = λ s. first_left-more _ _ _ _ _ (c.loop-topic.invariant.left s) (c.leave.ensures.step (g.met.P.Port.passes_sole _ _ c.loop-topic.invariant.passes s));
  passes = g.met.P.Port.passes_both _ _ _ c.loop-topic.invariant.passes c.leave.ensures.passes;
}

pub returns-clause-left : goal.returns-clause-left
returns-clause-left g c = λ s. first_left-all c.loop-topic.topic _ _ _ (omega (arith, c.topics-topic-end.ensures, g.met.P.Port.counts_topics _ s)) (c.loop-topic.invariant.left s)
