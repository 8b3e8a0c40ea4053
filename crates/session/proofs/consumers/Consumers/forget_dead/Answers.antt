use Rattle.session.proofs.consumers.Consumers.forget_dead.Goals as goal

pub invariant_of-self : goal.invariant_of-self
invariant_of-self g c = (
  rw (← c.as_slice.ensures.value) (c.forget_topics.ensures (rw c.as_slice.ensures.value (c.forget_dead.ensures.kept c.self.inside.topics.items c.self.invariant.0))),
  c.forget_dead.ensures.rising c.self.invariant.1,
)
