use Rattle.session.proofs.consumers.Consumers.list.Goals as goal

pub invariant_of-self : goal.invariant_of-self
invariant_of-self c = rw c.list_each.ensures.same c.self.invariant
