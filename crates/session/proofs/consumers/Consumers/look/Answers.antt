use Rattle.session.proofs.consumers.Consumers.look.Goals as goal

pub invariant_of-self : goal.invariant_of-self
invariant_of-self g c = rw c.lower_each.ensures c.self.invariant
