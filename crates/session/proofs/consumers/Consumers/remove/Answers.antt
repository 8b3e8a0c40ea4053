use Rattle.session.proofs.Noting.{noted-remove}
use Rattle.session.proofs.Ordered.{rising-remove}
use Rattle.session.proofs.consumers.Consumers.remove.Goals as goal

pub invariant_of-self : goal.invariant_of-self
invariant_of-self c = rw c.remove.ensures.items (
  noted-remove c.self.inside.topics.items c.self.inside.entries.items c.args.place c.self.invariant.0,
  rising-remove c.self.inside.entries.items c.args.place c.self.invariant.1,
)
