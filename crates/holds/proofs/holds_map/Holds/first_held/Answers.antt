use Rattle.holds.proofs.Listed.{least_holder, no_holder}
use Rattle.holds.proofs.holds_map.Holds.first_held.Goals as goal

pub returns-clause-some : goal.returns-clause-some
returns-clause-some c = rw (← c.self.view_is) (least_holder c.self.inside.deliveries c.self.inside.places c.args.consumer c.first.result c.self.invariant c.first.ensures.some)

pub returns-clause-none : goal.returns-clause-none
returns-clause-none c = rw (← c.self.view_is) (no_holder c.self.inside.deliveries c.self.inside.places c.args.consumer c.first.result c.self.invariant c.first.ensures.none)
