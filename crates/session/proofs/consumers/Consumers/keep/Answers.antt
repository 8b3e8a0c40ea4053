use Rattle.session.proofs.Places.{set_same}
use Rattle.session.proofs.consumers.Consumers.keep.Goals as goal

pub invariant_of-self : goal.invariant_of-self
invariant_of-self c = rw (set_same c.self.inside.entries.items c.args.place c.index_mut-entry.result.now c.keep.new.self c.index_mut-entry.ensures.value c.keep.ensures) c.self.invariant
