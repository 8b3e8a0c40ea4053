use Rattle.std.proofs.Common.{List, subst}
use Rattle.subscriptions.specs.State.{Consumer}
use Rattle.subscriptions.specs.Steps.{HaveLearnt, HaveLooked}
use Rattle.subscriptions.proofs.Looking.{places_looked_among}
use Rattle.subscriptions.proofs.consumers.Consumers.have_permit.Goals as goal

pub invariant_of-self : goal.invariant_of-self
invariant_of-self g c = places_looked_among c.args.who c.self.inside.list.items c.have_permit.new.consumers.items c.self.inside.places c.have_permit.ensures.learnt c.self.invariant

pub returns-clause-looked : goal.returns-clause-looked
returns-clause-looked g c = λ off. subst (λ (cs : List Consumer). HaveLooked g.G.Gauge.exact c.args.who cs c.have_permit.new.consumers.items) c.self.view_is (c.have_permit.ensures.looked off)

pub returns-clause-learnt : goal.returns-clause-learnt
returns-clause-learnt g c = subst (λ (cs : List Consumer). HaveLearnt c.args.who cs c.have_permit.new.consumers.items) c.self.view_is c.have_permit.ensures.learnt
