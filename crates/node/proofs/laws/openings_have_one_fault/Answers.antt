use Rattle.node.proofs.OneFault.{one_first_fault}
use Rattle.node.proofs.laws.openings_have_one_fault.Goals as goal

pub returns : goal.returns
returns g c = one_first_fault g.T.TopicStore.stands g.T.TopicStore.faulty g.met.T.TopicStore.faulty_one g.met.T.TopicStore.stands_sound
