use Rattle.node.proofs.AfterCuts.{cuts_opened}
use Rattle.node.proofs.resuming.cuts_are_opened.Goals as goal

pub returns : goal.returns
returns g c = cuts_opened g.T.TopicStore.stands g.T.TopicStore.faulty g.met.T.TopicStore.stands_one g.met.T.TopicStore.stands_sound
