use Rattle.subscriptions.proofs.Learning.{looked}
use Rattle.subscriptions.proofs.consumer.Consumer.look.Goals as goal

pub returns-clause-looked : goal.returns-clause-looked
returns-clause-looked g c = let e = c.look.ensures in looked _ _ _ _ _ _ _ _ _ _ _ c.self.view_is e.sent e.known e.bound e.word e.looked e.unlooked
