use Rattle.subscriptions.proofs.Learning.{took}
use Rattle.subscriptions.proofs.consumer.Consumer.take.Goals as goal

pub returns-clause-learnt : goal.returns-clause-learnt
returns-clause-learnt g c = let e = c.take-is_taken.ensures in took _ _ _ _ _ _ _ _ _ _ _ _ _ _ c.self.view_is c.if-prove.false e.sent e.known e.bound e.word e.looked e.unlooked
