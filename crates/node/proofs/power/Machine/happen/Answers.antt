use Rattle.node.proofs.Frames.{here}
use Rattle.node.proofs.power.Machine.happen.Goals as goal

pub returns-in-Crash-clause-any_moment : goal.returns-in-Crash-clause-any_moment
returns-in-Crash-clause-any_moment g c = λ old holds. rw c.in-Crash.is (here g.T.TopicStore.stands _ _ _ (c.crash.ensures.any_moment old holds))

pub returns-in-Event-clause-any_moment : goal.returns-in-Event-clause-any_moment
returns-in-Event-clause-any_moment g c = λ old holds. rw c.in-Event.is (c.event-output.ensures.any_moment old holds)
