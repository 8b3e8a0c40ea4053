use Rattle.disk.specs.Moments.{weaken}
use Rattle.node.proofs.Frames.{here}
use Rattle.node.proofs.Knowing.{passes_know, worked_know}
use Rattle.node.proofs.node.Node.step.Goals as goal

pub returns-in-Open-clause-any_moment : goal.returns-in-Open-clause-any_moment
returns-in-Open-clause-any_moment g c = λ h. rw c.in-Open.is (here g.T.TopicStore.stands _ _ _ (c.open_session.ensures.passes.1 h).any_moment)

pub returns-in-Bytes-clause-any_moment : goal.returns-in-Bytes-clause-any_moment
returns-in-Bytes-clause-any_moment g c = λ h.
    let w = c.bytes-in-Bytes.ensures.works in
    let asked = rw c.as_slice.ensures at w.asked in
    rw c.in-Bytes.is (weaken _ _ _ _ (w.holds.1 h).any_moment (λ files s. (s.0, record { names = w.names; asked = asked; holds = s.1 }, s.2)))

pub returns-in-Pump-clause-any_moment : goal.returns-in-Pump-clause-any_moment
returns-in-Pump-clause-any_moment g c = λ h. rw c.in-Pump.is (here g.T.TopicStore.stands _ _ _ (c.pump.ensures.passes.1 h).any_moment)

pub returns-in-Close-clause-any_moment : goal.returns-in-Close-clause-any_moment
returns-in-Close-clause-any_moment g c = λ h. rw c.in-Close.is (here g.T.TopicStore.stands _ _ _ (c.close.ensures.passes.1 h).any_moment)

pub returns-in-Open-clause-known : goal.returns-in-Open-clause-known
returns-in-Open-clause-known g c = λ h. passes_know g.S.Shelf.disk _ _ (c.open_session.ensures.passes.1 h)

pub returns-in-Bytes-clause-known : goal.returns-in-Bytes-clause-known
returns-in-Bytes-clause-known g c = λ h. worked_know g.S.Shelf.disk _ _ _ (c.bytes-in-Bytes.ensures.works.holds.1 h)

pub returns-in-Pump-clause-known : goal.returns-in-Pump-clause-known
returns-in-Pump-clause-known g c = λ h. passes_know g.S.Shelf.disk _ _ (c.pump.ensures.passes.1 h)

pub returns-in-Close-clause-known : goal.returns-in-Close-clause-known
returns-in-Close-clause-known g c = λ h. passes_know g.S.Shelf.disk _ _ (c.close.ensures.passes.1 h)

pub returns-in-OnTopic-clause-any_moment : goal.returns-in-OnTopic-clause-any_moment
returns-in-OnTopic-clause-any_moment g c = λ h. rw c.in-OnTopic.is (c.on_topic.ensures.any_moment h)
