use Rattle.session.proofs.Unknown.{acks-unknown}
use Rattle.session.proofs.session.Session.ack.Goals as goal

pub returns-in_default-clause-step : goal.returns-in_default-clause-step
returns-in_default-clause-step g c = λ s. acks-unknown _ _ _ _ (rw (g.met.P.Port.counts_topics _ s) at c.in_default.ensures.unknown) (c.refuse_ack.ensures.refuses _)
