use Rattle.session.proofs.Unknown.{redelivers-unknown}
use Rattle.session.proofs.session.Session.redeliver.Goals as goal

pub returns-in_default-clause-step : goal.returns-in_default-clause-step
returns-in_default-clause-step g c = λ s. redelivers-unknown _ _ _ (rw (g.met.P.Port.counts_topics _ s) at c.in_default.ensures.unknown)
