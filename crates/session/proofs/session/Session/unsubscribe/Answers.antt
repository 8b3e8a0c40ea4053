use Rattle.std.proofs.Common.{refl}
use Rattle.session.proofs.Unknown.{unsubscribes-unknown}
use Rattle.session.proofs.session.Session.unsubscribe.Goals as goal

pub returns-in_default-clause-step : goal.returns-in_default-clause-step
returns-in_default-clause-step g c = λ s. unsubscribes-unknown _ _ _ _ (rw (g.met.P.Port.counts_topics _ s) at c.in_default.ensures.unknown) (c.refuse_consumer.ensures.says, refl)
