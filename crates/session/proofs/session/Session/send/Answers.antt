use Rattle.std.proofs.Common.{◌∙◌, sym, refl}
use Rattle.session.proofs.Unknown.{sends-unknown}
use Rattle.session.proofs.session.Session.send.Goals as goal

pub returns-in_default-producer_topic-clause-step : goal.returns-in_default-producer_topic-clause-step
returns-in_default-producer_topic-clause-step g c = λ s.
    rw (sym c.sent_entry.ensures ∙ c.in-Some.is)
    (sends-unknown _ _ _ _ _ (rw (g.met.P.Port.counts_topics _ s) at c.in_default-producer_topic.ensures.unknown) (c.refuse_send.ensures.says, refl))
