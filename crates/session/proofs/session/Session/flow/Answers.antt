use Rattle.std.proofs.Common.{refl, rules}
use Rattle.session.proofs.Unknown.{grants-unknown}
use Rattle.session.proofs.session.Session.flow.Goals as goal

pub returns-in_default-clause-step : goal.returns-in_default-clause-step
returns-in_default-clause-step g c = λ s. grants-unknown _ _ _ (rw (g.met.P.Port.counts_topics _ s) at c.in_default.ensures.unknown)

pub returns-clause-step : goal.returns-clause-step
returns-clause-step g c = λ s.
    rw c.in-Some.ensures.topic (record {
      result = c.grant-granted.result;
      step = rw c.number-who.ensures at (c.grant-granted.ensures.step s);
      client = search rules;
      out = refl;
    })
