use Rattle.std.proofs.Common.{◌∙◌, sym, refl, inl, rules}
use Rattle.session.specs.declared.port.Found.TheVariants.{Topic, TooMany, NoMemory, Failed}
use Rattle.session.proofs.Refusals.{producer_topic}
use Rattle.session.proofs.session.Session.open_new.Goals as goal

pub read_name-requires : goal.read_name-requires
read_name-requires g c = rw c.as_str.ensures (producer_topic c.args.self.now.producers c.args.asked (sym c.own_refusal.ensures ∙ c.in_default.is))

pub returns-in_default-read_name-clause-step : goal.returns-in_default-read_name-clause-step
returns-in_default-read_name-clause-step g c = λ s.
    rw (sym c.own_refusal.ensures ∙ c.in_default.is) (record {
      found = NoMemory;
      between = g.P.Port.broker c.args.port.now;
      finds = inl (tt, refl);
      asks = search rules;
    })

pub returns-in-Topic-clause-step : goal.returns-in-Topic-clause-step
returns-in-Topic-clause-step g c = λ s.
    rw (sym c.own_refusal.ensures ∙ c.in_default.is) (record {
      found = Topic c.in-Topic.topic;
      between = g.P.Port.broker c.find-found.new.self;
      finds = rw (c.in-Ok.ensures ∙ c.as_str.ensures) at (c.in-Topic.ensures.step s);
      asks = c.open_on.ensures.step (g.met.P.Port.works_sole _ _ _ c.find-found.ensures.works s);
    })

pub returns-in-TooMany-clause-step : goal.returns-in-TooMany-clause-step
returns-in-TooMany-clause-step g c = λ s.
    rw (sym c.own_refusal.ensures ∙ c.in_default.is) (record {
      found = TooMany;
      between = g.P.Port.broker c.find-found.new.self;
      finds = rw (c.in-Ok.ensures ∙ c.as_str.ensures) at (c.in-TooMany.ensures.step s);
      asks = (c.refuse_producer-in-TooMany.ensures.says, refl);
    })

pub returns-in-Failed-clause-step : goal.returns-in-Failed-clause-step
returns-in-Failed-clause-step g c = λ s.
    rw (sym c.own_refusal.ensures ∙ c.in_default.is) (record {
      found = Failed;
      between = g.P.Port.broker c.find-found.new.self;
      finds = rw (c.in-Ok.ensures ∙ c.as_str.ensures) at (c.in-Failed.ensures.step s);
      asks = (c.in-Failed.ensures.failed, (c.refuse_producer-in-Failed.ensures.says, refl));
    })
