use Rattle.std.proofs.Common.{inl, inr, subst}
use Rattle.subscriptions.specs.State.{Subscription}
use Rattle.subscriptions.specs.Steps.{HasLearntOn, HaveLooked}
use Rattle.subscriptions.proofs.Looking.{same_looked, nothing_served, none_served, one_served}
use Rattle.subscriptions.proofs.subscription.Subscription.may_serve.Goals as goal

pub returns-then-not-has_open-clause-learnt : goal.returns-then-not-has_open-clause-learnt
returns-then-not-has_open-clause-learnt g c = same_looked c.args.who c.args.self.now c.has_open.new.self c.has_open.ensures.same

pub returns-then-not-has_open-clause-quiet : goal.returns-then-not-has_open-clause-quiet
returns-then-not-has_open-clause-quiet g c = λ _. nothing_served c.args.who c.args.committed c.args.self.now c.has_open.new.self c.has_open.ensures.same (c.has_open.ensures.none c.if-not-has_open.true)

pub returns-then-not-has_open-clause-looked : goal.returns-then-not-has_open-clause-looked
returns-then-not-has_open-clause-looked g c = λ _. inl (c.has_open.ensures.none c.if-not-has_open.true)

pub returns-clause-looked : goal.returns-clause-looked
returns-clause-looked g c = λ off.
    inr (subst (λ (s : Subscription). HaveLooked g.G.Gauge.exact c.args.who s.consumers c.have_permit.new.self.consumers) c.has_open.ensures.same (c.have_permit.ensures.looked off))

pub returns-clause-learnt : goal.returns-clause-learnt
returns-clause-learnt g c = subst (λ (s : Subscription). HasLearntOn c.args.who s c.have_permit.new.self) c.has_open.ensures.same c.have_permit.ensures.learnt

pub returns-clause-quiet : goal.returns-clause-quiet
returns-clause-quiet g c = λ off. none_served c.args.who c.args.committed c.have_permit.new.self c.have_permit.result c.have_permit.ensures.permit off

pub returns-clause-busy : goal.returns-clause-busy
returns-clause-busy g c = λ on quiet.
    one_served c.args.who c.args.committed c.args.self.now c.have_permit.new.self c.have_permit.result (c.has_open.ensures.some c.if-not-has_open.false)
    (subst (λ (s : Subscription). HasLearntOn c.args.who s c.have_permit.new.self) c.has_open.ensures.same c.have_permit.ensures.learnt) c.have_permit.ensures.permit on quiet
