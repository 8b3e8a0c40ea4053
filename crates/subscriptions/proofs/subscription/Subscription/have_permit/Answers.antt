use Rattle.std.proofs.Common.{subst}
use Rattle.subscriptions.specs.Held.{subscription_of}
use Rattle.subscriptions.specs.State.{Subscription}
use Rattle.subscriptions.specs.Steps.{HasLearntOn, HaveLooked}
use Rattle.subscriptions.proofs.Looking.{looked_at, sound_looked}
use Rattle.subscriptions.proofs.subscription.Subscription.have_permit.Goals as goal

pub invariant_of-self : goal.invariant_of-self
invariant_of-self g c =
    let s = subscription_of c.self.inside in
    sound_looked c.args.who s (record s { consumers = c.have_permit.new.self }) (looked_at c.args.who s c.have_permit.new.self c.have_permit.ensures.learnt) c.self.invariant

pub returns-clause-looked : goal.returns-clause-looked
returns-clause-looked g c = λ off. subst (λ (x : Subscription). HaveLooked g.G.Gauge.exact c.args.who x.consumers c.have_permit.new.self) c.self.view_is (c.have_permit.ensures.looked off)

pub returns-clause-learnt : goal.returns-clause-learnt
returns-clause-learnt g c =
    let s = subscription_of c.self.inside in
    subst (λ (x : Subscription). HasLearntOn c.args.who x (record s { consumers = c.have_permit.new.self })) c.self.view_is (looked_at c.args.who s c.have_permit.new.self c.have_permit.ensures.learnt)
