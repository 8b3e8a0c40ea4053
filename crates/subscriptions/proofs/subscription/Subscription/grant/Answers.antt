use Rattle.subscriptions.specs.Held.{subscription_of}
use Rattle.subscriptions.proofs.Sound.{sound_granted}
use Rattle.subscriptions.proofs.subscription.Subscription.grant.Goals as goal

pub invariant_of-self-2 : goal.invariant_of-self-2
invariant_of-self-2 g c = rw c.in_ok-grant.ensures.ok.1 (sound_granted c.args.key c.args.permits (subscription_of c.self.inside) c.in_ok-grant.ensures.ok.0 c.self.invariant)
