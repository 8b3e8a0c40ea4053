use Rattle.std.proofs.Common.{◌≡◌, ap}
use Rattle.holds.specs.Deliveries.{given_back}
use Rattle.subscriptions.specs.Held.{subscription_of}
use Rattle.subscriptions.specs.Steps.{each_delivery, detached_on}
use Rattle.subscriptions.proofs.Each.{each_by}
use Rattle.subscriptions.proofs.Sound.{sound_detached}
use Rattle.subscriptions.proofs.subscription.Subscription.detach.Goals as goal

pub invariant_of-self : goal.invariant_of-self
invariant_of-self g c =
    let s = subscription_of c.self.inside in
    let given : c.give_back.new.self.deliveries ≡ each_delivery (λ i d. given_back c.args.key d) s.deliveries = each_by (λ i d. given_back c.args.key d) s.deliveries _ c.give_back.ensures.deliveries in
    rw (c.remove.ensures, c.detach.ensures.mode, c.detach.ensures.seats, c.give_back.ensures.acked, given) (sound_detached c.args.key s c.self.invariant)

pub returns : goal.returns
returns g c =
    let s = subscription_of c.self.inside in
    let given : c.give_back.new.self.deliveries ≡ each_delivery (λ i d. given_back c.args.key d) s.deliveries = each_by (λ i d. given_back c.args.key d) s.deliveries _ c.give_back.ensures.deliveries in
    rw (c.remove.ensures, c.detach.ensures.mode, c.detach.ensures.seats, c.give_back.ensures.acked, given) (ap (detached_on c.args.key) c.self.view_is)
