use Rattle.std.proofs.Common.{◌≡◌, List, ap, ◌∙◌}
use Rattle.std.specs.Option.{option_map}
use Rattle.std.specs.FinMap as map
use Rattle.subscriptions.specs.State.{Consumer}
use Rattle.subscriptions.specs.Held.{subscription_of}
use Rattle.subscriptions.specs.Freeing.{freed_among}
use Rattle.subscriptions.specs.Steps.{left_on, freed_by}
use Rattle.subscriptions.proofs.Sound.{sound_left, freed_by_all}
use Rattle.subscriptions.proofs.subscription.Subscription.leave.Goals as goal

pub invariant_of-self : goal.invariant_of-self
invariant_of-self g c =
    let s = subscription_of c.self.inside in
    let freed : c.free_all.new.progress.deliveries ≡ freed_by c.args.who s.deliveries = freed_by_all c.args.who s c.free_all.new.progress.deliveries c.self.invariant
    (λ q. c.free_all.ensures.freed q ∙ ap (λ (cs : List Consumer). option_map (freed_among c.args.who cs) (map.get s.deliveries q)) c.as_slice.ensures) in
    rw (c.leave.ensures, c.detach_all.ensures.mode, c.detach_all.ensures.seats, c.free_all.ensures.acked, freed) (sound_left c.args.who s c.self.invariant)

pub returns : goal.returns
returns g c =
    let s = subscription_of c.self.inside in
    let freed : c.free_all.new.progress.deliveries ≡ freed_by c.args.who s.deliveries = freed_by_all c.args.who s c.free_all.new.progress.deliveries c.self.invariant
    (λ q. c.free_all.ensures.freed q ∙ ap (λ (cs : List Consumer). option_map (freed_among c.args.who cs) (map.get s.deliveries q)) c.as_slice.ensures) in
    rw (c.leave.ensures, c.detach_all.ensures.mode, c.detach_all.ensures.seats, c.free_all.ensures.acked, freed) (ap (left_on c.args.who) c.self.view_is)
