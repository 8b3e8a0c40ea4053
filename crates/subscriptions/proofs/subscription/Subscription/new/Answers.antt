use Rattle.std.proofs.Common.{◌≡◌, [], rules}
use Rattle.subscriptions.proofs.Sound.{sound_made}
use Rattle.subscriptions.proofs.subscription.Subscription.new.Goals as goal

pub invariant_of-result : goal.invariant_of-result
invariant_of-result g c =
    let nobody : c.new-2.result ≡ [] = search rules in
    rw (nobody, c.new.ensures.mode, c.new.ensures.seats, c.new-3.ensures.acked, c.new-3.ensures.deliveries) (sound_made c.args.name c.args.mode c.args.start)
