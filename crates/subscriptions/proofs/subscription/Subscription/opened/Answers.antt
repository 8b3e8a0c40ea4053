use Rattle.std.proofs.Common.{◌≡◌, [], rules}
use Rattle.subscriptions.proofs.Sound.{sound_opened}
use Rattle.subscriptions.proofs.subscription.Subscription.opened.Goals as goal

pub invariant_of-result : goal.invariant_of-result
invariant_of-result g c =
    let nobody : c.new-2.result ≡ [] = search rules in
    rw (nobody, c.new.ensures.mode, c.new.ensures.seats, c.opened.ensures.acked, c.opened.ensures.deliveries) (sound_opened c.args.name c.args.acked)
