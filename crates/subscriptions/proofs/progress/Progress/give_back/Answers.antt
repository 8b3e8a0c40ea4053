use Rattle.std.proofs.Common.{◌≡◌, Some}
use Rattle.holds.specs.Deliveries.{holder}
use Rattle.subscriptions.specs.Progress.{joined}
use Rattle.subscriptions.proofs.Lowered.{before_least, settled_before}
use Rattle.subscriptions.proofs.progress.Progress.give_back.Goals as goal

pub invariant_of-self : goal.invariant_of-self
invariant_of-self c =
    let out = before_least (λ i. holder c.self.inside.holds i ≡ Some c.args.consumer) c.first_held-first.result c.lowered_to-self-inside.result c.first_held-first.ensures.some c.first_held-first.ensures.none c.lowered_to-self-inside.ensures.lower in
    (settled_before c.self.inside.frontier c.lowered_to-self-inside.result (joined c.self.inside.acked c.self.inside.late.items) c.self.inside.holds c.give_back.new.self c.args.consumer c.lowered_to-self-inside.ensures.low out c.give_back.ensures c.self.invariant.0, c.self.invariant.1)
