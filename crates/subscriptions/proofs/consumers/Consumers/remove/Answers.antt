use Rattle.std.proofs.Common.{List, ap, ◌∙◌}
use Rattle.std.specs.List.{position}
use Rattle.subscriptions.specs.State.{Consumer}
use Rattle.subscriptions.specs.Directory.{place_in, numbered}
use Rattle.subscriptions.specs.Steps.{is_consumer}
use Rattle.subscriptions.proofs.Numbered.{places_without}
use Rattle.subscriptions.proofs.consumers.Consumers.remove.Goals as goal

pub invariant_of-self : goal.invariant_of-self
invariant_of-self g c =
    let kept = c.as_slice.ensures.value ∙ c.forget_consumer.ensures in
    rw c.forget_consumer.ensures (places_without c.self.inside.list.items c.self.inside.places c.set.new.self c.number.new.places c.args.key c.set.ensures
    (λ k. c.number.ensures k ∙ ap (λ (cs : List Consumer). numbered (position (is_consumer k) cs) (place_in c.set.new.self k)) kept) c.self.invariant)
