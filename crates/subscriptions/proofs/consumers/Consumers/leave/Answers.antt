use Rattle.std.proofs.Common.{List, ap, ◌∙◌}
use Rattle.std.specs.List.{position}
use Rattle.subscriptions.specs.State.{Consumer}
use Rattle.subscriptions.specs.Directory.{place_in, numbered}
use Rattle.subscriptions.specs.Steps.{is_consumer}
use Rattle.subscriptions.proofs.Numbered.{places_without_session}
use Rattle.subscriptions.proofs.consumers.Consumers.leave.Goals as goal

pub invariant_of-self : goal.invariant_of-self
invariant_of-self g c =
    let kept = c.as_slice.ensures.value ∙ c.forget_session.ensures in
    rw c.forget_session.ensures (places_without_session c.self.inside.list.items c.self.inside.places c.leave.new.self c.number.new.places c.args.who c.leave.ensures
    (λ k. c.number.ensures k ∙ ap (λ (cs : List Consumer). numbered (position (is_consumer k) cs) (place_in c.leave.new.self k)) kept) c.self.invariant)
