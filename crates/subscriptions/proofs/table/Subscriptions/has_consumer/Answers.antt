use Rattle.std.proofs.Common.{◌∙◌, ap, Option, ℕ}
use Rattle.std.specs.Option.{is_some}
use Rattle.subscriptions.specs.State.{Subscriptions}
use Rattle.subscriptions.specs.Steps.{is_on, has_consumer}
use Rattle.subscriptions.proofs.Standing.{any_place}
use Rattle.subscriptions.proofs.table.Subscriptions.has_consumer.Goals as goal

pub returns : goal.returns
returns g c =
    c.is_some.ensures
    ∙ ap (λ (o : Option ℕ). is_some o) (c.of.ensures.place c.self.inside.subs.items c.self.invariant.2)
    ∙ any_place (is_on c.args.key) c.self.inside.subs.items
    ∙ ap (λ (t : Subscriptions). has_consumer t c.args.key) c.self.view_is
