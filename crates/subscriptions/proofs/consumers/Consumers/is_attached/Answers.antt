use Rattle.std.proofs.Common.{ℕ, Option, List, ap, ◌∙◌}
use Rattle.std.specs.List.{list_any}
use Rattle.std.specs.Option.{is_some}
use Rattle.subscriptions.specs.State.{Consumer}
use Rattle.subscriptions.specs.Steps.{is_consumer}
use Rattle.subscriptions.proofs.Standing.{any_place}
use Rattle.subscriptions.proofs.consumers.Consumers.is_attached.Goals as goal

pub returns : goal.returns
returns g c =
    c.is_some.ensures ∙ ap (λ (o : Option ℕ). is_some o) (c.of.ensures.value ∙ c.self.invariant.found c.args.key) ∙ any_place (is_consumer c.args.key) c.self.inside.list.items
    ∙ ap (λ (cs : List Consumer). list_any (is_consumer c.args.key) cs) c.self.view_is
