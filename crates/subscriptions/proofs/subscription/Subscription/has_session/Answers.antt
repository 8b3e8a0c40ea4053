use Rattle.std.proofs.Common.{◌≡◌, ◌∙◌, nat_eq, List, ap, sym, subst}
use Rattle.std.specs.List.{list_any}
use Rattle.subscriptions.specs.State.{Consumer, Subscription}
use Rattle.subscriptions.specs.Held.{subscription_of}
use Rattle.subscriptions.specs.Steps.{left_on}
use Rattle.subscriptions.proofs.Leaving.{stays_left}
use Rattle.subscriptions.proofs.subscription.Subscription.has_session.Goals as goal

pub returns-clause-none : goal.returns-clause-none
returns-clause-none g c =
    let known = ap (λ (cs : List Consumer). list_any (λ k. nat_eq k.key.session c.args.who) cs) (sym c.as_slice.ensures) ∙ sym c.has_session.ensures in
    λ none. subst (λ (s : Subscription). left_on c.args.who s ≡ s) c.self.view_is (stays_left c.args.who (subscription_of c.self.inside) c.self.invariant (known ∙ none))
