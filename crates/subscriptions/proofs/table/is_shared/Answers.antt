use Rattle.std.proofs.Common.{◌≡◌, Some, None, ap, sym, ◌∙◌, rules}
use Rattle.std.proofs.Common.{Option}
use Rattle.subscriptions.specs.State.{Subscription}
use Rattle.subscriptions.specs.Steps.{is_on, is_shared}
use Rattle.subscriptions.proofs.Places.{finds, misses}
use Rattle.subscriptions.proofs.table.is_shared.Goals as goal

pub returns-in_default : goal.returns-in_default
returns-in_default g c =
    let none : c.args.place ≡ None = search rules in
    λ key is. sym (ap (λ (o : Option Subscription). is_shared o) (misses (is_on key) c.args.subs.now (sym is ∙ none)))

pub returns : goal.returns
returns g c =
    let some : c.args.place ≡ Some c.in-Some.place = search rules in
    λ key is. c.is_shared.ensures ∙ sym (ap (λ (o : Option Subscription). is_shared o) (finds (is_on key) c.args.subs.now c.in-Some.place c.index-subs-place.result (sym is ∙ some) c.index-subs-place.is))
