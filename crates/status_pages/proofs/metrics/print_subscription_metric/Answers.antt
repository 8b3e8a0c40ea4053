use Rattle.std.proofs.Common.{◌≡◌, ◌∙◌, ◌+◌, ◌++◌, ◌∷◌, [], List, take, ap, sym, subst}
use Rattle.std.proofs.lemmas.List.{take_more}
use Rattle.std.specs.List.{flat_map}
use Rattle.std.specs.Io.KnownBytes.{Appends}
use Rattle.subscriptions.specs.declared.summary.SubscriptionSummary.{SubscriptionSummary}
use Rattle.status_pages.specs.Metrics.{subscription_number_text}
use Rattle.status_pages.proofs.ToldLemmas.{appends_more}
use Rattle.status_pages.proofs.metrics.print_subscription_metric.Goals as goal

pub loop-subscription-preserved : goal.loop-subscription-preserved
loop-subscription-preserved g c =
    let subs = c.args.subscriptions.now in
    let i = c.loop-subscription.subscription-index in
    let sub = c.subscription-item.result in
    let old = g.W.Write.contents c.args.writer.now in
    let mid = g.W.Write.contents c.loop-subscription.writer in
    let new = g.W.Write.contents c.print_number_of.new.writer in
    let f = subscription_number_text c.args.metric c.args.topic.now in
    let next : take (i + 1) subs ≡ take i subs ++ sub ∷ [] = take_more subs i sub c.loop-subscription-test.true ∙ ap (λ (s : SubscriptionSummary). take i subs ++ s ∷ []) (sym c.subscription-item.is) in
    let P : List SubscriptionSummary → Type 0 = λ (xs : List SubscriptionSummary). Appends old new (flat_map f xs) in
    subst P (sym next) (appends_more f old mid new (take i subs) sub c.loop-subscription.invariant c.in_ok-print_number_of.ensures)
