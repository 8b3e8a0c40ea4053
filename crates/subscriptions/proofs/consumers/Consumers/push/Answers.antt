use Rattle.std.proofs.Common.{◌≡◌, ◌++◌, ◌∷◌, [], Some, List, cond, length, sym, subst, rules}
use Rattle.holds.specs.Deliveries.{same_key}
use Rattle.holds.specs.declared.consumer.ConsumerKey.{ConsumerKey}
use Rattle.subscriptions.specs.State.{Consumer}
use Rattle.subscriptions.specs.Directory.{ArePlacesAmong, place_in, earliest}
use Rattle.subscriptions.proofs.Numbered.{places_pushed}
use Rattle.subscriptions.proofs.consumers.Consumers.push.Goals as goal

pub invariant_of-self-2 : goal.invariant_of-self-2
invariant_of-self-2 g c =
    let cs = c.self.inside.list.items in
    let pushed : c.push.new.self.items ≡ cs ++ c.args.consumer ∷ [] = search rules in
    let last : c.len.result ≡ length cs = search rules in
    let added = subst (λ (q : ConsumerKey). (k : ConsumerKey) → place_in c.add.new.self k ≡ cond (same_key q k) (Some (earliest (place_in c.self.inside.places q) c.len.result)) (place_in c.self.inside.places k)) c.key.ensures c.in_ok-add.ensures.ok in
    subst (λ (cs : List Consumer). ArePlacesAmong cs c.add.new.self) (sym pushed)
    (places_pushed cs c.self.inside.places c.add.new.self c.args.consumer c.len.result last added c.self.invariant)
