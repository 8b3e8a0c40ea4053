use Rattle.std.proofs.Common.{◌≡◌, List, Some, None, ap, sym, ◌∙◌, refl, set, subst, rules}
use Rattle.std.specs.List.{position}
use Rattle.subscriptions.specs.Directory.{ArePlacesAmong}
use Rattle.subscriptions.specs.State.{Consumer}
use Rattle.subscriptions.specs.Steps.{is_consumer, first_changed, has_permit, learnt_to, IsLooked}
use Rattle.subscriptions.proofs.Learning.{learnt_place, looked_place, looked_nowhere, finds_learnt}
use Rattle.subscriptions.proofs.Numbered.{places_learnt_to}
use Rattle.subscriptions.proofs.Places.{misses}
use Rattle.subscriptions.proofs.consumers.Consumers.look.Goals as goal

pub returns-in_default-clause-looked : goal.returns-in_default-clause-looked
returns-in_default-clause-looked g c =
    let cs = c.self.inside.list.items in
    let at : position (is_consumer c.args.key) cs ≡ None = search rules in
    subst (λ (xs : List Consumer). IsLooked g.G.Gauge.exact (λ n. first_changed (is_consumer c.args.key) (learnt_to n) xs) cs) c.self.view_is (looked_nowhere (is_consumer c.args.key) g.G.Gauge.exact learnt_to cs at)

pub returns-in_default-clause-permit : goal.returns-in_default-clause-permit
returns-in_default-clause-permit g c =
    let cs = c.self.inside.list.items in
    let at : position (is_consumer c.args.key) cs ≡ None = search rules in
    sym (ap has_permit (misses (is_consumer c.args.key) cs at))

pub returns-clause-looked : goal.returns-clause-looked
returns-clause-looked g c =
    let cs = c.self.inside.list.items in
    let at : position (is_consumer c.args.key) cs ≡ Some c.in-Some.place = search rules in
    subst (λ (xs : List Consumer). IsLooked g.G.Gauge.exact (λ n. first_changed (is_consumer c.args.key) (learnt_to n) xs) (set cs c.in-Some.place c.look.new.self)) c.self.view_is
    (looked_place (is_consumer c.args.key) g.G.Gauge.exact learnt_to cs c.in-Some.place c.index_mut-consumer.result.now c.look.new.self at c.index_mut-consumer.ensures.value c.look.ensures.looked)

pub returns-clause-permit : goal.returns-clause-permit
returns-clause-permit g c =
    let cs = c.self.inside.list.items in
    let at : position (is_consumer c.args.key) cs ≡ Some c.in-Some.place = search rules in
    c.look.ensures.permit
    ∙ sym (ap has_permit (finds_learnt (is_consumer c.args.key) learnt_to (λ _ _. refl) cs c.in-Some.place c.index_mut-consumer.result.now c.look.new.self at c.index_mut-consumer.ensures.value c.look.ensures.looked.learnt))

pub invariant_of-self : goal.invariant_of-self
invariant_of-self g c = subst (λ places. ArePlacesAmong c.self.inside.list.items places) (sym c.remember.ensures) c.self.invariant

pub invariant_of-self-2 : goal.invariant_of-self-2
invariant_of-self-2 g c =
    let cs = c.self.inside.list.items in
    let at : position (is_consumer c.args.key) cs ≡ Some c.in-Some.place = search rules in
    let l = learnt_place (is_consumer c.args.key) learnt_to cs c.in-Some.place c.index_mut-consumer.result.now c.look.new.self at c.index_mut-consumer.ensures.value c.look.ensures.looked.learnt in
    let places = subst (λ places. ArePlacesAmong cs places) (sym c.remember.ensures) c.self.invariant in
    subst (λ (xs : List Consumer). ArePlacesAmong xs c.remember.new.self) (sym l.same) (places_learnt_to cs c.remember.new.self c.args.key l.seen places)
