use Rattle.std.proofs.Common.{◌≡◌, List, Some, None, ap, sym, ◌∙◌, set, subst, refl, rules}
use Rattle.std.specs.List.{find, position}
use Rattle.subscriptions.specs.Directory.{ArePlacesAmong}
use Rattle.subscriptions.specs.State.{Consumer}
use Rattle.subscriptions.specs.Steps.{is_consumer, first_changed, has_permit, sent_more, learnt_to, IsLearnt}
use Rattle.subscriptions.proofs.Found.{none_permitted}
use Rattle.subscriptions.proofs.Learning.{learnt_twice}
use Rattle.subscriptions.proofs.Numbered.{places_learnt_to, places_taken}
use Rattle.subscriptions.proofs.Places.{changes, finds, misses}
use Rattle.subscriptions.proofs.consumers.Consumers.take.Goals as goal

pub unreachable-requires : goal.unreachable-requires
unreachable-requires g c =
    let at : position (is_consumer c.args.key) c.args.self.now ≡ None = search rules in
    none_permitted _ (misses (is_consumer c.args.key) c.args.self.now at) c.requires.permit

pub take-requires-clause-permit : goal.take-requires-clause-permit
take-requires-clause-permit g c =
    let cs = c.self.inside.list.items in
    let at : position (is_consumer c.args.key) cs ≡ Some c.in-Some.place = search rules in
    sym (ap has_permit (finds (is_consumer c.args.key) cs c.in-Some.place c.index_mut-consumer.result.now at c.index_mut-consumer.ensures.value))
    ∙ ap (λ (xs : List Consumer). has_permit (find (is_consumer c.args.key) xs)) c.self.view_is ∙ c.requires.permit

pub returns-clause-learnt : goal.returns-clause-learnt
returns-clause-learnt g c =
    let cs = c.self.inside.list.items in
    let at : position (is_consumer c.args.key) cs ≡ Some c.in-Some.place = search rules in
    subst (λ (xs : List Consumer). IsLearnt (λ n. first_changed (is_consumer c.args.key) (learnt_to n) (first_changed (is_consumer c.args.key) (sent_more c.args.messages) xs)) (set cs c.in-Some.place c.take.new.self)) c.self.view_is
    (learnt_twice (is_consumer c.args.key) learnt_to (sent_more c.args.messages) (λ _. refl) cs c.in-Some.place c.index_mut-consumer.result.now c.take.new.self at c.index_mut-consumer.ensures.value c.take.ensures.learnt)

pub returns-clause-exact : goal.returns-clause-exact
returns-clause-exact g c = λ e.
    let cs = c.self.inside.list.items in
    let at : position (is_consumer c.args.key) cs ≡ Some c.in-Some.place = search rules in
    changes (is_consumer c.args.key) (sent_more c.args.messages) cs c.in-Some.place c.index_mut-consumer.result.now c.take.new.self at c.index_mut-consumer.ensures.value (c.take.ensures.exact e)
    ∙ ap (first_changed (is_consumer c.args.key) (sent_more c.args.messages)) c.self.view_is

pub invariant_of-self : goal.invariant_of-self
invariant_of-self g c =
    let cs = c.self.inside.list.items in
    let at : position (is_consumer c.args.key) cs ≡ Some c.in-Some.place = search rules in
    let l = learnt_twice (is_consumer c.args.key) learnt_to (sent_more c.args.messages) (λ _. refl) cs c.in-Some.place c.index_mut-consumer.result.now c.take.new.self at c.index_mut-consumer.ensures.value c.take.ensures.learnt in
    let places = subst (λ places. ArePlacesAmong cs places) (sym c.remember.ensures) c.self.invariant in
    subst (λ (xs : List Consumer). ArePlacesAmong xs c.remember.new.self) (sym l.same)
    (places_learnt_to (first_changed (is_consumer c.args.key) (sent_more c.args.messages) cs) c.remember.new.self c.args.key l.seen (places_taken cs c.remember.new.self c.args.key c.args.messages places))
