use Rattle.std.proofs.Common.{◌≡◌, ℕ, true, Some, None, sym, ◌∙◌, subst, rules}
use Rattle.std.proofs.lemmas.Bool.{true≢false}
use Rattle.std.specs.List.{position}
use Rattle.std.specs.Prelude.{IfSome, IfNone}
use Rattle.holds.specs.Backlog.{IsOpenAt}
use Rattle.subscriptions.specs.Progress.{State}
use Rattle.subscriptions.specs.State.{Subscription}
use Rattle.subscriptions.specs.Dispatching.{Gives}
use Rattle.subscriptions.specs.Held.{subscription_of}
use Rattle.subscriptions.specs.Steps.{is_consumer, is_on}
use Rattle.subscriptions.proofs.Places.{no_place}
use Rattle.subscriptions.proofs.Seats.{said_some, said_none, admits_given, gives_admitted, place_seated}
use Rattle.subscriptions.proofs.subscription.Subscription.pick.Goals as goal

pub unreachable-requires : goal.unreachable-requires
unreachable-requires g c =
    let cs = c.self.inside.consumers in
    let at : position (is_consumer c.args.key) cs ≡ None = search rules in
    let there = subst (λ (x : Subscription). is_on c.args.key x ≡ true) (sym c.self.view_is) c.requires.there in
    true≢false (sym there ∙ no_place (is_consumer c.args.key) cs at)

pub pick-requires-clause-there : goal.pick-requires-clause-there
pick-requires-clause-there g c =
    let s = subscription_of c.self.inside in
    let at : position (is_consumer c.args.key) s.consumers ≡ Some c.in-Some.place = search rules in
    place_seated c.args.key s.seats s.consumers c.self.invariant.seated ∙ at

pub returns-clause-some : goal.returns-clause-some
returns-clause-some g c =
    let s = subscription_of c.self.inside in
    let Opens : ℕ → Type 0 = IsOpenAt c.args.committed s.acked s.deliveries in
    let given = subst (λ (p : State). IfSome c.pick.result (Gives s.mode s.seats c.args.key c.args.marks.now.slots (IsOpenAt c.args.committed p.acked p.deliveries))) c.settle-first.ensures.same c.pick.ensures.some in
    rw (← c.self.view_is) (said_some c.pick.result _ _ (λ i g. admits_given s.mode c.args.key s c.args.marks.now.slots Opens i c.self.invariant.seated g) given)

pub returns-clause-none : goal.returns-clause-none
returns-clause-none g c =
    let s = subscription_of c.self.inside in
    let Opens : ℕ → Type 0 = IsOpenAt c.args.committed s.acked s.deliveries in
    let there = subst (λ (x : Subscription). is_on c.args.key x ≡ true) (sym c.self.view_is) c.requires.there in
    let given = subst (λ (p : State). IfNone c.pick.result ((i : ℕ) → Gives s.mode s.seats c.args.key c.args.marks.now.slots (IsOpenAt c.args.committed p.acked p.deliveries) i → ⊥)) c.settle-first.ensures.same c.pick.ensures.none in
    rw (← c.self.view_is) (said_none c.pick.result _ _ (λ i a. gives_admitted s.mode c.args.key s c.args.marks.now.slots Opens i c.self.invariant.seated there a) given)
