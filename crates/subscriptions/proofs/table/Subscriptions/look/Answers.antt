use Rattle.std.proofs.Common.{◌≡◌, Some, None, ap, sym, subst, rules, set}
use Rattle.std.specs.List.{position}
use Rattle.subscriptions.specs.State.{Subscriptions}
use Rattle.subscriptions.specs.Directory.{ArePlaces}
use Rattle.subscriptions.specs.Steps.{is_on, learnt, IsLooked, has_permit_at}
use Rattle.subscriptions.proofs.Places.{misses}
use Rattle.subscriptions.proofs.Learning.{looks_nowhere, looks_at, permit_after, kept_learnt}
use Rattle.subscriptions.proofs.table.Subscriptions.look.Goals as goal

pub returns-in_default-clause-looked : goal.returns-in_default-clause-looked
returns-in_default-clause-looked g c =
    let t : Subscriptions = record { subs = c.self.inside.subs.items; changes = c.self.inside.changes.items; slots = c.self.inside.marks.slots; messages = c.self.inside.marks.messages } in
    let at : position (is_on c.args.key) c.self.inside.subs.items ≡ None = search rules in
    subst (λ (x : Subscriptions). IsLooked g.G.Gauge.exact (learnt x c.args.key) t) c.self.view_is (looks_nowhere t c.args.key g.G.Gauge.exact at)

pub returns-in_default-clause-permit : goal.returns-in_default-clause-permit
returns-in_default-clause-permit g c =
    let t : Subscriptions = record { subs = c.self.inside.subs.items; changes = c.self.inside.changes.items; slots = c.self.inside.marks.slots; messages = c.self.inside.marks.messages } in
    let at : position (is_on c.args.key) c.self.inside.subs.items ≡ None = search rules in
    sym (ap (has_permit_at c.args.key) (misses (is_on c.args.key) t.subs at))

pub invariant_of-self : goal.invariant_of-self
invariant_of-self g c = (
  c.self.invariant.0,
  c.self.invariant.1,
  subst (λ places. ArePlaces c.self.inside.subs.items places) (sym c.remember.ensures) c.self.invariant.2,
  c.self.invariant.3,
)

pub invariant_of-self-2 : goal.invariant_of-self-2
invariant_of-self-2 g c =
    let t : Subscriptions = record { subs = c.self.inside.subs.items; changes = c.self.inside.changes.items; slots = c.self.inside.marks.slots; messages = c.self.inside.marks.messages } in
    let at : position (is_on c.args.key) c.self.inside.subs.items ≡ Some c.in-Some.place = search rules in
    let l = c.look-has_permit.ensures.looked.learnt in
    let places = subst (λ places. ArePlaces t.subs places) (sym c.remember.ensures) c.self.invariant.2 in
    kept_learnt t c.args.key c.in-Some.place l.seen c.index_mut-sub.result.now c.look-has_permit.new.self c.self.inside.hints.items c.remember.new.self c.self.inside.quiet c.forget.new.self c.forget.ensures at c.index_mut-sub.ensures.value l.same (
      c.self.invariant.0,
      c.self.invariant.1,
      places,
      c.self.invariant.3,
    )

pub returns-clause-looked : goal.returns-clause-looked
returns-clause-looked g c =
    let t : Subscriptions = record { subs = c.self.inside.subs.items; changes = c.self.inside.changes.items; slots = c.self.inside.marks.slots; messages = c.self.inside.marks.messages } in
    let at : position (is_on c.args.key) c.self.inside.subs.items ≡ Some c.in-Some.place = search rules in
    let new : Subscriptions = record t { subs = set t.subs c.in-Some.place c.look-has_permit.new.self } in
    subst (λ (x : Subscriptions). IsLooked g.G.Gauge.exact (learnt x c.args.key) new) c.self.view_is
    (looks_at t c.args.key g.G.Gauge.exact c.in-Some.place c.index_mut-sub.result.now c.look-has_permit.new.self at c.index_mut-sub.ensures.value c.look-has_permit.ensures.looked)

pub returns-clause-permit : goal.returns-clause-permit
returns-clause-permit g c =
    let t : Subscriptions = record { subs = c.self.inside.subs.items; changes = c.self.inside.changes.items; slots = c.self.inside.marks.slots; messages = c.self.inside.marks.messages } in
    let at : position (is_on c.args.key) c.self.inside.subs.items ≡ Some c.in-Some.place = search rules in
    permit_after t c.args.key c.in-Some.place c.index_mut-sub.result.now c.look-has_permit.new.self _ at c.index_mut-sub.ensures.value c.look-has_permit.ensures.looked.learnt c.look-has_permit.ensures.permit
