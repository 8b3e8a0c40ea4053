use Rattle.std.proofs.Common.{refl, subst}
use Rattle.std.specs.List.{AllZip}
use Rattle.subscriptions.specs.State.{Subscriptions}
use Rattle.subscriptions.specs.Steps.{HasLearnt, HasLookedOn}
use Rattle.subscriptions.proofs.Looking.{limits_looked, hints_looked, places_looked, notes_looked}
use Rattle.subscriptions.proofs.Noted.{quiet_admits}
use Rattle.subscriptions.proofs.table.Subscriptions.is_quiet.Goals as goal

pub invariant_of-self : goal.invariant_of-self
invariant_of-self g c =
    let t : Subscriptions = record { subs = c.self.inside.subs.items; changes = c.self.inside.changes.items; slots = c.self.inside.marks.slots; messages = c.self.inside.marks.messages } in
    let subs = c.may_serve-is_served.new.subs.items in (
      limits_looked c.args.who t subs c.may_serve-is_served.ensures.learnt c.self.invariant.0,
      hints_looked c.args.who t subs c.self.inside.hints.items c.may_serve-is_served.ensures.learnt c.self.invariant.1,
      places_looked c.args.who t.subs subs c.self.inside.directory c.may_serve-is_served.ensures.learnt c.self.invariant.2,
      notes_looked c.args.who t.subs subs c.self.inside.quiet c.forget.new.self c.forget.ensures c.may_serve-is_served.ensures.learnt c.self.invariant.3,
    )

pub invariant_of-self-2 : goal.invariant_of-self-2
invariant_of-self-2 g c =
    let t : Subscriptions = record { subs = c.self.inside.subs.items; changes = c.self.inside.changes.items; slots = c.self.inside.marks.slots; messages = c.self.inside.marks.messages } in
    let subs = c.may_serve-is_served.new.subs.items in (
      limits_looked c.args.who t subs c.may_serve-is_served.ensures.learnt c.self.invariant.0,
      hints_looked c.args.who t subs c.self.inside.hints.items c.may_serve-is_served.ensures.learnt c.self.invariant.1,
      places_looked c.args.who t.subs subs c.self.inside.directory c.may_serve-is_served.ensures.learnt c.self.invariant.2,
      c.note.ensures subs (notes_looked c.args.who t.subs subs c.self.inside.quiet c.forget.new.self c.forget.ensures c.may_serve-is_served.ensures.learnt c.self.invariant.3) (c.may_serve-is_served.ensures.quiet c.if-is_served.false),
    )

pub returns-then-is_served-clause-learnt : goal.returns-then-is_served-clause-learnt
returns-then-is_served-clause-learnt g c =
    let t : Subscriptions = record { subs = c.self.inside.subs.items; changes = c.self.inside.changes.items; slots = c.self.inside.marks.slots; messages = c.self.inside.marks.messages } in
    let subs = c.may_serve-is_served.new.subs.items in
    let found : HasLearnt c.args.who t (record t { subs = subs }) = record { subs = c.may_serve-is_served.ensures.learnt; same = refl } in
    subst (λ (x : Subscriptions). HasLearnt c.args.who x (record t { subs = subs })) c.self.view_is found

pub returns-clause-learnt : goal.returns-clause-learnt
returns-clause-learnt g c =
    let t : Subscriptions = record { subs = c.self.inside.subs.items; changes = c.self.inside.changes.items; slots = c.self.inside.marks.slots; messages = c.self.inside.marks.messages } in
    let subs = c.may_serve-is_served.new.subs.items in
    let found : HasLearnt c.args.who t (record t { subs = subs }) = record { subs = c.may_serve-is_served.ensures.learnt; same = refl } in
    subst (λ (x : Subscriptions). HasLearnt c.args.who x (record t { subs = subs })) c.self.view_is found

pub returns-clause-looked : goal.returns-clause-looked
returns-clause-looked g c = λ _.
    let subs = c.may_serve-is_served.new.subs.items in
    subst (λ (x : Subscriptions). AllZip (HasLookedOn g.G.Gauge.exact c.args.who c.args.committed) x.subs subs) c.self.view_is (c.may_serve-is_served.ensures.looked c.if-is_served.false)

pub returns-clause-none : goal.returns-clause-none
returns-clause-none g c = λ _ id i a.
    let t : Subscriptions = record { subs = c.self.inside.subs.items; changes = c.self.inside.changes.items; slots = c.self.inside.marks.slots; messages = c.self.inside.marks.messages } in
    let subs = c.may_serve-is_served.new.subs.items in
    quiet_admits (record t { subs = subs }) (record { session = c.args.who; id = id }) c.args.committed i (c.may_serve-is_served.ensures.quiet c.if-is_served.false) a
