use Rattle.std.proofs.Common.{◌≡◌, ◌≤◌, length, true, Some, None, ap, sym, ◌∙◌, set, subst, rules}
use Rattle.std.specs.Prelude.{IfSome, IfNone}
use Rattle.std.proofs.Common.{ℕ}
use Rattle.std.specs.List.{find, position}
use Rattle.subscriptions.specs.State.{Subscription, Subscriptions}
use Rattle.subscriptions.specs.Steps.{is_on, is_consumer, has_permit, has_permit_at, is_key_shared, Admits}
use Rattle.subscriptions.specs.Hints.{IsHint}
use Rattle.subscriptions.proofs.Found.{admits_none, permit_found, picks_some, picks_none, stands}
use Rattle.subscriptions.proofs.Passed.{passed_from, hint_picked, hints_at, hints_noted}
use Rattle.subscriptions.proofs.Places.{is_place, same_at}
use Rattle.subscriptions.proofs.table.Subscriptions.pick_permitted.Goals as goal

pub returns-in_default-clause-none : goal.returns-in_default-clause-none
returns-in_default-clause-none g c = λ i a.
    let t : Subscriptions = record { subs = c.self.inside.subs.items; changes = c.self.inside.changes.items; slots = c.self.inside.marks.slots; messages = c.self.inside.marks.messages } in
    let at : position (is_on c.args.key) c.self.inside.subs.items ≡ None = search rules in
    admits_none t c.args.key c.args.committed i at (subst (λ (x : Subscriptions). Admits x c.args.key c.args.committed i) (sym c.self.view_is) a)

pub pick-picked-requires-clause-there : goal.pick-picked-requires-clause-there
pick-picked-requires-clause-there g c =
    let t : Subscriptions = record { subs = c.self.inside.subs.items; changes = c.self.inside.changes.items; slots = c.self.inside.marks.slots; messages = c.self.inside.marks.messages } in
    let at : position (is_on c.args.key) c.self.inside.subs.items ≡ Some c.in-Some.place = search rules in
    stands t c.args.key c.in-Some.place c.index_mut-sub.result.now at c.index_mut-sub.ensures.value

pub pick-picked-requires-clause-passed : goal.pick-picked-requires-clause-passed
pick-picked-requires-clause-passed g c =
    let t : Subscriptions = record { subs = c.self.inside.subs.items; changes = c.self.inside.changes.items; slots = c.self.inside.marks.slots; messages = c.self.inside.marks.messages } in
    let at : position (is_on c.args.key) c.self.inside.subs.items ≡ Some c.in-Some.place = search rules in
    let low = (is_place (is_on c.args.key) c.self.inside.subs.items c.in-Some.place c.index_mut-sub.result.now at).within in
    let known = hints_at t.slots t.subs c.self.inside.hints.items c.in-Some.place c.index_mut-sub.result.now c.index-hints.result.now c.self.invariant.1.each_one low c.index_mut-sub.ensures.value c.index-hints.ensures in
    rw c.beginning-from.ensures (passed_from t.slots c.args.key c.index_mut-sub.result.now c.index-hints.result.now known)

pub invariant_of-self : goal.invariant_of-self
invariant_of-self g c =
    let t : Subscriptions = record { subs = c.self.inside.subs.items; changes = c.self.inside.changes.items; slots = c.self.inside.marks.slots; messages = c.self.inside.marks.messages } in
    let at : position (is_on c.args.key) c.self.inside.subs.items ≡ Some c.in-Some.place = search rules in
    let same : set c.self.inside.subs.items c.in-Some.place c.pick-picked.new.self ≡ c.self.inside.subs.items =
    ap (set c.self.inside.subs.items c.in-Some.place) c.pick-picked.ensures.same ∙ same_at (is_on c.args.key) c.self.inside.subs.items c.in-Some.place c.index_mut-sub.result.now c.index_mut-sub.ensures.value in
    let by_slots : is_key_shared c.index_mut-sub.result.now.mode ≡ true = ap (λ (s : Subscription). is_key_shared s.mode) (sym c.pick-picked.ensures.same) ∙ sym c.is_key_shared.ensures ∙ c.if-is_key_shared.true in
    let fits : c.args.committed ≤ length t.slots = subst (λ (x : Subscriptions). c.args.committed ≤ length x.slots) (sym c.self.view_is) c.requires.known in
    let low = (is_place (is_on c.args.key) c.self.inside.subs.items c.in-Some.place c.index_mut-sub.result.now at).within in
    let noted : IsHint t.slots c.index_mut-sub.result.now (record { key = c.args.key; below = c.unwrap_or-below.result }) =
    rw c.unwrap_or-below.ensures (hint_picked t.slots c.args.key c.index_mut-sub.result.now c.args.committed c.pick-picked.result fits by_slots c.pick-picked.ensures.some c.pick-picked.ensures.none) in
    rw same (
      c.self.invariant.0,
      hints_noted t c.self.inside.hints.items c.in-Some.place c.index_mut-sub.result.now c.index_mut-hints.result.now c.note.new.self c.self.invariant.1 low
          c.index_mut-sub.ensures.value c.index_mut-hints.ensures.value (λ known. c.note.ensures t.slots c.index_mut-sub.result.now known noted),
      c.self.invariant.2,
      c.self.invariant.3,
    )

pub returns-then-is_key_shared-clause-some : goal.returns-then-is_key_shared-clause-some
returns-then-is_key_shared-clause-some g c =
    let t : Subscriptions = record { subs = c.self.inside.subs.items; changes = c.self.inside.changes.items; slots = c.self.inside.marks.slots; messages = c.self.inside.marks.messages } in
    let at : position (is_on c.args.key) c.self.inside.subs.items ≡ Some c.in-Some.place = search rules in
    let permit : has_permit (find (is_consumer c.args.key) c.index_mut-sub.result.now.consumers) ≡ true = permit_found t c.args.key c.in-Some.place c.index_mut-sub.result.now at c.index_mut-sub.ensures.value (subst (λ (x : Subscriptions). has_permit_at c.args.key (find (is_on c.args.key) x.subs) ≡ true) (sym c.self.view_is) c.requires.permit) in
    subst (λ (x : Subscriptions). IfSome c.pick-picked.result (Admits x c.args.key c.args.committed)) c.self.view_is
    (picks_some t c.args.key c.args.committed c.in-Some.place c.index_mut-sub.result.now c.pick-picked.result at c.index_mut-sub.ensures.value permit c.pick-picked.ensures.some)

pub returns-then-is_key_shared-clause-none : goal.returns-then-is_key_shared-clause-none
returns-then-is_key_shared-clause-none g c =
    let t : Subscriptions = record { subs = c.self.inside.subs.items; changes = c.self.inside.changes.items; slots = c.self.inside.marks.slots; messages = c.self.inside.marks.messages } in
    let at : position (is_on c.args.key) c.self.inside.subs.items ≡ Some c.in-Some.place = search rules in
    subst (λ (x : Subscriptions). IfNone c.pick-picked.result ((i : ℕ) → Admits x c.args.key c.args.committed i → ⊥)) c.self.view_is
    (picks_none t c.args.key c.args.committed c.in-Some.place c.index_mut-sub.result.now c.pick-picked.result at c.index_mut-sub.ensures.value c.pick-picked.ensures.none)

pub returns-else-is_key_shared-clause-some : goal.returns-else-is_key_shared-clause-some
returns-else-is_key_shared-clause-some g c =
    let t : Subscriptions = record { subs = c.self.inside.subs.items; changes = c.self.inside.changes.items; slots = c.self.inside.marks.slots; messages = c.self.inside.marks.messages } in
    let at : position (is_on c.args.key) c.self.inside.subs.items ≡ Some c.in-Some.place = search rules in
    let permit : has_permit (find (is_consumer c.args.key) c.index_mut-sub.result.now.consumers) ≡ true = permit_found t c.args.key c.in-Some.place c.index_mut-sub.result.now at c.index_mut-sub.ensures.value (subst (λ (x : Subscriptions). has_permit_at c.args.key (find (is_on c.args.key) x.subs) ≡ true) (sym c.self.view_is) c.requires.permit) in
    subst (λ (x : Subscriptions). IfSome c.pick-picked.result (Admits x c.args.key c.args.committed)) c.self.view_is
    (picks_some t c.args.key c.args.committed c.in-Some.place c.index_mut-sub.result.now c.pick-picked.result at c.index_mut-sub.ensures.value permit c.pick-picked.ensures.some)

pub returns-else-is_key_shared-clause-none : goal.returns-else-is_key_shared-clause-none
returns-else-is_key_shared-clause-none g c =
    let t : Subscriptions = record { subs = c.self.inside.subs.items; changes = c.self.inside.changes.items; slots = c.self.inside.marks.slots; messages = c.self.inside.marks.messages } in
    let at : position (is_on c.args.key) c.self.inside.subs.items ≡ Some c.in-Some.place = search rules in
    subst (λ (x : Subscriptions). IfNone c.pick-picked.result ((i : ℕ) → Admits x c.args.key c.args.committed i → ⊥)) c.self.view_is
    (picks_none t c.args.key c.args.committed c.in-Some.place c.index_mut-sub.result.now c.pick-picked.result at c.index_mut-sub.ensures.value c.pick-picked.ensures.none)
