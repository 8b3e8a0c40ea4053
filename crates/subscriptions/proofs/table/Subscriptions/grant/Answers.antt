use Rattle.std.proofs.Common.{◌≡◌, true, false, Some, None, ap, sym, ◌∙◌, refl, subst, set, List, rules}
use Rattle.std.specs.List.{position}
use Rattle.subscriptions.specs.State.{Subscription, Subscriptions}
use Rattle.subscriptions.specs.Steps.{first_changed, is_on, granted, granted_on, grants_too_many}
use Rattle.subscriptions.proofs.Places.{changes, same_at}
use Rattle.subscriptions.proofs.Limits.{limits_changed}
use Rattle.subscriptions.proofs.Found.{on_err, grants_none, grants_at, changes_at}
use Rattle.subscriptions.proofs.Passed.{hints_granted}
use Rattle.subscriptions.proofs.Standing.{places_granted}
use Rattle.subscriptions.proofs.Noted.{notes_granted}
use Rattle.subscriptions.proofs.table.Subscriptions.grant.Goals as goal

pub returns-in_default-clause-ok : goal.returns-in_default-clause-ok
returns-in_default-clause-ok g c =
    let t : Subscriptions = record { subs = c.self.inside.subs.items; changes = c.self.inside.changes.items; slots = c.self.inside.marks.slots; messages = c.self.inside.marks.messages } in
    let at : position (is_on c.args.key) c.self.inside.subs.items ≡ None = search rules in
    subst (λ (x : Subscriptions). (grants_too_many x c.args.key c.args.permits ≡ false) × (x ≡ granted x c.args.key c.args.permits)) c.self.view_is (grants_none t c.args.key c.args.permits at)

pub invariant_of-self-2 : goal.invariant_of-self-2
invariant_of-self-2 g c =
    let t : Subscriptions = record { subs = c.self.inside.subs.items; changes = c.self.inside.changes.items; slots = c.self.inside.marks.slots; messages = c.self.inside.marks.messages } in
    let at : position (is_on c.args.key) c.self.inside.subs.items ≡ Some c.in-Some.place = search rules in
    let new : set c.self.inside.subs.items c.in-Some.place c.grant.new.self ≡ first_changed (is_on c.args.key) (granted_on c.args.key c.args.permits) c.self.inside.subs.items =
    changes (is_on c.args.key) (granted_on c.args.key c.args.permits) c.self.inside.subs.items c.in-Some.place c.index_mut-sub.result.now c.grant.new.self at c.index_mut-sub.ensures.value c.in_ok-grant.ensures.ok.1 in
    rw new (limits_changed t (is_on c.args.key) (granted_on c.args.key c.args.permits) (λ _. refl) c.self.invariant.0, hints_granted t c.args.key c.args.permits c.self.inside.hints.items c.self.invariant.1, places_granted t.subs c.self.inside.directory c.args.key c.args.permits c.self.invariant.2, notes_granted t.subs c.self.inside.quiet c.forget.new.self c.args.key c.args.permits c.forget.ensures c.self.invariant.3)

pub returns-clause-ok : goal.returns-clause-ok
returns-clause-ok g c =
    let t : Subscriptions = record { subs = c.self.inside.subs.items; changes = c.self.inside.changes.items; slots = c.self.inside.marks.slots; messages = c.self.inside.marks.messages } in
    let at : position (is_on c.args.key) c.self.inside.subs.items ≡ Some c.in-Some.place = search rules in (
      ap (λ (x : Subscriptions). grants_too_many x c.args.key c.args.permits) (sym c.self.view_is)
          ∙ grants_at t c.args.key c.args.permits c.in-Some.place c.index_mut-sub.result.now false at c.index_mut-sub.ensures.value c.in_ok-grant.ensures.ok.0,
      changes_at t c.args.key (granted_on c.args.key c.args.permits) c.in-Some.place c.index_mut-sub.result.now c.grant.new.self at c.index_mut-sub.ensures.value c.in_ok-grant.ensures.ok.1
          ∙ ap (λ (x : Subscriptions). granted x c.args.key c.args.permits) c.self.view_is,
    )

pub returns-in_err-grant-clause-err : goal.returns-in_err-grant-clause-err
returns-in_err-grant-clause-err g c =
    let t : Subscriptions = record { subs = c.self.inside.subs.items; changes = c.self.inside.changes.items; slots = c.self.inside.marks.slots; messages = c.self.inside.marks.messages } in
    let at : position (is_on c.args.key) c.self.inside.subs.items ≡ Some c.in-Some.place = search rules in
    let same : set c.self.inside.subs.items c.in-Some.place c.grant.new.self ≡ c.self.inside.subs.items =
    ap (set c.self.inside.subs.items c.in-Some.place) c.in_err-grant.ensures.err.1 ∙ same_at (is_on c.args.key) c.self.inside.subs.items c.in-Some.place c.index_mut-sub.result.now c.index_mut-sub.ensures.value in
    on_err c.from_residual.result (
      ap (λ (x : Subscriptions). grants_too_many x c.args.key c.args.permits) (sym c.self.view_is)
          ∙ grants_at t c.args.key c.args.permits c.in-Some.place c.index_mut-sub.result.now true at c.index_mut-sub.ensures.value c.in_err-grant.ensures.err.0,
      ap (λ (xs : List Subscription). let n : Subscriptions = record t { subs = xs } in n) same ∙ c.self.view_is,
    )
