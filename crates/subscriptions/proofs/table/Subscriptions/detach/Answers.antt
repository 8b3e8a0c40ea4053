use Rattle.std.proofs.Common.{◌≡◌, Some, None, refl, ap, subst, ◌∙◌, set, rules}
use Rattle.std.specs.List.{position}
use Rattle.subscriptions.specs.State.{Subscriptions}
use Rattle.subscriptions.specs.Steps.{is_on, first_changed, detached, detached_on}
use Rattle.subscriptions.proofs.Places.{changes}
use Rattle.subscriptions.proofs.Limits.{limits_changed}
use Rattle.subscriptions.proofs.Found.{changes_at, stays_at}
use Rattle.subscriptions.proofs.Passed.{hints_cleared}
use Rattle.subscriptions.proofs.Standing.{places_detached}
use Rattle.subscriptions.proofs.Noted.{notes_none}
use Rattle.subscriptions.proofs.table.Subscriptions.detach.Goals as goal

pub returns-in_default : goal.returns-in_default
returns-in_default g c =
    let t : Subscriptions = record { subs = c.self.inside.subs.items; changes = c.self.inside.changes.items; slots = c.self.inside.marks.slots; messages = c.self.inside.marks.messages } in
    let at : position (is_on c.args.key) c.self.inside.subs.items ≡ None = search rules in
    subst (λ (x : Subscriptions). x ≡ detached x c.args.key) c.self.view_is (stays_at t c.args.key (detached_on c.args.key) at)

pub invariant_of-self : goal.invariant_of-self
invariant_of-self g c =
    let t : Subscriptions = record { subs = c.self.inside.subs.items; changes = c.self.inside.changes.items; slots = c.self.inside.marks.slots; messages = c.self.inside.marks.messages } in
    let at : position (is_on c.args.key) c.self.inside.subs.items ≡ Some c.in-Some.place = search rules in
    let new : set c.self.inside.subs.items c.in-Some.place c.detach.new.self ≡ first_changed (is_on c.args.key) (detached_on c.args.key) c.self.inside.subs.items =
    changes (is_on c.args.key) (detached_on c.args.key) c.self.inside.subs.items c.in-Some.place c.index_mut-sub.result.now c.detach.new.self at c.index_mut-sub.ensures.value c.detach.ensures in
    let found : c.place_of-next.result ≡ position (is_on c.args.key) (set c.self.inside.subs.items c.in-Some.place c.detach.new.self) = search rules in (
      rw new (limits_changed t (is_on c.args.key) (detached_on c.args.key) (λ _. refl) c.self.invariant.0),
      hints_cleared t c.self.inside.hints.items c.in-Some.place c.detach.new.self c.clear.new.self c.self.invariant.1 c.clear.ensures,
      rw new (places_detached t.subs c.self.inside.directory c.set.new.self c.args.key c.in-Some.place c.place_of-next.result at (found ∙ ap (position (is_on c.args.key)) new) c.set.ensures c.self.invariant.2),
      notes_none (set c.self.inside.subs.items c.in-Some.place c.detach.new.self) c.clear-2.new.self c.clear-2.ensures,
    )

pub returns : goal.returns
returns g c =
    let t : Subscriptions = record { subs = c.self.inside.subs.items; changes = c.self.inside.changes.items; slots = c.self.inside.marks.slots; messages = c.self.inside.marks.messages } in
    let at : position (is_on c.args.key) c.self.inside.subs.items ≡ Some c.in-Some.place = search rules in
    changes_at t c.args.key (detached_on c.args.key) c.in-Some.place c.index_mut-sub.result.now c.detach.new.self at c.index_mut-sub.ensures.value c.detach.ensures
    ∙ ap (λ (x : Subscriptions). detached x c.args.key) c.self.view_is
