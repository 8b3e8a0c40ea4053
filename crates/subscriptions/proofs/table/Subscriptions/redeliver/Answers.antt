use Rattle.std.proofs.Common.{◌≡◌, Some, None, refl, ap, subst, ◌∙◌, set, rules}
use Rattle.std.specs.List.{position}
use Rattle.std.specs.Option.{option_copied}
use Rattle.subscriptions.specs.State.{Subscriptions}
use Rattle.subscriptions.specs.Steps.{is_on, first_changed, redelivered, redelivered_on}
use Rattle.subscriptions.proofs.Places.{changes, is_place}
use Rattle.subscriptions.proofs.Limits.{limits_changed}
use Rattle.subscriptions.proofs.Found.{changes_at, stays_at}
use Rattle.subscriptions.proofs.GivenBack.{hints_lowered}
use Rattle.subscriptions.proofs.Standing.{places_redelivered}
use Rattle.subscriptions.proofs.Noted.{notes_none}
use Rattle.subscriptions.proofs.table.Subscriptions.redeliver.Goals as goal

pub returns-in_default : goal.returns-in_default
returns-in_default g c =
    let t : Subscriptions = record { subs = c.self.inside.subs.items; changes = c.self.inside.changes.items; slots = c.self.inside.marks.slots; messages = c.self.inside.marks.messages } in
    let at : position (is_on c.args.key) c.self.inside.subs.items ≡ None = search rules in
    subst (λ (x : Subscriptions). x ≡ redelivered x c.args.key (option_copied c.args.asked)) c.self.view_is (stays_at t c.args.key (redelivered_on c.args.key (option_copied c.args.asked)) at)

pub invariant_of-self : goal.invariant_of-self
invariant_of-self g c =
    let t : Subscriptions = record { subs = c.self.inside.subs.items; changes = c.self.inside.changes.items; slots = c.self.inside.marks.slots; messages = c.self.inside.marks.messages } in
    let at : position (is_on c.args.key) c.self.inside.subs.items ≡ Some c.in-Some.place = search rules in
    let new : set c.self.inside.subs.items c.in-Some.place c.redeliver.new.self ≡ first_changed (is_on c.args.key) (redelivered_on c.args.key (option_copied c.args.asked)) c.self.inside.subs.items =
    changes (is_on c.args.key) (redelivered_on c.args.key (option_copied c.args.asked)) c.self.inside.subs.items c.in-Some.place c.index_mut-sub.result.now c.redeliver.new.self at c.index_mut-sub.ensures.value c.redeliver.ensures in
    let low = (is_place (is_on c.args.key) c.self.inside.subs.items c.in-Some.place c.index_mut-sub.result.now at).within in (
      rw new (limits_changed t (is_on c.args.key) (redelivered_on c.args.key (option_copied c.args.asked)) (λ _. refl) c.self.invariant.0),
      hints_lowered t c.self.inside.hints.items c.args.key (option_copied c.args.asked) c.in-Some.place c.asked_from-from.result c.index_mut-sub.result.now c.redeliver.new.self c.index_mut-hints.result.now c.lower.new.self c.self.invariant.1 low
          c.index_mut-sub.ensures.value c.index_mut-hints.ensures.value c.asked_from-from.ensures c.redeliver.ensures c.lower.ensures,
      rw new (places_redelivered t.subs c.self.inside.directory c.args.key (option_copied c.args.asked) c.self.invariant.2),
      notes_none (set c.self.inside.subs.items c.in-Some.place c.redeliver.new.self) c.clear.new.self c.clear.ensures,
    )

pub returns : goal.returns
returns g c =
    let t : Subscriptions = record { subs = c.self.inside.subs.items; changes = c.self.inside.changes.items; slots = c.self.inside.marks.slots; messages = c.self.inside.marks.messages } in
    let at : position (is_on c.args.key) c.self.inside.subs.items ≡ Some c.in-Some.place = search rules in
    changes_at t c.args.key (redelivered_on c.args.key (option_copied c.args.asked)) c.in-Some.place c.index_mut-sub.result.now c.redeliver.new.self at c.index_mut-sub.ensures.value c.redeliver.ensures
    ∙ ap (λ (x : Subscriptions). redelivered x c.args.key (option_copied c.args.asked)) c.self.view_is
