use Rattle.std.proofs.Common.{◌≡◌, ◌++◌, [], ◌∷◌, List, Some, None, ap, sym, ◌∙◌, subst, rules}
use Rattle.std.specs.List.{position, remove}
use Rattle.records.specs.declared.record.Record.{Record}
use Rattle.records.specs.declared.record.Record.TheVariants.{Removed}
use Rattle.subscriptions.specs.State.{Subscription, Subscriptions}
use Rattle.subscriptions.specs.Steps.{is_on, first_standing, unsubscribe_refusals, unsubscribed}
use Rattle.subscriptions.specs.Soundness.{HasLimits}
use Rattle.subscriptions.proofs.Limits.{limits_unsubscribed}
use Rattle.subscriptions.proofs.Found.{unsubscribes_none, unsubscribes_at}
use Rattle.subscriptions.proofs.Passed.{hints_gone}
use Rattle.subscriptions.proofs.Standing.{places_gone}
use Rattle.subscriptions.proofs.Noted.{notes_gone}
use Rattle.subscriptions.proofs.table.Subscriptions.unsubscribe.Goals as goal

pub returns-in_default-clause-ok : goal.returns-in_default-clause-ok
returns-in_default-clause-ok g c =
    let t : Subscriptions = record { subs = c.self.inside.subs.items; changes = c.self.inside.changes.items; slots = c.self.inside.marks.slots; messages = c.self.inside.marks.messages } in
    let at : position (is_on c.args.key) c.self.inside.subs.items ≡ None = search rules in
    subst (λ (x : Subscriptions). x ≡ unsubscribed x c.args.key) c.self.view_is (unsubscribes_none t c.args.key at)

pub invariant_of-self-2 : goal.invariant_of-self-2
invariant_of-self-2 g c =
    let t : Subscriptions = record { subs = c.self.inside.subs.items; changes = c.self.inside.changes.items; slots = c.self.inside.marks.slots; messages = c.self.inside.marks.messages } in
    let at : position (is_on c.args.key) c.self.inside.subs.items ≡ Some c.in-Some.place = search rules in
    let grown : c.push.new.self.items ≡ c.self.inside.changes.items ++ Removed c.index-sub.result.now.name ∷ [] = search rules in
    let allowed = ap (λ (x : Subscriptions). first_standing (unsubscribe_refusals x c.args.key)) c.self.view_is ∙ c.requires in
    let next : c.place_of-next.result ≡ position (is_on c.args.key) (remove c.self.inside.subs.items c.in-Some.place) = search rules in (
      subst HasLimits
          (sym (unsubscribes_at t c.args.key c.in-Some.place c.index-sub.result.now at c.index-sub.ensures)
          ∙ ap (λ (cs : List Record). let n : Subscriptions = record { subs = remove c.self.inside.subs.items c.in-Some.place; changes = cs; slots = c.self.inside.marks.slots; messages = c.self.inside.marks.messages } in n) (sym grown)
          ∙ ap (λ (xs : List Subscription). let n : Subscriptions = record { subs = xs; changes = c.push.new.self.items; slots = c.self.inside.marks.slots; messages = c.self.inside.marks.messages } in n) (sym c.remove.ensures.items))
          (limits_unsubscribed t c.args.key allowed c.self.invariant.0),
      rw (c.remove.ensures.items, c.remove-2.ensures.items) (hints_gone t c.self.inside.hints.items c.in-Some.place c.push.new.self.items c.self.invariant.1),
      rw c.remove.ensures.items (places_gone t c.self.inside.directory c.move_up.new.self c.set.new.self c.args.key c.in-Some.place c.index-sub.result.now c.place_of-next.result at c.index-sub.ensures allowed next c.move_up.ensures c.set.ensures c.self.invariant.2),
      rw c.remove.ensures.items (notes_gone t.subs c.self.inside.quiet c.in-Some.place c.self.invariant.3),
    )

pub returns-clause-ok : goal.returns-clause-ok
returns-clause-ok g c =
    let t : Subscriptions = record { subs = c.self.inside.subs.items; changes = c.self.inside.changes.items; slots = c.self.inside.marks.slots; messages = c.self.inside.marks.messages } in
    let at : position (is_on c.args.key) c.self.inside.subs.items ≡ Some c.in-Some.place = search rules in
    let grown : c.push.new.self.items ≡ c.self.inside.changes.items ++ Removed c.index-sub.result.now.name ∷ [] = search rules in
    ap (λ (xs : List Subscription). let n : Subscriptions = record { subs = xs; changes = c.push.new.self.items; slots = c.self.inside.marks.slots; messages = c.self.inside.marks.messages } in n) c.remove.ensures.items
    ∙ ap (λ (cs : List Record). let n : Subscriptions = record { subs = remove c.self.inside.subs.items c.in-Some.place; changes = cs; slots = c.self.inside.marks.slots; messages = c.self.inside.marks.messages } in n) grown
    ∙ unsubscribes_at t c.args.key c.in-Some.place c.index-sub.result.now at c.index-sub.ensures
    ∙ ap (λ (x : Subscriptions). unsubscribed x c.args.key) c.self.view_is
