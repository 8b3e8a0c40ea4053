use Rattle.std.proofs.Common.{◌≡◌, ◌+◌, ◌≤◌, ◌++◌, List, length, Some, None, ap, sym, ◌∙◌, set, subst, rules}
use Rattle.std.proofs.Common.{map as each}
use Rattle.std.specs.List.{position}
use Rattle.records.specs.declared.record.Record.{Record}
use Rattle.records.specs.declared.record.Record.TheVariants.{Acknowledged}
use Rattle.subscriptions.specs.State.{Subscriptions}
use Rattle.subscriptions.specs.Steps.{is_on, acked_on, acknowledged}
use Rattle.subscriptions.specs.Soundness.{HasLimits}
use Rattle.subscriptions.proofs.Limits.{limits_acknowledged}
use Rattle.subscriptions.proofs.Found.{acknowledges_none, acknowledges_at}
use Rattle.subscriptions.specs.Hints.{AreHints}
use Rattle.subscriptions.specs.Directory.{ArePlaces}
use Rattle.subscriptions.specs.Quiet.{AreQuiet}
use Rattle.subscriptions.proofs.Passed.{hints_acknowledged}
use Rattle.subscriptions.proofs.Standing.{places_acked}
use Rattle.subscriptions.proofs.Noted.{notes_acknowledged}
use Rattle.subscriptions.proofs.table.Subscriptions.acknowledge.Goals as goal

pub returns-in_default-clause-ok : goal.returns-in_default-clause-ok
returns-in_default-clause-ok g c =
    let t : Subscriptions = record { subs = c.self.inside.subs.items; changes = c.self.inside.changes.items; slots = c.self.inside.marks.slots; messages = c.self.inside.marks.messages } in
    let at : position (is_on c.args.key) c.self.inside.subs.items ≡ None = search rules in
    subst (λ (x : Subscriptions). x ≡ acknowledged x c.args.key c.args.positions.now) c.self.view_is (acknowledges_none t c.args.key c.args.positions.now at)

pub invariant_of-self-in_default-acknowledge : goal.invariant_of-self-in_default-acknowledge
invariant_of-self-in_default-acknowledge g c =
    let t : Subscriptions = record { subs = c.self.inside.subs.items; changes = c.self.inside.changes.items; slots = c.self.inside.marks.slots; messages = c.self.inside.marks.messages } in
    let at : position (is_on c.args.key) c.self.inside.subs.items ≡ Some c.in-Some.place = search rules in
    let grown : c.add_acknowledgements.new.changes.items ≡ c.self.inside.changes.items ++ each (λ p. Acknowledged c.index_mut-sub.result.now.name p) c.args.positions.now = search rules in
    let done : c.acknowledge.new.self ≡ acked_on c.args.positions.now c.index_mut-sub.result.now = search rules in
    let room : length t.changes + length c.args.positions.now ≤ 65536 = subst (λ (x : Subscriptions). length x.changes + length c.args.positions.now ≤ 65536) (sym c.self.view_is) c.requires.room in
    subst (λ (x : Subscriptions). HasLimits x × AreHints x c.self.inside.hints.items × ArePlaces x.subs c.self.inside.directory × AreQuiet x.subs c.self.inside.quiet)
    (sym (acknowledges_at t c.args.key c.args.positions.now c.in-Some.place c.index_mut-sub.result.now c.acknowledge.new.self at c.index_mut-sub.ensures.value done)
    ∙ ap (λ (cs : List Record). let n : Subscriptions = record { subs = set c.self.inside.subs.items c.in-Some.place c.acknowledge.new.self; changes = cs; slots = c.self.inside.marks.slots; messages = c.self.inside.marks.messages } in n) (sym grown))
    (limits_acknowledged t c.args.key c.args.positions.now room c.self.invariant.0, hints_acknowledged t c.args.key c.args.positions.now c.self.inside.hints.items c.self.invariant.1, places_acked t.subs c.self.inside.directory c.args.key c.args.positions.now c.self.invariant.2, notes_acknowledged t.subs c.self.inside.quiet c.args.key c.args.positions.now c.self.invariant.3)

pub returns-clause-ok : goal.returns-clause-ok
returns-clause-ok g c =
    let t : Subscriptions = record { subs = c.self.inside.subs.items; changes = c.self.inside.changes.items; slots = c.self.inside.marks.slots; messages = c.self.inside.marks.messages } in
    let at : position (is_on c.args.key) c.self.inside.subs.items ≡ Some c.in-Some.place = search rules in
    let grown : c.add_acknowledgements.new.changes.items ≡ c.self.inside.changes.items ++ each (λ p. Acknowledged c.index_mut-sub.result.now.name p) c.args.positions.now = search rules in
    let done : c.acknowledge.new.self ≡ acked_on c.args.positions.now c.index_mut-sub.result.now = search rules in
    ap (λ (cs : List Record). let n : Subscriptions = record { subs = set c.self.inside.subs.items c.in-Some.place c.acknowledge.new.self; changes = cs; slots = c.self.inside.marks.slots; messages = c.self.inside.marks.messages } in n) grown
    ∙ acknowledges_at t c.args.key c.args.positions.now c.in-Some.place c.index_mut-sub.result.now c.acknowledge.new.self at c.index_mut-sub.ensures.value done
    ∙ ap (λ (x : Subscriptions). acknowledged x c.args.key c.args.positions.now) c.self.view_is
