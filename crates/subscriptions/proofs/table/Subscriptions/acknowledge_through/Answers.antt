use Rattle.std.proofs.Common.{◌≡◌, ◌+◌, ◌≤◌, ◌++◌, [], ◌∷◌, List, length, Some, None, ap, sym, ◌∙◌, set, subst, rules}
use Rattle.std.specs.List.{position}
use Rattle.records.specs.declared.record.Record.{Record}
use Rattle.records.specs.declared.record.Record.TheVariants.{AcknowledgedThrough}
use Rattle.subscriptions.specs.State.{Subscriptions}
use Rattle.subscriptions.specs.Steps.{is_on, acknowledged_through}
use Rattle.subscriptions.specs.Soundness.{HasLimits}
use Rattle.subscriptions.proofs.Limits.{limits_through}
use Rattle.subscriptions.proofs.Found.{through_none, through_at}
use Rattle.subscriptions.specs.Hints.{AreHints}
use Rattle.subscriptions.specs.Directory.{ArePlaces}
use Rattle.subscriptions.specs.Quiet.{AreQuiet}
use Rattle.subscriptions.proofs.Passed.{hints_through}
use Rattle.subscriptions.proofs.Standing.{places_acked_through}
use Rattle.subscriptions.proofs.Noted.{notes_through}
use Rattle.subscriptions.proofs.table.Subscriptions.acknowledge_through.Goals as goal

pub returns-in_default-clause-ok : goal.returns-in_default-clause-ok
returns-in_default-clause-ok g c =
    let t : Subscriptions = record { subs = c.self.inside.subs.items; changes = c.self.inside.changes.items; slots = c.self.inside.marks.slots; messages = c.self.inside.marks.messages } in
    let at : position (is_on c.args.key) c.self.inside.subs.items ≡ None = search rules in
    subst (λ (x : Subscriptions). x ≡ acknowledged_through x c.args.key c.args.position) c.self.view_is (through_none t c.args.key c.args.position at)

pub invariant_of-self-2 : goal.invariant_of-self-2
invariant_of-self-2 g c =
    let t : Subscriptions = record { subs = c.self.inside.subs.items; changes = c.self.inside.changes.items; slots = c.self.inside.marks.slots; messages = c.self.inside.marks.messages } in
    let at : position (is_on c.args.key) c.self.inside.subs.items ≡ Some c.in-Some.place = search rules in
    let grown : c.push.new.self.items ≡ c.self.inside.changes.items ++ AcknowledgedThrough c.index_mut-sub.result.now.name c.args.position ∷ [] = search rules in
    let room : length t.changes + 1 ≤ 65536 = subst (λ (x : Subscriptions). length x.changes + 1 ≤ 65536) (sym c.self.view_is) c.requires.room in
    subst (λ (x : Subscriptions). HasLimits x × AreHints x c.self.inside.hints.items × ArePlaces x.subs c.self.inside.directory × AreQuiet x.subs c.self.inside.quiet)
    (sym (through_at t c.args.key c.args.position c.in-Some.place c.index_mut-sub.result.now c.acknowledge_through.new.self at c.index_mut-sub.ensures.value c.acknowledge_through.ensures)
    ∙ ap (λ (cs : List Record). let n : Subscriptions = record { subs = set c.self.inside.subs.items c.in-Some.place c.acknowledge_through.new.self; changes = cs; slots = c.self.inside.marks.slots; messages = c.self.inside.marks.messages } in n) (sym grown))
    (limits_through t c.args.key c.args.position room c.self.invariant.0, hints_through t c.args.key c.args.position c.self.inside.hints.items c.self.invariant.1, places_acked_through t.subs c.self.inside.directory c.args.key c.args.position c.self.invariant.2, notes_through t.subs c.self.inside.quiet c.args.key c.args.position c.self.invariant.3)

pub returns-clause-ok : goal.returns-clause-ok
returns-clause-ok g c =
    let t : Subscriptions = record { subs = c.self.inside.subs.items; changes = c.self.inside.changes.items; slots = c.self.inside.marks.slots; messages = c.self.inside.marks.messages } in
    let at : position (is_on c.args.key) c.self.inside.subs.items ≡ Some c.in-Some.place = search rules in
    let grown : c.push.new.self.items ≡ c.self.inside.changes.items ++ AcknowledgedThrough c.index_mut-sub.result.now.name c.args.position ∷ [] = search rules in
    ap (λ (cs : List Record). let n : Subscriptions = record { subs = set c.self.inside.subs.items c.in-Some.place c.acknowledge_through.new.self; changes = cs; slots = c.self.inside.marks.slots; messages = c.self.inside.marks.messages } in n) grown
    ∙ through_at t c.args.key c.args.position c.in-Some.place c.index_mut-sub.result.now c.acknowledge_through.new.self at c.index_mut-sub.ensures.value c.acknowledge_through.ensures
    ∙ ap (λ (x : Subscriptions). acknowledged_through x c.args.key c.args.position) c.self.view_is
