use Rattle.std.proofs.Common.{◌≡◌, Some, None, ap, ◌∙◌, refl, sym, set, rules}
use Rattle.std.specs.List.{position}
use Rattle.subscriptions.specs.State.{Subscriptions}
use Rattle.subscriptions.specs.Steps.{first_changed, first_standing, is_named, subscribe_refusals, attached_to, attached, start_of}
use Rattle.subscriptions.proofs.Places.{changes, is_place, same_at}
use Rattle.subscriptions.proofs.Limits.{limits_changed}
use Rattle.subscriptions.proofs.Found.{allowed_some, attaches_some}
use Rattle.subscriptions.proofs.Passed.{hints_joined}
use Rattle.subscriptions.proofs.Standing.{places_joined, places_back}
use Rattle.subscriptions.proofs.Noted.{notes_joined}
use Rattle.subscriptions.proofs.table.Subscriptions.attach.Goals as goal

pub attach-requires-clause-allowed : goal.attach-requires-clause-allowed
attach-requires-clause-allowed g c =
    let t : Subscriptions = record { subs = c.self.inside.subs.items; changes = c.self.inside.changes.items; slots = c.self.inside.marks.slots; messages = c.self.inside.marks.messages } in
    let at : position (is_named c.args.name.now) c.self.inside.subs.items ≡ Some c.in-Some.place = search rules in
    allowed_some t c.args.name.now c.args.mode c.args.seat.ranges c.in-Some.place c.index_mut-sub.result.now at c.index_mut-sub.ensures.value
    (ap (λ (x : Subscriptions). first_standing (subscribe_refusals x c.args.name.now c.args.mode c.args.seat.ranges)) c.self.view_is ∙ c.requires.allowed)

pub invariant_of-self-in-Ok : goal.invariant_of-self-in-Ok
invariant_of-self-in-Ok g c =
    let t : Subscriptions = record { subs = c.self.inside.subs.items; changes = c.self.inside.changes.items; slots = c.self.inside.marks.slots; messages = c.self.inside.marks.messages } in
    let at : position (is_named c.args.name.now) c.self.inside.subs.items ≡ Some c.in-Some.place = search rules in
    let low = (is_place (is_named c.args.name.now) c.self.inside.subs.items c.in-Some.place c.index_mut-sub.result.now at).within in
    let new : set c.self.inside.subs.items c.in-Some.place c.attach.new.self ≡ first_changed (is_named c.args.name.now) (attached_to c.args.mode c.args.seat (g.G.Gauge.word c.args.gauge)) c.self.inside.subs.items =
    changes (is_named c.args.name.now) (attached_to c.args.mode c.args.seat (g.G.Gauge.word c.args.gauge)) c.self.inside.subs.items c.in-Some.place c.index_mut-sub.result.now c.attach.new.self at c.index_mut-sub.ensures.value c.in-Ok.ensures.ok in (
      rw new (limits_changed t (is_named c.args.name.now) (attached_to c.args.mode c.args.seat (g.G.Gauge.word c.args.gauge)) (λ _. refl) c.self.invariant.0),
      hints_joined t c.self.inside.hints.items c.args.mode c.args.seat (g.G.Gauge.word c.args.gauge) c.in-Some.place c.index_mut-sub.result.now c.attach.new.self c.index_mut-hints.result.now c.forget.new.self c.self.invariant.1 low
          c.index_mut-sub.ensures.value c.index_mut-hints.ensures.value c.in-Ok.ensures.ok c.forget.ensures,
      rw new (places_joined t.subs c.self.inside.directory c.add.new.self c.args.name.now c.args.mode c.args.seat (g.G.Gauge.word c.args.gauge) c.in-Some.place at c.in_default-add.ensures.ok c.self.invariant.2),
      rw new (notes_joined t.subs c.self.inside.quiet c.args.name.now c.args.mode c.args.seat (g.G.Gauge.word c.args.gauge) c.self.invariant.3),
    )

pub returns-in-Ok-clause-ok : goal.returns-in-Ok-clause-ok
returns-in-Ok-clause-ok g c =
    let t : Subscriptions = record { subs = c.self.inside.subs.items; changes = c.self.inside.changes.items; slots = c.self.inside.marks.slots; messages = c.self.inside.marks.messages } in
    let at : position (is_named c.args.name.now) c.self.inside.subs.items ≡ Some c.in-Some.place = search rules in
    let start = start_of c.args.initial c.args.first c.args.committed in
    attaches_some t c.args.name.now c.args.mode c.args.seat (g.G.Gauge.word c.args.gauge) start c.in-Some.place c.index_mut-sub.result.now c.attach.new.self at c.index_mut-sub.ensures.value c.in-Ok.ensures.ok
    ∙ ap (λ (x : Subscriptions). attached x c.args.name.now c.args.mode c.args.seat (g.G.Gauge.word c.args.gauge) start) c.self.view_is

pub invariant_of-self-in-Err-attach : goal.invariant_of-self-in-Err-attach
invariant_of-self-in-Err-attach g c =
    let same : set c.self.inside.subs.items c.in-Some.place c.attach.new.self ≡ c.self.inside.subs.items =
    ap (set c.self.inside.subs.items c.in-Some.place) c.in-Err-attach.ensures.err ∙ same_at (is_named c.args.name.now) c.self.inside.subs.items c.in-Some.place c.index_mut-sub.result.now c.index_mut-sub.ensures.value in
    rw same (
      c.self.invariant.0,
      c.self.invariant.1,
      places_back c.self.inside.subs.items c.self.inside.directory c.add.new.self c.set.new.self c.args.seat.key _ c.of-former.result c.of-former.ensures.value c.in_default-add.ensures.ok c.set.ensures c.self.invariant.2,
      c.self.invariant.3,
    )

pub make-requires-clause-absent : goal.make-requires-clause-absent
make-requires-clause-absent g c =
    let at : position (is_named c.args.name.now) c.self.inside.subs.items ≡ None = search rules in
    ap (λ (x : Subscriptions). position (is_named c.args.name.now) x.subs) (sym c.self.view_is) ∙ at
