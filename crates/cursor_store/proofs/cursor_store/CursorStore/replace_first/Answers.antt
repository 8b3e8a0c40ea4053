use Rattle.std.proofs.Common.{◌∙◌, Option, refl, sym, ap, subst}
use Rattle.disk.specs.Contents.{at_ok, at_err}
use Rattle.cursor_store.specs.Laws.{in_bodies, holds_fits}
use Rattle.gated_log.specs.declared.prepared_log.PreparedLog.{PreparedLog}
use Rattle.two_slot.specs.TwoSlots.{generation_of}
use Rattle.cursor_store.specs.declared.told.Told.{Told}
use Rattle.cursor_store.specs.Items.{told_of}
use Rattle.cursor_store.specs.Cursors.{is_due, topic_of}
use Rattle.cursor_store.specs.Snapshots.{IsSnapshotIf}
use Rattle.cursor_store.proofs.Replacing.{snapshot_of, can_means, anew_of, anew_within, anew_doubt, anew_settled, stays_so, none_due, one_can, next_one, none_based, one_based}
use Rattle.cursor_store.proofs.cursor_store.CursorStore.replace_first.Goals as goal

pub returns-in_default-clause-replaces : goal.returns-in_default-clause-replaces
returns-in_default-clause-replaces g c = λ entries start kept is s. at_ok s (stays_so c.args.self.now entries start (g.S.Shelf.disk c.args.shelf.now) kept s)

pub returns-in_default-clause-replaced : goal.returns-in_default-clause-replaced
returns-in_default-clause-replaced g c = λ is. none_due (is_due c.args.self.now) c.args.self.now (subst (λ (o : Option PreparedLog). IsSnapshotIf (is_due c.args.self.now) c.args.self.now.told o) c.in_default.is is)

pub returns-in_default-clause-base : goal.returns-in_default-clause-base
returns-in_default-clause-base g c = λ entries start kept is s.
    none_based (is_due c.args.self.now) c.args.self.now entries (told_of start kept) _ (subst (λ (o : Option PreparedLog). IsSnapshotIf (is_due c.args.self.now) c.args.self.now.told o) c.in_default.is is)

pub returns-then-not-can_replace-clause-replaces : goal.returns-then-not-can_replace-clause-replaces
returns-then-not-can_replace-clause-replaces g c = λ entries start kept is s. at_ok s (stays_so c.args.self.now entries start (g.S.Shelf.disk c.args.shelf.now) kept s)

pub returns-then-not-can_replace-clause-replaced : goal.returns-then-not-can_replace-clause-replaced
returns-then-not-can_replace-clause-replaced g c = λ is. absurd (one_can c.args.self.now c.in-Some.snapshot c.can_replace.result (subst (λ (o : Option PreparedLog). IsSnapshotIf (is_due c.args.self.now) c.args.self.now.told o) c.in-Some.is is) c.can_replace.ensures c.if-not-can_replace.true)

pub returns-then-not-can_replace-clause-base : goal.returns-then-not-can_replace-clause-base
returns-then-not-can_replace-clause-base g c = λ entries start kept is s. absurd (one_can c.args.self.now c.in-Some.snapshot c.can_replace.result (subst (λ (o : Option PreparedLog). IsSnapshotIf (is_due c.args.self.now) c.args.self.now.told o) c.in-Some.is is) c.can_replace.ensures c.if-not-can_replace.true)

pub returns-in_err-replace-clause-replaces : goal.returns-in_err-replace-clause-replaces
returns-in_err-replace-clause-replaces g c = λ entries start kept is s.
    let store = c.args.self.now in
    let d0 = g.S.Shelf.disk c.args.shelf.now in
    let d1 = g.S.Shelf.disk c.replace.new.shelf in
    let held = in_bodies store entries start d0 kept s in
    let same = ap (λ (t : Told). t.start) held.same in
    let prepared = subst (λ (o : Option PreparedLog). IsSnapshotIf (is_due store) store.told o) c.in-Some.is is in
    let snapshot = snapshot_of (is_due store) store c.in-Some.snapshot entries start d0 kept prepared s in
    let two = (can_means (topic_of store).folder (generation_of store.slots) (sym c.can_replace.ensures ∙ c.if-not-can_replace.false)).0 in
    let next = anew_of (topic_of store) entries start kept c.in-Some.snapshot two (holds_fits store entries start d0.seen kept s.settled.now) snapshot in
    let slots = c.in_err-replace.ensures.replaces s.settled.now.bodies snapshot.bodies snapshot.is held.slots in
    at_err c.from_residual.result _ c.from_residual.ensures.1 (anew_doubt store _ entries start store.told.start d0 d1 kept s.settled.now.bodies snapshot.bodies held next same (slots.in_doubt refl))
    (anew_within store entries start store.told.start d0 d1 kept s.settled.now.bodies snapshot.bodies held next same slots.within)

pub returns-clause-replaces : goal.returns-clause-replaces
returns-clause-replaces g c = λ entries start kept is s.
    let store = c.args.self.now in
    let d0 = g.S.Shelf.disk c.args.shelf.now in
    let d1 = g.S.Shelf.disk c.replace.new.shelf in
    let held = in_bodies store entries start d0 kept s in
    let same = ap (λ (t : Told). t.start) held.same in
    let prepared = subst (λ (o : Option PreparedLog). IsSnapshotIf (is_due store) store.told o) c.in-Some.is is in
    let snapshot = snapshot_of (is_due store) store c.in-Some.snapshot entries start d0 kept prepared s in
    let two = (can_means (topic_of store).folder (generation_of store.slots) (sym c.can_replace.ensures ∙ c.if-not-can_replace.false)).0 in
    let next = anew_of (topic_of store) entries start kept c.in-Some.snapshot two (holds_fits store entries start d0.seen kept s.settled.now) snapshot in
    let slots = c.in_ok-replace.ensures.replaces s.settled.now.bodies snapshot.bodies snapshot.is held.slots in
    at_ok (anew_settled _ (topic_of store) entries start store.told.start d1 kept snapshot.bodies c.replace.ensures.topic held.same next same slots.added)
    (anew_within store entries start store.told.start d0 d1 kept s.settled.now.bodies snapshot.bodies held next same slots.within)

pub returns-clause-replaced : goal.returns-clause-replaced
returns-clause-replaced g c = λ is. next_one (is_due c.args.self.now) c.args.self.now _ c.in-Some.snapshot (subst (λ (o : Option PreparedLog). IsSnapshotIf (is_due c.args.self.now) c.args.self.now.told o) c.in-Some.is is) c.in_ok-replace.ensures.rises refl

pub returns-clause-base : goal.returns-clause-base
returns-clause-base g c = λ entries start kept is s.
    let store = c.args.self.now in
    let d0 = g.S.Shelf.disk c.args.shelf.now in
    let d1 = g.S.Shelf.disk c.replace.new.shelf in
    let held = in_bodies store entries start d0 kept s in
    let same = ap (λ (t : Told). t.start) held.same in
    let prepared = subst (λ (o : Option PreparedLog). IsSnapshotIf (is_due store) store.told o) c.in-Some.is is in
    let snapshot = snapshot_of (is_due store) store c.in-Some.snapshot entries start d0 kept prepared s in
    let two = (can_means (topic_of store).folder (generation_of store.slots) (sym c.can_replace.ensures ∙ c.if-not-can_replace.false)).0 in
    let next = anew_of (topic_of store) entries start kept c.in-Some.snapshot two (holds_fits store entries start d0.seen kept s.settled.now) snapshot in
    let slots = c.in_ok-replace.ensures.replaces s.settled.now.bodies snapshot.bodies snapshot.is held.slots in
    one_based (is_due store) (topic_of store) store.told _ c.in-Some.snapshot entries d1 start kept _ snapshot.bodies prepared next slots.added.1
