use Rattle.std.proofs.Common.{refl}
use Rattle.disk.specs.Contents.{at_ok, at_err}
use Rattle.two_slot.specs.TwoSlots.{generation_of}
use Rattle.cursor_store.specs.Cursors.{topic_of}
use Rattle.cursor_store.specs.Laws.{in_bodies, holds_fits}
use Rattle.cursor_store.proofs.Replacing.{left_means, anew_of, anew_settled, anew_there, trim_within, trim_doubt}
use Rattle.cursor_store.proofs.Trimming.{trim_fits, moved}
use Rattle.cursor_store.proofs.cursor_store.CursorStore.replace_trimmed.Goals as goal

pub returns-in_err-replace-clause-trims : goal.returns-in_err-replace-clause-trims
returns-in_err-replace-clause-trims g c = λ entries from start kept is long s.
    let store = c.args.self.now in
    let d0 = g.S.Shelf.disk c.args.shelf.now in
    let d1 = g.S.Shelf.disk c.replace.new.shelf in
    let old = s.settled.now.bodies in
    let said = c.args.prepared.start in
    let held = in_bodies store entries from d0 kept s in
    let fits = trim_fits entries from start kept (holds_fits store entries from d0.seen kept s.settled.now) is.may long in
    let snapshot = is.snapshot entries fits in
    let next = anew_of (topic_of store) entries start kept c.args.prepared.snapshot (left_means (topic_of store).folder (generation_of store.slots) c.requires.generation).0 fits snapshot in
    let slots = c.in_err-replace.ensures.replaces old snapshot.bodies snapshot.is held.slots in
    at_err c.from_residual.result _ c.from_residual.ensures.1 (trim_doubt store _ entries from start said d0 d1 kept old snapshot.bodies held next is.start_is (slots.in_doubt refl))
    (trim_within store entries from start said d0 d1 kept old snapshot.bodies held next is.start_is slots.within)

pub returns-clause-trims : goal.returns-clause-trims
returns-clause-trims g c = λ entries from start kept is long s.
    let store = c.args.self.now in
    let d0 = g.S.Shelf.disk c.args.shelf.now in
    let d1 = g.S.Shelf.disk c.replace.new.shelf in
    let old = s.settled.now.bodies in
    let said = c.args.prepared.start in
    let held = in_bodies store entries from d0 kept s in
    let fits = trim_fits entries from start kept (holds_fits store entries from d0.seen kept s.settled.now) is.may long in
    let snapshot = is.snapshot entries fits in
    let next = anew_of (topic_of store) entries start kept c.args.prepared.snapshot (left_means (topic_of store).folder (generation_of store.slots) c.requires.generation).0 fits snapshot in
    let slots = c.in_ok-replace.ensures.replaces old snapshot.bodies snapshot.is held.slots in
    at_ok (anew_settled _ (topic_of store) entries start said d1 kept snapshot.bodies c.replace.ensures.topic (moved store.told from start said kept held.same is.start_is) next is.start_is slots.added)
    (trim_within store entries from start said d0 d1 kept old snapshot.bodies held next is.start_is slots.within)

pub returns-clause-snapshot : goal.returns-clause-snapshot
returns-clause-snapshot g c = λ entries from start kept is long s.
    let store = c.args.self.now in
    let d0 = g.S.Shelf.disk c.args.shelf.now in
    let d1 = g.S.Shelf.disk c.replace.new.shelf in
    let held = in_bodies store entries from d0 kept s in
    let fits = trim_fits entries from start kept (holds_fits store entries from d0.seen kept s.settled.now) is.may long in
    let snapshot = is.snapshot entries fits in
    let next = anew_of (topic_of store) entries start kept c.args.prepared.snapshot (left_means (topic_of store).folder (generation_of store.slots) c.requires.generation).0 fits snapshot in
    let slots = c.in_ok-replace.ensures.replaces s.settled.now.bodies snapshot.bodies snapshot.is held.slots in
    anew_there c.replace.new.self (topic_of store) entries d1 start kept snapshot.bodies next slots.added.1
