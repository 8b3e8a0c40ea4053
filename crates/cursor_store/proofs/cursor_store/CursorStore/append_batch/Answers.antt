use Rattle.std.proofs.Common.{refl}
use Rattle.disk.specs.Contents.{at_ok, at_err}
use Rattle.records.specs.Records.{after_all}
use Rattle.records.specs.Bytes.{body_of}
use Rattle.cursor_store.specs.Cursors.{topic_of}
use Rattle.cursor_store.specs.Laws.{in_bodies}
use Rattle.cursor_store.proofs.Appending.{added, in_doubt, within, one_more, swapped}
use Rattle.cursor_store.proofs.Changes.{records_body}
use Rattle.cursor_store.proofs.cursor_store.CursorStore.append_batch.Goals as goal

pub returns-in_err-append_prepared-clause-appends : goal.returns-in_err-append_prepared-clause-appends
returns-in_err-append_prepared-clause-appends g c = λ entries start before records batch kept formed from s.
    let d0 = g.S.Shelf.disk c.args.shelf.now in
    let d1 = g.S.Shelf.disk c.append_prepared.new.shelf in
    let bodies = s.settled.now.bodies in
    let says = records_body (topic_of c.args.self.now).folder entries start before records formed from in
    let is = in_bodies c.args.self.now entries start d0 before s in
    let slots = c.in_err-append_prepared.ensures.appends bodies (body_of records) batch is.slots in
    at_err c.from_residual.result _ c.from_residual.ensures.1
    (in_doubt c.args.self.now c.append_prepared.new.self entries d0 d1 start before (after_all records before) (body_of records) bodies says is (slots.in_doubt refl))
    (within c.args.self.now entries d0 d1 start before (after_all records before) (body_of records) bodies says is slots.within)

pub returns-clause-appends : goal.returns-clause-appends
returns-clause-appends g c = λ entries start before records batch kept formed from s.
    let d0 = g.S.Shelf.disk c.args.shelf.now in
    let d1 = g.S.Shelf.disk c.append_prepared.new.shelf in
    let bodies = s.settled.now.bodies in
    let says = records_body (topic_of c.args.self.now).folder entries start before records formed from in
    let is = in_bodies c.args.self.now entries start d0 before s in
    let slots = c.in_ok-append_prepared.ensures.appends bodies (body_of records) batch is.slots in
    at_ok
    (added c.args.self.now _ entries d0 d1 start before (after_all records before) (body_of records) bodies c.append_prepared.ensures.id (swapped c.args.self.now.told start before c.args.kept records is.same kept) says is slots.added)
    (within c.args.self.now entries d0 d1 start before (after_all records before) (body_of records) bodies says is slots.within)

pub returns-clause-grows : goal.returns-clause-grows
returns-clause-grows g c = λ entries start before records batch s.
    let d0 = g.S.Shelf.disk c.args.shelf.now in
    let d1 = g.S.Shelf.disk c.append_prepared.new.shelf in
    let bodies = s.settled.now.bodies in
    let is = in_bodies c.args.self.now entries start d0 before s in
    let slots = c.in_ok-append_prepared.ensures.appends bodies (body_of records) batch is.slots in
    one_more c.args.self.now.slots _ d0 d1 bodies (body_of records) is.slots slots.added
