use Rattle.std.proofs.Common.{ap}
use Rattle.cursor_store.specs.declared.told.Told.{Told}
use Rattle.cursor_store.specs.Laws.{holds_fits}
use Rattle.cursor_store.proofs.Copying.{snapshot_so, copied, headed}
use Rattle.cursor_store.proofs.Replacing.{anew_of}
use Rattle.cursor_store.proofs.cursor_store.CursorStore.copy_to.Goals as goal

pub returns-clause-copied : goal.returns-clause-copied
returns-clause-copied g c = λ entries start kept s image may.
    let store = c.args.self.now in
    let d0 = g.S.Shelf.disk c.args.shelf.now in
    let d1 = g.S.Shelf.disk c.create_with.new.shelf in
    let held = s.settled.now in
    let fits = holds_fits store entries start d0.seen kept held in
    let log = c.in_ok-snapshot.snapshot in
    let snapshot = snapshot_so store.told log entries start kept held.same fits c.in_ok-snapshot.ensures.made in
    let next = anew_of c.args.topic entries start kept log c.requires.two fits snapshot in
    let made = c.in_ok-create_with.ensures.created snapshot.bodies snapshot.is s.settled.honest in
    copied c.in_ok-create_with.field-0 c.args.topic entries start store.told.start d1 image kept snapshot.bodies c.in_ok-create_with.ensures.topic next (ap (λ (t : Told). t.start) held.same) made may

pub returns-clause-fresh : goal.returns-clause-fresh
returns-clause-fresh g c = λ entries start kept s image may.
    let store = c.args.self.now in
    let d0 = g.S.Shelf.disk c.args.shelf.now in
    let d1 = g.S.Shelf.disk c.create_with.new.shelf in
    let held = s.settled.now in
    let fits = holds_fits store entries start d0.seen kept held in
    let log = c.in_ok-snapshot.snapshot in
    let snapshot = snapshot_so store.told log entries start kept held.same fits c.in_ok-snapshot.ensures.made in
    let made = c.in_ok-create_with.ensures.created snapshot.bodies snapshot.is s.settled.honest in
    headed c.in_ok-create_with.field-0 c.args.topic store.told.start d1 image snapshot.bodies c.in_ok-create_with.ensures.topic c.in_ok-create_with.ensures.fresh made may
