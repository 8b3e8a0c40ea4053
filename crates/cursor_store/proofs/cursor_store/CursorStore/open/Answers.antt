use Rattle.std.proofs.Common.{refl}
use Rattle.cursor_store.specs.Laws.{settled_in}
use Rattle.cursor_store.proofs.Taking.{opened_means}
use Rattle.cursor_store.proofs.cursor_store.CursorStore.open.Goals as goal

pub returns-clause-opened : goal.returns-clause-opened
returns-clause-opened g c = λ honest.
    let fold = c.open_with.new.fold in
    let opened = c.in_ok-slots.ensures.opened honest c.new.ensures in
    let taken = opened_means c.in_ok-slots.slots.topic c.args.topic c.args.entries (fold.folder, fold.entries) fold.begun fold.told _ c.in_ok-slots.ensures.topic c.open_with.ensures.rule opened.2 in
    settled_in _ c.args.entries fold.told.start (g.S.Shelf.disk c.open_with.new.shelf) fold.told.kept opened.0 (record { slots = opened.1; fits = taken.0; means = taken.1; same = refl })
