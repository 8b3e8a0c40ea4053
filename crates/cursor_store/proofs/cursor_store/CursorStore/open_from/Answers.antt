use Rattle.std.proofs.Common.{◌∙◌, refl, sym}
use Rattle.std.proofs.lemmas.Result.{err_from_is_err_and}
use Rattle.two_slot.specs.Heads.{heads_topic}
use Rattle.cursor_store.specs.Laws.{settled_in}
use Rattle.cursor_store.specs.FrontLaws.{have_heads}
use Rattle.cursor_store.proofs.Passing.{start_said}
use Rattle.cursor_store.proofs.Taking.{opened_means, refused_so}
use Rattle.cursor_store.proofs.cursor_store.CursorStore.open_from.Goals as goal

pub returns-clause-opened : goal.returns-clause-opened
returns-clause-opened g c = λ honest has synced.
    let fold = c.open_from.new.fold in
    let opened = c.in_ok-slots.ensures.opened honest (have_heads c.args.heads.now (g.S.Shelf.disk c.args.shelf.now) has synced) c.new.ensures in
    let topics = c.in_ok-slots.ensures.topic ∙ sym c.topic.ensures in
    let taken = opened_means c.in_ok-slots.slots.topic c.topic.result c.args.entries (fold.folder, fold.entries) fold.begun fold.told _ topics c.open_from.ensures.rule opened.2 in
    settled_in _ c.args.entries fold.told.start (g.S.Shelf.disk c.open_from.new.shelf) fold.told.kept opened.0 (record { slots = opened.1; fits = taken.0; means = taken.1; same = refl })

pub returns-clause-start : goal.returns-clause-start
returns-clause-start g c = λ honest has synced.
    start_said _ c.args.heads.now c.args.entries (g.S.Shelf.disk c.args.shelf.now) (g.S.Shelf.disk c.open_from.new.shelf) c.requires has c.in_ok-slots.ensures.topic (c.open_from.ensures.seen honest) (returns-clause-opened g c honest has synced)

pub returns-in_err-slots-clause-refused : goal.returns-in_err-slots-clause-refused
returns-in_err-slots-clause-refused g c = λ honest has synced.
    let disk = g.S.Shelf.disk c.args.shelf.now in
    let refused = c.in_err-slots.ensures.refused honest (have_heads c.args.heads.now disk has synced) c.new.ensures in
    let p = err_from_is_err_and c.from_residual.result c.from_residual.ensures.1 in
    rw (p.1) (refused_so c.topic.result (heads_topic c.args.heads.now.slots) c.args.entries disk.seen c.in_err-slots.field-0.0 _ c.topic.ensures p.2 refused)
