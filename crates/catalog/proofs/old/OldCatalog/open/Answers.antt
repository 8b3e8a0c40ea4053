use Rattle.std.proofs.Common.{[]}
use Rattle.std.proofs.lemmas.Result.{err_from_is_err_and}
use Rattle.disk.specs.declared.file_id.Folder.TheVariants.{One}
use Rattle.catalog.specs.Folded.{taken_names}
use Rattle.catalog.proofs.Opening.{told_same, taken_are, label_taken, old_opened}
use Rattle.catalog.proofs.old.OldCatalog.open.Goals as goal

pub returns-in_err-log-clause-refused : goal.returns-in_err-log-clause-refused
returns-in_err-log-clause-refused g c = λ honest.
    let p = err_from_is_err_and c.from_residual.result c.from_residual.ensures.1 in
    rw (p.1) (told_same One (g.S.Shelf.disk c.args.shelf.now).seen _ c.in_err-log.field-0.0 p.2 (c.in_err-log.ensures.refused [] honest c.new.ensures.empty))

pub invariant_of-result : goal.invariant_of-result
invariant_of-result g c =
    let was = c.in_ok-log.ensures.opened [] c.new.ensures.empty in
    let taken = taken_names c.open_with.new.fold.begun c.open_with.new.fold.names.keys _ was.2 in
    let label = label_taken c.id.result _ c.id.ensures taken.is.label in
    record { alone = label.alone; ledgers = label.ledgers; are = taken_are c.open_with.new.fold.names.keys _ taken }

pub returns-clause-opened : goal.returns-clause-opened
returns-clause-opened g c = λ honest.
    let was = c.in_ok-log.ensures.opened [] c.new.ensures.empty in
    let taken = taken_names c.open_with.new.fold.begun c.open_with.new.fold.names.keys _ was.2 in
    old_opened c.in_ok-log.log c.id.result c.open_with.new.fold.names.keys (g.S.Shelf.disk c.open_with.new.shelf) was.0 c.id.ensures c.in_ok-log.ensures.file taken (was.1 honest)
