use Rattle.std.proofs.Common.{[]}
use Rattle.std.proofs.lemmas.Result.{err_from_is_err_and}
use Rattle.disk.specs.declared.file_id.Folder.TheVariants.{Two}
use Rattle.catalog.specs.Folded.{taken_names}
use Rattle.catalog.proofs.Opening.{told_same, taken_are, opened}
use Rattle.catalog.proofs.catalog.Catalog.open.Goals as goal

pub returns-in_err-log-clause-refused : goal.returns-in_err-log-clause-refused
returns-in_err-log-clause-refused g c = λ honest.
    let p = err_from_is_err_and c.from_residual.result c.from_residual.ensures.1 in
    rw (p.1) (told_same Two (g.S.Shelf.disk c.args.shelf.now).seen _ c.in_err-log.field-0.0 p.2 (c.in_err-log.ensures.refused [] honest c.new.ensures.empty))

pub invariant_of-result : goal.invariant_of-result
invariant_of-result g c =
    let was = c.in_ok-log.ensures.opened [] c.new.ensures.empty in
    let taken = taken_names c.open_with.new.fold.begun c.open_with.new.fold.names.keys _ was.2 in
    record { are = taken_are c.open_with.new.fold.names.keys _ taken; alone = taken.is.label.alone; ledgers = taken.is.label.ledgers; file = c.in_ok-log.ensures.file }

pub returns-clause-opened : goal.returns-clause-opened
returns-clause-opened g c = λ honest.
    let was = c.in_ok-log.ensures.opened [] c.new.ensures.empty in
    let taken = taken_names c.open_with.new.fold.begun c.open_with.new.fold.names.keys _ was.2 in
    opened _ (g.S.Shelf.disk c.open_with.new.shelf) was.0 taken.same (was.1 honest)
