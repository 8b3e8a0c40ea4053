use Rattle.disk.specs.declared.file_id.FileId.TheVariants.{Catalog}
use Rattle.disk.specs.declared.file_id.Folder.TheVariants.{One}
use Rattle.catalog.proofs.Closing.{left, closing}
use Rattle.catalog.proofs.headers.close_old.Goals as goal

pub returns-clause-left : goal.returns-clause-left
returns-clause-left g c = λ honest synced is.
    left One (Catalog One) (g.S.Shelf.disk c.args.shelf.now) (g.S.Shelf.disk c.persist.new.shelf) synced is (c.persist.ensures.others honest) (c.persist.ensures.any_moment honest)

pub returns-clause-within : goal.returns-clause-within
returns-clause-within g c = λ honest synced is.
    closing One (Catalog One) (g.S.Shelf.disk c.args.shelf.now) (g.S.Shelf.disk c.persist.new.shelf) synced is (c.persist.ensures.others honest) (c.persist.ensures.any_moment honest)
