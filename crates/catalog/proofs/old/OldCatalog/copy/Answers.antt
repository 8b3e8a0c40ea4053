use Rattle.disk.specs.Areas.{both_within}
use Rattle.catalog.proofs.old.OldCatalog.copy.Goals as goal

pub returns-in_err-overwrite-clause-others : goal.returns-in_err-overwrite-clause-others
returns-in_err-overwrite-clause-others g c = λ honest.
    both_within _ _ _ (λ i. Unit {0}) (g.S.Shelf.disk c.args.shelf.now) (g.S.Shelf.disk c.lay_closed.new.shelf) (g.S.Shelf.disk c.overwrite.new.shelf) (λ i p. p) (λ i p. p)
    (c.lay_closed.ensures.others honest) (c.overwrite.ensures.others (c.lay_closed.ensures.kept.honest honest))

pub returns-clause-others : goal.returns-clause-others
returns-clause-others g c = λ honest.
    both_within _ _ _ (λ i. Unit {0}) (g.S.Shelf.disk c.args.shelf.now) (g.S.Shelf.disk c.lay_closed.new.shelf) (g.S.Shelf.disk c.overwrite.new.shelf) (λ i p. p) (λ i p. p)
    (c.lay_closed.ensures.others honest) (c.overwrite.ensures.others (c.lay_closed.ensures.kept.honest honest))
