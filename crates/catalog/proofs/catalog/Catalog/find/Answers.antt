use Rattle.catalog.proofs.Opening.{again}
use Rattle.catalog.proofs.catalog.Catalog.find.Goals as goal

pub returns-clause-again : goal.returns-clause-again
returns-clause-again g c = λ number names honest _ stands.
    again c.in_ok-self.field-0 (g.S.Shelf.disk c.args.shelf.now).seen (g.S.Shelf.disk c.open.new.shelf) number names (c.in_ok-self.ensures.seen honest (λ is. cc)) (c.in_ok-self.ensures.opened honest) stands
