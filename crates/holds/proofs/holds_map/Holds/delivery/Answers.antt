use Rattle.holds.proofs.Kept.{get_kept}
use Rattle.holds.proofs.holds_map.Holds.delivery.Goals as goal

pub returns : goal.returns
returns c = rw (← c.self.view_is, get_kept) c.delivery.ensures
