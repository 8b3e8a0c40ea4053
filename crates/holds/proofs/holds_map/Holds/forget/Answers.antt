use Rattle.holds.proofs.Kept.{kept_remove}
use Rattle.holds.proofs.holds_map.Holds.forget.Goals as goal

pub returns : goal.returns
returns c = rw (← c.self.view_is) (kept_remove _ _ c.args.position c.forget.ensures.kept)
