use Rattle.holds.proofs.Kept.{kept_from}
use Rattle.holds.proofs.holds_map.Holds.forget_below.Goals as goal

pub returns : goal.returns
returns c = rw (← c.self.view_is) (kept_from _ _ c.args.end c.forget_below.ensures.kept)
