use Rattle.std.proofs.Common.{rules}
use Rattle.holds.proofs.Kept.{get_kept}
use Rattle.holds.proofs.holds_map.Holds.sent_before.Goals as goal

pub returns-in-Some : goal.returns-in-Some
returns-in-Some c = rw (← c.self.view_is, get_kept) (search rules)

pub returns-in-None : goal.returns-in-None
returns-in-None c = rw (← c.self.view_is, get_kept) (search rules)
