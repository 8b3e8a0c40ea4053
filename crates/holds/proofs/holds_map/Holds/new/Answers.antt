use Rattle.std.proofs.Common.{ap}
use Rattle.std.specs.FinMap as map
use Rattle.holds.proofs.holds_map.Holds.new.Goals as goal

pub returns : goal.returns
returns c = ap map.from_entries c.new.ensures.empty
