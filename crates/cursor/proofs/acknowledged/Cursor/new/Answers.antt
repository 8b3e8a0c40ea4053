use Rattle.std.proofs.Common.{◌∙◌, ap}
use Rattle.cursor.specs.Ranged.{ranged}
use Rattle.cursor.proofs.Ranged.{ranged_empty}
use Rattle.cursor.proofs.acknowledged.Cursor.new.Goals as goal

pub returns : goal.returns
returns c = ap (ranged 0) c.new.ensures.empty ∙ ranged_empty
