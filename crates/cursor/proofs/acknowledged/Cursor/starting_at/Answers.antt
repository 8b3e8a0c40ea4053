use Rattle.std.proofs.Common.{◌∙◌, ap}
use Rattle.cursor.specs.Ranged.{ranged}
use Rattle.cursor.proofs.Ranged.{ranged_start}
use Rattle.cursor.proofs.acknowledged.Cursor.starting_at.Goals as goal

pub returns : goal.returns
returns c = ap (ranged c.args.start) c.new.ensures.empty ∙ ranged_start c.args.start
