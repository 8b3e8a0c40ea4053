use Rattle.std.proofs.Common.{◌∙◌, ap, sym}
use Rattle.cursor.specs.Positions.{run_count}
use Rattle.cursor.proofs.Counted.{run_count_ranged}
use Rattle.cursor.proofs.acknowledged.Cursor.ranges.Goals as goal

pub returns : goal.returns
returns c = c.len.ensures.len ∙ sym (run_count_ranged c.self.inside.mark_delete c.self.inside.after.entries c.self.invariant) ∙ ap run_count c.self.view_is
