use Rattle.std.proofs.Common.{arith}
use Rattle.cursor.proofs.Behind.{none_before}
use Rattle.cursor.proofs.Ranged.{first_open_ranged}
use Rattle.cursor.proofs.acknowledged.Cursor.mark_delete.Goals as goal

pub returns : goal.returns
returns c = rw (← c.self.view_is) (first_open_ranged c.self.inside.mark_delete c.self.inside.after.entries 0 c.self.inside.mark_delete (omega arith) (omega arith) (none_before c.self.inside.mark_delete c.self.inside.after.entries c.self.inside.mark_delete c.self.invariant (omega arith)) (λ i _ low high. absurd (omega arith)))
