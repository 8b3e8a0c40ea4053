use Rattle.std.proofs.Common.{arith}
use Rattle.std.proofs.lemmas.Bool.Decides.{nat_tests}
use Rattle.cursor.specs.Ranged.{has_ranged}
use Rattle.cursor.proofs.acknowledged.Cursor.contains.Goals as goal

pub returns-then-position-self : goal.returns-then-position-self
returns-then-position-self c =
    rw (← c.self.view_is) (let h = has_ranged c.self.inside.mark_delete c.self.inside.after.entries c.args.position in grind (arith, nat_tests))

pub returns-else-position-self : goal.returns-else-position-self
returns-else-position-self c =
    rw (← c.self.view_is) (let h = has_ranged c.self.inside.mark_delete c.self.inside.after.entries c.args.position in grind (arith, nat_tests))
