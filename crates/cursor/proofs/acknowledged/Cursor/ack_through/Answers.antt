use Rattle.std.proofs.Common.{◌+◌, arith}
use Rattle.std.proofs.lemmas.Bool.Decides.{nat_tests}
use Rattle.cursor.proofs.Ranged.{ranged_union}
use Rattle.cursor.proofs.acknowledged.Cursor.ack_through.Goals as goal

pub returns-then-position-self : goal.returns-then-position-self
returns-then-position-self c =
    rw (← c.self.view_is) (ranged_union c.self.inside.mark_delete _ c.self.inside.after.entries _ (c.args.position + 1) (λ q. let h = c.join-self-inside.ensures.same q in let d = c.drop_below.ensures.same q in grind (arith, nat_tests)))

pub returns-else-position-self : goal.returns-else-position-self
returns-else-position-self c =
    rw (← c.self.view_is) (ranged_union c.self.inside.mark_delete c.self.inside.mark_delete c.self.inside.after.entries c.self.inside.after.entries (c.args.position + 1) (λ q. grind (arith, nat_tests)))
