use Rattle.std.proofs.Common.{◌≡◌, ◌+◌, ◌∙◌, ap, sym, subst, arith}
use Rattle.std.proofs.lemmas.Bool.Decides.{nat_tests}
use Rattle.std.specs.FinSet as set
use Rattle.cursor.specs.Positions.{Positions, below, between}
use Rattle.cursor.specs.Ranged.{Ranges, IsApart, in_ranges}
use Rattle.cursor.proofs.Joined.{joined_keeps}
use Rattle.cursor.proofs.Ranged.{ranged_between, union_below}
use Rattle.cursor.proofs.acknowledged.Cursor.ack_range.Goals as goal

pub invariant_of-self-2 : goal.invariant_of-self-2
invariant_of-self-2 c =
    let new = joined_keeps c.self.inside.mark_delete c.args.first (c.args.last + 1) c.self.inside.after.entries (omega arith) (omega arith) (omega arith) c.self.invariant in
    subst (λ (rs : Ranges). IsApart c.self.inside.mark_delete rs) (sym c.in_ok-add_range.ensures.ok) new.apart

pub returns-clause-ok : goal.returns-clause-ok
returns-clause-ok c =
    let new = joined_keeps c.self.inside.mark_delete c.args.first (c.args.last + 1) c.self.inside.after.entries (omega arith) (omega arith) (omega arith) c.self.invariant in
    rw (← c.self.view_is) (ranged_between c.self.inside.mark_delete c.self.inside.mark_delete c.self.inside.after.entries c.add_range.new.after.entries c.args.first (c.args.last + 1) (λ q. let e = ap (λ (rs : Ranges). in_ranges rs q) c.in_ok-add_range.ensures.ok in let h = new.same q in grind (arith, nat_tests)))

pub returns-then-first-self-clause-ok : goal.returns-then-first-self-clause-ok
returns-then-first-self-clause-ok c =
    c.ack_through.ensures ∙ subst (λ (s : Positions). set.union s (below (c.args.last + 1)) ≡ set.union s (between c.args.first (c.args.last + 1))) c.self.view_is
    (union_below c.self.inside.mark_delete c.self.inside.after.entries c.args.first (c.args.last + 1) c.if-first-self.true)
