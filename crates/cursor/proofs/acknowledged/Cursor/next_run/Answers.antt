use Rattle.std.proofs.Common.{◌≡◌, ◌∙◌, ℕ, sym, ap, arith}
use Rattle.cursor.specs.Ranged.{behind}
use Rattle.cursor.proofs.Behind.{found}
use Rattle.cursor.proofs.NextRun.{none_left, below_mark, range_run}
use Rattle.cursor.proofs.acknowledged.Cursor.next_run.Goals as goal

pub returns-then-from-self : goal.returns-then-from-self
returns-then-from-self c = rw (← c.self.view_is) (below_mark c.self.inside.mark_delete c.args.from c.self.inside.after.entries c.self.invariant c.if-from-self.true)

pub overflow_sub-result-in-Some : goal.overflow_sub-result-in-Some
overflow_sub-result-in-Some c =
    let f = found c.self.inside.mark_delete c.min.result c.self.inside.after.entries _ c.self.invariant (sym c.range_behind.ensures ∙ c.in-Some.is) in
    let a = f.above in
    omega arith

pub returns-in-Some : goal.returns-in-Some
returns-in-Some c =
    let f = found c.self.inside.mark_delete c.min.result c.self.inside.after.entries _ c.self.invariant (sym c.range_behind.ensures ∙ c.in-Some.is) in
    let a = f.above in
    let b = f.fits in
    let at : c.min.result ≡ c.args.from = omega arith in
    rw (← c.self.view_is) (range_run c.self.inside.mark_delete c.args.from c.max.result c.self.inside.after.entries (c.in-Some.end, c.in-Some.start) c.self.invariant c.if-from-self.false
    (ap (λ (p : ℕ). behind p c.self.inside.after.entries) (sym at) ∙ sym c.range_behind.ensures ∙ c.in-Some.is) (omega arith) (omega arith) (λ i low up. omega arith) (λ i low up. omega arith))

pub returns-in-None : goal.returns-in-None
returns-in-None c = rw (← c.self.view_is) (none_left c.self.inside.mark_delete c.args.from c.min.result c.self.inside.after.entries c.self.invariant c.if-from-self.false (omega arith) (sym c.range_behind.ensures ∙ c.in-None.is))
