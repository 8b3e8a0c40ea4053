use Rattle.std.proofs.Common.{◌∙◌, ap, sym, arith}
use Rattle.std.proofs.lemmas.Bool.Decides.{nat_tests}
use Rattle.cursor.proofs.Behind.{covers_in, covers_is, mark_fits, found}
use Rattle.cursor.proofs.Ranged.{first_open_ranged}
use Rattle.cursor.proofs.acknowledged.Cursor.first_open.Goals as goal

pub range_behind-requires : goal.range_behind-requires
range_behind-requires c = let m = mark_fits c.self.inside.mark_delete c.self.inside.after.entries c.self.invariant in omega arith

pub returns-in-Some : goal.returns-in-Some
returns-in-Some c =
    let f = found c.self.inside.mark_delete c.max-open.result c.self.inside.after.entries _ c.self.invariant (sym c.range_behind.ensures ∙ c.in-Some.is) in
    let a = f.above in
    rw (← c.self.view_is) (first_open_ranged c.self.inside.mark_delete c.self.inside.after.entries c.args.from c.in-Some.end (omega arith) (omega arith) f.shut (λ i low at high. f.inside i (omega arith) high))

pub returns-in_default : goal.returns-in_default
returns-in_default c =
    let s = covers_is c.self.inside.mark_delete c.max-open.result c.self.inside.after.entries c.self.invariant in
    let b = ap (covers_in c.max-open.result) (sym c.range_behind.ensures ∙ c.in-Some.is) in
    rw (← c.self.view_is) (first_open_ranged c.self.inside.mark_delete c.self.inside.after.entries c.args.from c.max-open.result (omega arith) (omega arith) (grind (arith, nat_tests)) (λ i low at high. absurd (omega arith)))

pub returns-in_default-2 : goal.returns-in_default-2
returns-in_default-2 c =
    let s = covers_is c.self.inside.mark_delete c.max-open.result c.self.inside.after.entries c.self.invariant in
    let b = ap (covers_in c.max-open.result) (sym c.range_behind.ensures ∙ c.in_default.is) in
    rw (← c.self.view_is) (first_open_ranged c.self.inside.mark_delete c.self.inside.after.entries c.args.from c.max-open.result (omega arith) (omega arith) (s ∙ b) (λ i low at high. absurd (omega arith)))
