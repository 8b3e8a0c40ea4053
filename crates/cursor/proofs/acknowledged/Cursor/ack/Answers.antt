use Rattle.std.proofs.Common.{◌≡◌, ℕ, false, true, nat_lt, nat_eq, ◌||◌, ◌∙◌, ap, sym, subst, refl, rules, arith, inl, inr}
use Rattle.std.proofs.lemmas.Bool.Decides.{nat_tests, eqb_tells}
use Rattle.cursor.specs.Ranged.{in_ranges, IsApart}
use Rattle.cursor.proofs.Added.{added_keeps}
use Rattle.cursor.proofs.Ranged.{ranged_insert}
use Rattle.cursor.specs.Ranged.{Ranges}
use Rattle.cursor.proofs.acknowledged.Cursor.ack.Goals as goal

pub invariant_of-self : goal.invariant_of-self
invariant_of-self c =
    let new = added_keeps c.self.inside.mark_delete c.args.position c.self.inside.after.entries (omega arith) c.requires (search rules) c.self.invariant in
    subst (λ es. IsApart c.self.inside.mark_delete es) (sym c.in_ok-add_one.ensures.ok) new.apart

pub returns-in_ok-add_one-clause-ok : goal.returns-in_ok-add_one-clause-ok
returns-in_ok-add_one-clause-ok c =
    let new = added_keeps c.self.inside.mark_delete c.args.position c.self.inside.after.entries (omega arith) c.requires (search rules) c.self.invariant in
    rw (← c.self.view_is) (ranged_insert c.self.inside.mark_delete c.self.inside.mark_delete c.self.inside.after.entries c.add_one.new.after.entries c.args.position (λ q. let e = ap (λ es. in_ranges es q) c.in_ok-add_one.ensures.ok in let h = new.same q in grind (arith, nat_tests)))

pub returns-else-not-covers-clause-ok : goal.returns-else-not-covers-clause-ok
returns-else-not-covers-clause-ok c =
    let is_there : in_ranges c.self.inside.after.entries c.args.position ≡ true = search rules in
    rw (← c.self.view_is) (ranged_insert c.self.inside.mark_delete c.self.inside.mark_delete c.self.inside.after.entries c.self.inside.after.entries c.args.position (λ q. there q c.args.position c.self.inside.mark_delete c.self.inside.after.entries is_there))
  where
    there : (q p mark : ℕ) (rs : Ranges) → in_ranges rs p ≡ true → (nat_lt q mark || in_ranges rs q) ≡ (nat_eq q p || (nat_lt q mark || in_ranges rs q))
    there q p mark rs is_there =
        elim (eqb_tells q p) [
          | inl same ↦ let at : in_ranges rs q ≡ true = ap (in_ranges rs) same.1 ∙ is_there in grind (arith, nat_tests)
          | inr apart ↦ let t : nat_eq q p ≡ false = grind (arith, nat_tests) in rw t refl
        ]

pub returns-then-position-self-2-clause-ok : goal.returns-then-position-self-2-clause-ok
returns-then-position-self-2-clause-ok c =
    rw (← c.self.view_is) (ranged_insert c.self.inside.mark_delete _ c.self.inside.after.entries _ c.args.position (λ q. let h = c.join-self-inside.ensures.same q in grind (arith, nat_tests)))

pub returns-else-position-self-2-clause-ok : goal.returns-else-position-self-2-clause-ok
returns-else-position-self-2-clause-ok c =
    rw (← c.self.view_is) (ranged_insert c.self.inside.mark_delete c.self.inside.mark_delete c.self.inside.after.entries c.self.inside.after.entries c.args.position (λ q. grind (arith, nat_tests)))
