-- The first run from a position on.
use Rattle.std.proofs.Common.{◌≡◌, ℕ, ◌+◌, ◌-◌, ◌^◌, ◌<◌, ◌≤◌, false, true, not, nat_lt, ◌||◌, ◌&&◌, subst, refl, arith, [], ◌∷◌, Some, None, inl, inr}
use Rattle.std.proofs.lemmas.Bool.Decides.{nat_tests, leb_tells}
use Rattle.cursor.specs.Positions.{IsRun, IsNextRun}
use Rattle.cursor.specs.Ranged.{Ranges, ranged, in_ranges, behind, has_ranged, IsApart}
use Rattle.cursor.proofs.Behind.{none_before, mark_fits, found}

none_behind : (mark p : ℕ) (rs : Ranges) → IsApart mark rs → behind p rs ≡ None → (i : ℕ) → p ≤ i → in_ranges rs i ≡ false
none_behind mark p [] apart is i low = refl
none_behind mark p (s ∷ rs) apart is i low =
    elim (leb_tells s.0 p) [
      | inl high ↦
          let t : nat_lt p s.0 ≡ false = grind (arith, nat_tests) in
          let rest = none_behind s.0 p rs apart.2 (rw t at is) i low in
          let h = high.1 in
          grind (arith, nat_tests)
      | inr less ↦
          let t : nat_lt p s.0 ≡ true = grind (arith, nat_tests) in
          absurd (let e = rw t at is in cc)
    ]

-- what is known of the range that was found, and of what lies before it
record IsFirst (rs : Ranges) (p : ℕ) (r : ℕ × ℕ) : Type 0 where
  pub rises : r.1 < r.0
  pub before : (i : ℕ) → p ≤ i → i < r.1 → in_ranges rs i ≡ false

first : (mark p : ℕ) (rs : Ranges) (r : ℕ × ℕ) → IsApart mark rs → behind p rs ≡ Some r → IsFirst rs p r
first mark p [] r apart is = cc
first mark p (s ∷ rs) r apart is =
    elim (leb_tells s.0 p) [
      | inl high ↦
          let t : nat_lt p s.0 ≡ false = grind (arith, nat_tests) in
          let rest = first s.0 p rs r apart.2 (rw t at is) in
          let h = high.1 in
          record { rises = rest.rises; before = λ i low up. let b = rest.before i low up in grind (arith, nat_tests) }
      | inr less ↦
          let t : nat_lt p s.0 ≡ true = grind (arith, nat_tests) in
          let same : s ≡ r = let e = rw t at is in cc in
          subst (λ x. IsFirst (s ∷ rs) p x) same (record {
            rises = apart.1;
            before = λ i low up. let n = none_before s.0 rs i apart.2 (omega (arith, up, apart.1)) in grind (arith, nat_tests);
          })
    ]

-- no position is left
pub none_left : (mark from p : ℕ) (rs : Ranges) → IsApart mark rs → mark ≤ from → p ≤ from → behind p rs ≡ None → IsNextRun (ranged mark rs) from None
none_left mark from p rs apart high before is = λ i low. let n = none_behind mark p rs apart is i (omega (arith, before, low)) in let h = has_ranged mark rs i in grind (arith, nat_tests)

-- the rest of what lies before the mark
pub below_mark : (mark from : ℕ) (rs : Ranges) → IsApart mark rs → from < mark → IsRun (ranged mark rs) from from (mark - 1)
below_mark mark from rs apart low =
    let fits = mark_fits mark rs apart in
    let at : mark - 1 + 1 ≡ mark = omega (arith, low) in
    record {
      from_here = omega arith;
      rises = omega (arith, low);
      fits = omega (arith, low, fits);
      before = λ i from_i i_from. absurd (omega (arith, from_i, i_from));
      inside = λ i from_i i_last. let h = has_ranged mark rs i in let less : i < mark = omega (arith, low, i_last) in grind (arith, nat_tests);
      shut = let h = has_ranged mark rs (mark - 1 + 1) in let n = none_before mark rs (mark - 1 + 1) apart (omega (arith, at)) in grind (arith, nat_tests);
    }

-- the range that was found, or the rest of it
pub range_run : (mark from start : ℕ) (rs : Ranges) (r : ℕ × ℕ) → IsApart mark rs → mark ≤ from → behind from rs ≡ Some r → from ≤ start → r.1 ≤ start → ((i : ℕ) → from ≤ i → i < start → i < r.1) → ((i : ℕ) → from ≤ i → r.1 ≤ i → start ≤ i)
    → IsRun (ranged mark rs) from start (r.0 - 1)
range_run mark from start rs r apart high is low at only least =
    let f = found mark from rs r apart is in
    let b = first mark from rs r apart is in
    let up_to = least (r.0 - 1) (omega (arith, f.above)) (omega (arith, b.rises)) in
    let less : start < r.0 = omega (arith, up_to, f.above) in
    let end : r.0 ≡ r.0 - 1 + 1 = omega (arith, less) in
    record {
      from_here = low;
      rises = omega (arith, less);
      fits = omega (arith, less, f.fits);
      before = λ i from_i i_start. let n = b.before i from_i (only i from_i i_start) in let h = has_ranged mark rs i in grind (arith, nat_tests);
      inside = λ i start_i i_last. let n = f.inside i (omega (arith, at, start_i)) (omega (arith, i_last, less)) in let h = has_ranged mark rs i in grind (arith, nat_tests);
      shut = let h = has_ranged mark rs (r.0 - 1 + 1) in let n : in_ranges rs (r.0 - 1 + 1) ≡ false = subst (λ (q : ℕ). in_ranges rs q ≡ false) end f.shut in grind (arith, nat_tests);
    }
