-- The first range behind a position.
use Rattle.std.proofs.Common.{◌≡◌, ℕ, ◌+◌, ◌^◌, ◌<◌, ◌≤◌, false, true, not, nat_lt, nat_le, cond, ◌||◌, ◌&&◌, subst, refl, arith, is_le, nat_cmp, Bool, [], ◌∷◌, Some, None, Option, inl, inr}
use Rattle.std.proofs.lemmas.Bool.Decides.{nat_tests, leb_tells}
use Rattle.std.specs.List.{filter}
use Rattle.cursor.specs.Ranged.{Ranges, in_ranges, behind, IsApart, AreApart}

-- no position up to the mark lies in a range behind it
pub none_before : (mark : ℕ) (rs : Ranges) (q : ℕ) → IsApart mark rs → q ≤ mark → in_ranges rs q ≡ false
none_before mark [] q apart low = refl
none_before mark (r ∷ rs) q apart low = let rest = none_before r.0 rs q apart.2 (omega arith) in grind (arith, nat_tests)

pub mark_fits : (mark : ℕ) (rs : Ranges) → IsApart mark rs → mark ≤ 2 ^ 62
mark_fits mark [] apart = apart
mark_fits mark (r ∷ rs) apart = let rest = mark_fits r.0 rs apart.2 in omega arith

abbrev pub covers_in : ℕ → Option (ℕ × ℕ) → Bool
covers_in p None = false
covers_in p (Some r) = nat_le r.1 p

covers_here : (r : ℕ × ℕ) (p : ℕ) (rest : Bool) (later : Option (ℕ × ℕ)) → rest ≡ false → p < r.0 → ((nat_lt p r.0 && not (nat_lt p r.1)) || rest) ≡ covers_in p (cond (nat_lt p r.0) (Some r) later)
covers_here r p rest later none low = let t : nat_lt p r.0 ≡ true = grind (arith, nat_tests) in rw (t, none) (grind (arith, nat_tests))

covers_later : (r : ℕ × ℕ) (p : ℕ) (rest : Bool) (later : Option (ℕ × ℕ)) → rest ≡ covers_in p later → r.0 ≤ p → ((nat_lt p r.0 && not (nat_lt p r.1)) || rest) ≡ covers_in p (cond (nat_lt p r.0) (Some r) later)
covers_later r p rest later same high = let t : nat_lt p r.0 ≡ false = grind (arith, nat_tests) in rw (t, same) refl

pub covers_is : (mark p : ℕ) (rs : Ranges) → IsApart mark rs → in_ranges rs p ≡ covers_in p (behind p rs)
covers_is mark p [] apart = refl
covers_is mark p (r ∷ rs) apart =
    elim (leb_tells r.0 p) [
      | inl high ↦ covers_later r p (in_ranges rs p) (behind p rs) (covers_is r.0 p rs apart.2) high.1
      | inr low ↦ covers_here r p (in_ranges rs p) (behind p rs) (none_before r.0 rs p apart.2 (omega arith)) low.1
    ]

-- what is known of the range that was found
pub record IsFound (rs : Ranges) (p : ℕ) (r : ℕ × ℕ) : Type 0 where
  pub above : p < r.0
  pub fits : r.0 ≤ 2 ^ 62
  pub shut : in_ranges rs r.0 ≡ false
  pub inside : (i : ℕ) → r.1 ≤ i → i < r.0 → in_ranges rs i ≡ true

pub found : (mark p : ℕ) (rs : Ranges) (r : ℕ × ℕ) → IsApart mark rs → behind p rs ≡ Some r → IsFound rs p r
found mark p [] r apart is = cc
found mark p (s ∷ rs) r apart is =
    elim (leb_tells s.0 p) [
      | inl high ↦
          let t : nat_lt p s.0 ≡ false = grind (arith, nat_tests) in
          let rest = found s.0 p rs r apart.2 (rw t at is) in
          record {
            above = rest.above;
            fits = rest.fits;
            shut = let h = rest.shut in let a = rest.above in grind (arith, nat_tests);
            inside = λ i low up. let h = rest.inside i low up in grind (arith, nat_tests);
          }
      | inr low ↦
          let t : nat_lt p s.0 ≡ true = grind (arith, nat_tests) in
          let same : s ≡ r = let e = rw t at is in cc in
          subst (λ x. IsFound (s ∷ rs) p x) same (record {
            above = low.1;
            fits = mark_fits s.0 rs apart.2;
            shut = let n = none_before s.0 rs s.0 apart.2 (omega arith) in grind (arith, nat_tests);
            inside = λ i at up. grind (arith, nat_tests);
          })
    ]

abbrev pub head : Ranges → Option (ℕ × ℕ)
head [] = None
head (r ∷ rs) = Some r

head_cond : (a b : Bool) (r : ℕ × ℕ) (rest : Ranges) (later : Option (ℕ × ℕ)) → a ≡ b → head rest ≡ later → head (cond a (r ∷ rest) rest) ≡ cond b (Some r) later
head_cond true b r rest later same is = rw (← same) refl
head_cond false b r rest later same is = rw (← same) is

-- the first of those that a test for the ranges behind p lets through
pub head_filter : (p : ℕ) (test : ℕ × ℕ → Bool) → ((r : ℕ × ℕ) → test r ≡ nat_lt p r.0) → (rs : Ranges) → head (filter test rs) ≡ behind p rs
head_filter p test same [] = refl
head_filter p test same (r ∷ rs) = head_cond (test r) (nat_lt p r.0) r (filter test rs) (behind p rs) (same r) (head_filter p test same rs)

pub behind_test : (p e : ℕ) → (is_le (nat_cmp (p + 1) e) && true) ≡ nat_lt p e
behind_test p e = grind (arith, nat_tests)

pub covers_apart : (p : ℕ) (rs : Ranges) → AreApart rs → in_ranges rs p ≡ covers_in p (behind p rs)
covers_apart p [] apart = refl
covers_apart p (r ∷ rs) apart =
    elim (leb_tells r.0 p) [
      | inl high ↦ covers_later r p (in_ranges rs p) (behind p rs) (covers_is r.0 p rs apart.1) high.1
      | inr low ↦ covers_here r p (in_ranges rs p) (behind p rs) (none_before r.0 rs p apart.1 (omega arith)) low.1
    ]
