-- What `added` does to the ranges.
use Rattle.std.proofs.Common.{◌≡◌, ℕ, ◌+◌, ◌^◌, ◌<◌, ◌≤◌, false, true, not, nat_lt, nat_eq, ◌||◌, ◌&&◌, ap, subst, refl, arith, nat_cmp, Bool, [], ◌∷◌, Some, None, inl, inr, Less, Equal, Greater}
use Rattle.std.proofs.lemmas.Bool.Decides.{nat_tests, leb_tells, eqb_tells}
use Rattle.std.specs.Map.{lookup, remove_entry}
use Rattle.std.specs.BTreeMap.{is_at}
use Rattle.cursor.specs.Ranged.{Ranges, in_ranges, behind, end_of, added, IsApart}

pub less : (a b : ℕ) → a < b → nat_cmp a b ≡ Less
less a b h = grind (arith, nat_tests)

pub equal : (a b : ℕ) → a ≡ b → nat_cmp a b ≡ Equal
equal a b h = grind (arith, nat_tests)

pub greater : (a b : ℕ) → b < a → nat_cmp a b ≡ Greater
greater a b h = grind (arith, nat_tests)

end_above : (p : ℕ) (rs : Ranges) → p < end_of p (behind p rs)
end_above p [] = omega arith
end_above p (r ∷ rs) =
    elim (leb_tells r.0 p) [
      | inl high ↦ let t : nat_lt p r.0 ≡ false = grind (arith, nat_tests) in rw t (end_above p rs)
      | inr low ↦ let t : nat_lt p r.0 ≡ true = grind (arith, nat_tests) in rw t (end_here p r low.1)
    ]
  where
    end_here : (p : ℕ) (r : ℕ × ℕ) → p < r.0 → p < end_of p (Some r)
    end_here p r low = grind (arith, nat_tests)

-- no key up to the mark
none_at : (mark : ℕ) (rs : Ranges) (p : ℕ) → IsApart mark rs → p ≤ mark → lookup (is_at (nat_cmp p)) rs ≡ None
none_at mark [] p apart low = refl
none_at mark (r ∷ rs) p apart low = rw (less p r.0 (omega arith)) (none_at r.0 rs p apart.2 (omega arith))

unmoved : (mark : ℕ) (rs : Ranges) (p : ℕ) → IsApart mark rs → p ≤ mark → remove_entry (is_at (nat_cmp p)) rs ≡ rs
unmoved mark [] p apart low = refl
unmoved mark (r ∷ rs) p apart low = rw (less p r.0 (omega arith)) (ap (λ x. r ∷ x) (unmoved r.0 rs p apart.2 (omega arith)))

added_later : (p : ℕ) (r : ℕ × ℕ) (rs : Ranges) → r.0 < p → added p (r ∷ rs) ≡ r ∷ added p rs
added_later p r rs low =
    let t : nat_lt p r.0 ≡ false = grind (arith, nat_tests) in
    rw (greater p r.0 low, t, greater (end_of p (behind p rs)) r.0 (let e = end_above p rs in omega arith), greater p r.0 low) refl

-- p joins the range that ends at it, and no later one
added_end : (r : ℕ × ℕ) → added r.0 (r ∷ []) ≡ (r.0 + 1, r.1) ∷ []
added_end r =
    let t : nat_lt r.0 r.0 ≡ false = grind (arith, nat_tests) in
    rw (equal r.0 r.0 refl, t, greater (r.0 + 1) r.0 (omega arith), equal r.0 r.0 refl) refl

added_apart : (r s : ℕ × ℕ) (ss : Ranges) → r.0 + 1 < s.1 → s.1 < s.0 → added r.0 (r ∷ s ∷ ss) ≡ (r.0 + 1, r.1) ∷ s ∷ ss
added_apart r s ss gap up =
    let t : nat_lt r.0 r.0 ≡ false = grind (arith, nat_tests) in
    let u : nat_lt r.0 s.0 ≡ true = grind (arith, nat_tests) in
    let v : nat_eq s.1 (r.0 + 1) ≡ false = grind (arith, nat_tests) in
    rw (equal r.0 r.0 refl, t, u, v, greater (r.0 + 1) r.0 (omega arith), less (r.0 + 1) s.0 (omega arith), equal r.0 r.0 refl) refl

added_joined : (r s : ℕ × ℕ) (ss : Ranges) → s.1 ≡ r.0 + 1 → s.1 < s.0 → added r.0 (r ∷ s ∷ ss) ≡ (s.0, r.1) ∷ ss
added_joined r s ss touch up =
    let t : nat_lt r.0 r.0 ≡ false = grind (arith, nat_tests) in
    let u : nat_lt r.0 s.0 ≡ true = grind (arith, nat_tests) in
    let v : nat_eq s.1 (r.0 + 1) ≡ true = grind (arith, nat_tests) in
    rw (equal r.0 r.0 refl, t, u, v, greater s.0 r.0 (omega arith), equal s.0 s.0 refl, equal r.0 r.0 refl) refl

-- p joins the range that begins behind it
added_before : (p : ℕ) (r : ℕ × ℕ) (rs : Ranges) → r.1 ≡ p + 1 → r.1 < r.0 → IsApart r.0 rs → added p (r ∷ rs) ≡ (r.0, p) ∷ rs
added_before p r rs touch up apart =
    let u : nat_lt p r.0 ≡ true = grind (arith, nat_tests) in
    let v : nat_eq r.1 (p + 1) ≡ true = grind (arith, nat_tests) in
    rw (less p r.0 (omega arith), u, v, none_at r.0 rs p apart (omega arith), equal r.0 r.0 refl, less p r.0 (omega arith), unmoved r.0 rs p apart (omega arith)) refl

-- p is a range of its own
added_new : (p : ℕ) (r : ℕ × ℕ) (rs : Ranges) → p + 1 < r.1 → r.1 < r.0 → IsApart r.0 rs → added p (r ∷ rs) ≡ (p + 1, p) ∷ r ∷ rs
added_new p r rs gap up apart =
    let u : nat_lt p r.0 ≡ true = grind (arith, nat_tests) in
    let v : nat_eq r.1 (p + 1) ≡ false = grind (arith, nat_tests) in
    rw (less p r.0 (omega arith), u, v, none_at r.0 rs p apart (omega arith), less (p + 1) r.0 (omega arith), less p (p + 1) (omega arith), less p r.0 (omega arith), unmoved r.0 rs p apart (omega arith)) refl

-- p joined the ranges, which still follow the mark with gaps
pub record IsAdded (mark p : ℕ) (old new : Ranges) : Type 0 where
  pub apart : IsApart mark new
  pub same : (q : ℕ) → in_ranges new q ≡ (nat_eq q p || in_ranges old q)

at_none : (mark p : ℕ) → mark < p → p < 2 ^ 62 → IsAdded mark p [] ((p + 1, p) ∷ [])
at_none mark p behind_mark fits = record {
  apart = (behind_mark, omega arith, omega arith);
  same = λ q. grind (arith, nat_tests);
}

at_end : (mark : ℕ) (r : ℕ × ℕ) (rs : Ranges) → mark < r.1 → r.1 < r.0 → r.0 < 2 ^ 62 → IsApart r.0 rs → IsAdded mark r.0 (r ∷ rs) (added r.0 (r ∷ rs))
at_end mark r [] behind_mark up fits apart = rw (added_end r) (record {
  apart = (behind_mark, omega arith, omega arith);
  same = λ q. grind (arith, nat_tests);
})
at_end mark r (s ∷ ss) behind_mark up fits apart =
    elim (eqb_tells s.1 (r.0 + 1)) [
      | inl touch ↦ rw (added_joined r s ss touch.1 apart.1) (record {
        apart = (behind_mark, omega arith, apart.2);
        same = λ q. grind (arith, nat_tests);
      })
      | inr gap ↦ rw (added_apart r s ss (omega arith) apart.1) (record {
        apart = (behind_mark, omega arith, (omega arith, apart.1, apart.2));
        same = λ q. grind (arith, nat_tests);
      })
    ]

at_before : (mark p : ℕ) (r : ℕ × ℕ) (rs : Ranges) → mark < p → p < r.1 → r.1 < r.0 → IsApart r.0 rs → IsAdded mark p (r ∷ rs) (added p (r ∷ rs))
at_before mark p r rs behind_mark low up apart =
    elim (eqb_tells r.1 (p + 1)) [
      | inl touch ↦ rw (added_before p r rs touch.1 up apart) (record {
        apart = (behind_mark, omega arith, apart);
        same = λ q. grind (arith, nat_tests);
      })
      | inr gap ↦ rw (added_new p r rs (omega arith) up apart) (record {
        apart = (behind_mark, omega arith, (omega arith, up, apart));
        same = λ q. grind (arith, nat_tests);
      })
    ]

at_later : (mark p : ℕ) (r : ℕ × ℕ) (rs new : Ranges) → mark < r.1 → r.1 < r.0 → IsAdded r.0 p rs new → IsAdded mark p (r ∷ rs) (r ∷ new)
at_later mark p r rs new behind_mark up rest = record {
  apart = (behind_mark, up, rest.apart);
  same = λ q. let h = rest.same q in grind (arith, nat_tests);
}

added_nil : (p : ℕ) → added p [] ≡ (p + 1, p) ∷ []
added_nil p = rw (less p (p + 1) (omega arith)) refl

uncovered : (r : ℕ × ℕ) (p : ℕ) (rest : Bool) → ((nat_lt p r.0 && not (nat_lt p r.1)) || rest) ≡ false → p < r.0 → p < r.1
uncovered r p rest none low = grind (arith, nat_tests)

uncovered_rest : (r : ℕ × ℕ) (p : ℕ) (rest : Bool) → ((nat_lt p r.0 && not (nat_lt p r.1)) || rest) ≡ false → rest ≡ false
uncovered_rest r p rest none = grind (arith, nat_tests)

pub added_keeps : (mark p : ℕ) (rs : Ranges) → mark < p → p < 2 ^ 62 → in_ranges rs p ≡ false → IsApart mark rs → IsAdded mark p rs (added p rs)
added_keeps mark p [] behind_mark fits none apart = rw (added_nil p) (at_none mark p behind_mark fits)
added_keeps mark p (r ∷ rs) behind_mark fits none apart =
    elim (leb_tells r.0 p) [
      | inl high ↦ elim (eqb_tells r.0 p) [
        | inl here ↦ subst (λ p. p < 2 ^ 62 → IsAdded mark p (r ∷ rs) (added p (r ∷ rs))) here.1 (λ fits. at_end mark r rs apart.0 apart.1 fits apart.2) fits
        | inr later ↦
            let below : r.0 < p = omega arith in
            rw (added_later p r rs below) (at_later mark p r rs (added p rs) apart.0 apart.1 (added_keeps r.0 p rs below fits (uncovered_rest r p (in_ranges rs p) none) apart.2))
      ]
      | inr low ↦ at_before mark p r rs behind_mark (uncovered r p (in_ranges rs p) none low.1) apart.1 apart.2
    ]
