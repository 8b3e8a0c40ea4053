-- What a change of the mark and the ranges does to the set.
use Rattle.std.proofs.Common.{◌≡◌, ℕ, ◌<◌, ◌≤◌, false, true, not, Bool, nat_lt, nat_eq, ◌||◌, ◌&&◌, ◌∙◌, ap, sym, arith, [], ◌∷◌}
use Rattle.std.proofs.lemmas.Bool.Decides.{nat_tests}
use Rattle.std.specs.FinSet as set
use Rattle.cursor.specs.Positions.{below, between, has_union, has_below, has_between, has_insert, has_empty, same_positions, IsFirstOpen}
use Rattle.cursor.specs.Ranged.{Ranges, ranged, in_ranges, has_ranged, IsApart, AreApart}

pub ranged_empty : ranged 0 [] ≡ set.empty
ranged_empty = same_positions _ _ (λ q. let h = has_ranged 0 [] q in let e = has_empty q in grind (arith, nat_tests))

pub ranged_insert : (mark mark' : ℕ) (rs rs' : Ranges) (p : ℕ) → ((q : ℕ) → (nat_lt q mark' || in_ranges rs' q) ≡ (nat_eq q p || (nat_lt q mark || in_ranges rs q))) → ranged mark' rs' ≡ set.insert (ranged mark rs) p
ranged_insert mark mark' rs rs' p same =
    same_positions _ _ (λ q. has_ranged mark' rs' q ∙ same q ∙ sym (has_insert (ranged mark rs) p q ∙ ap (λ b. nat_eq q p || b) (has_ranged mark rs q)))

pub ranged_union : (mark mark' : ℕ) (rs rs' : Ranges) (n : ℕ) → ((q : ℕ) → (nat_lt q mark' || in_ranges rs' q) ≡ ((nat_lt q mark || in_ranges rs q) || nat_lt q n)) → ranged mark' rs' ≡ set.union (ranged mark rs) (below n)
ranged_union mark mark' rs rs' n same =
    same_positions _ _ (λ q. has_ranged mark' rs' q ∙ same q ∙ sym (has_union (ranged mark rs) (below n) q ∙ (λ i. has_ranged mark rs q i || has_below n q i)))

pub ranged_between : (mark mark' : ℕ) (rs rs' : Ranges) (a b : ℕ) → ((q : ℕ) → (nat_lt q mark' || in_ranges rs' q) ≡ ((nat_lt q mark || in_ranges rs q) || (nat_lt q b && not (nat_lt q a)))) → ranged mark' rs' ≡ set.union (ranged mark rs) (between a b)
ranged_between mark mark' rs rs' a b same =
    same_positions _ _ (λ q. has_ranged mark' rs' q ∙ same q ∙ sym (has_union (ranged mark rs) (between a b) q ∙ (λ i. has_ranged mark rs q i || has_between a b q i)))

-- where all before the range is there, all up to its end is the range
pub union_below : (mark : ℕ) (rs : Ranges) (a b : ℕ) → a ≤ mark → set.union (ranged mark rs) (below b) ≡ set.union (ranged mark rs) (between a b)
union_below mark rs a b low =
    same_positions _ _ (λ q.
    let u = has_union (ranged mark rs) (below b) q ∙ (λ i. has_ranged mark rs q i || has_below b q i) in
    let v = has_union (ranged mark rs) (between a b) q ∙ (λ i. has_ranged mark rs q i || has_between a b q i) in
    u ∙ tests q mark a b (in_ranges rs q) low ∙ sym v)
  where
    tests : (q mark a b : ℕ) (inside : Bool) → a ≤ mark → ((nat_lt q mark || inside) || nat_lt q b) ≡ ((nat_lt q mark || inside) || (nat_lt q b && not (nat_lt q a)))
    tests q mark a b inside low = grind (arith, nat_tests)

pub ranged_start : (start : ℕ) → ranged start [] ≡ below start
ranged_start start = same_positions _ _ (λ q. let h = has_ranged start [] q in let b = has_below start q in grind (arith, nat_tests))

-- the first position that is neither below the mark nor in a range
pub first_open_ranged : (mark : ℕ) (rs : Ranges) (from n : ℕ) → from ≤ n → mark ≤ n → in_ranges rs n ≡ false → ((i : ℕ) → from ≤ i → mark ≤ i → i < n → in_ranges rs i ≡ true) → IsFirstOpen (ranged mark rs) from n
first_open_ranged mark rs from n low at here before = record {
  from_here = low;
  missing = let h = has_ranged mark rs n in grind (arith, nat_tests);
  least = λ i from_i i_n. let h = has_ranged mark rs i in grind (arith, nat_tests, before i);
}

pub are_apart : (mark : ℕ) (rs : Ranges) → IsApart mark rs → AreApart rs
are_apart mark [] apart = tt
are_apart mark (r ∷ rs) apart = (apart.1, apart.2)
