-- The last segment that begins at or below a limit.
use Rattle.std.proofs.Common.{◌≡◌, inl, inr, ℕ, zero, suc, ◌+◌, ◌<◌, ◌≤◌, List, [], ◌∷◌, ◌++◌, length, take, drop, refl, ◌∙◌, ap, arith, length-append, Option, None, Some}
use Rattle.std.proofs.lemmas.Bool.{cases_lt}
use Rattle.std.proofs.lemmas.List.{take-append-le, length-map}
use Rattle.managed_ledger.specs.declared.segment_index.SegmentIndex.{SegmentIndex}
use Rattle.gated_log.specs.declared.start.Start.{Start}
use Rattle.managed_ledger.specs.Points.{IsTrimPoint, LastBelow, IsLastBelow, counts_with}
use Rattle.managed_ledger.specs.Shape.{total, starts_from, start_at, firsts_of, sizes_of, AreInOrder}
use Rattle.managed_ledger.specs.Totals.{counts_rolled, counts_grown, is_full, not_full}

-- the counts behind an append
pub with_rolled : (n more last : ℕ) (counts : List ℕ) → 0 < more → n ≤ last → counts_with n more (counts ++ last ∷ []) ≡ (counts ++ last ∷ []) ++ more ∷ []
with_rolled n zero last counts some full = absurd (omega (arith, some))
with_rolled n (suc more) last counts some full = counts_rolled n (suc more) last counts (is_full n last full)

pub with_none : (n more last : ℕ) (counts : List ℕ) → more ≡ 0 → (l : ℕ) × (counts_with n more (counts ++ last ∷ []) ≡ counts ++ l ∷ [])
with_none n zero last counts none = (last, refl)
with_none n (suc more) last counts none = absurd (omega (arith, none))

pub with_grown : (n more last : ℕ) (counts : List ℕ) → last < n → (l : ℕ) × (counts_with n more (counts ++ last ∷ []) ≡ counts ++ l ∷ [])
with_grown n zero last counts room = (last, refl)
with_grown n (suc more) last counts room = (last + suc more, counts_grown n (suc more) last counts (not_full n last room))

-- counts that come first
taken_less : (counts : List ℕ) (n m : ℕ) → n ≤ m → total (take n counts) ≤ total (take m counts)
taken_less counts zero m low = omega arith
taken_less [] (suc n) m low = omega arith
taken_less (c ∷ counts) (suc n) zero low = absurd (omega (arith, low))
taken_less (c ∷ counts) (suc n) (suc m) low = omega (arith, taken_less counts n m (omega (arith, low)))

taken_more : (counts : List ℕ) (more n : ℕ) → n ≤ length counts → total (take n (counts ++ more ∷ [])) ≡ total (take n counts)
taken_more counts more n low = ap total (take-append-le n counts (more ∷ []) low)

taken_all : (counts : List ℕ) → total (take (length counts) counts) ≡ total counts
taken_all [] = refl
taken_all (c ∷ counts) = ap (λ (n : ℕ). c + n) (taken_all counts)

-- where a segment begins
pub start_total : (first : ℕ) (indexes : List SegmentIndex) (last k : ℕ) → firsts_of indexes ++ last ∷ [] ≡ starts_from first (sizes_of indexes) → k ≤ length indexes → start_at indexes last k ≡ first + total (take k (sizes_of indexes))
start_total first [] last zero same low = let here : last ≡ first = cc in omega (arith, here)
start_total first [] last (suc k) same low = absurd (omega (arith, low))
start_total first (index ∷ indexes) last zero same low = let here : index.first ≡ first = cc in omega (arith, here)
start_total first (index ∷ indexes) last (suc k) same low =
    omega (arith, start_total (first + length index.places.items) indexes last k (ap (λ (l : List ℕ). drop 1 l) same) (omega (arith, low)))

starts_there : (indexes : List SegmentIndex) (last x k : ℕ) → AreInOrder indexes last → k ≤ length indexes → start_at indexes last k ≡ start_at indexes last 0 + total (take k (sizes_of indexes ++ x ∷ []))
starts_there indexes last x k order low =
    let sizes : length (sizes_of indexes) ≡ length indexes = length-map indexes (λ (index : SegmentIndex). length index.places.items) in
    omega (arith, start_total (start_at indexes last 0) indexes last k order low, taken_more (sizes_of indexes) x k (omega (arith, low, sizes)))

-- a closed segment, where the next one begins behind the limit
pub closed_below : (indexes : List SegmentIndex) (last x limit k start : ℕ) → AreInOrder indexes last → k < length indexes → start ≡ start_at indexes last k → start_at indexes last k ≤ limit → limit < start_at indexes last (k + 1)
    → LastBelow (start_at indexes last 0) (sizes_of indexes ++ x ∷ []) limit k start
closed_below indexes last x limit k start order lt is begins ends =
    let counts = sizes_of indexes ++ x ∷ [] in
    let sizes : length (sizes_of indexes) ≡ length indexes = length-map indexes (λ (index : SegmentIndex). length index.places.items) in
    let next = starts_there indexes last x (k + 1) order (omega (arith, lt)) in
    record {
      there = omega (arith, lt, sizes, length-append (sizes_of indexes) (x ∷ []));
      start_is = omega (arith, is, starts_there indexes last x k order (omega (arith, lt)));
      below = omega (arith, is, begins);
      last = λ other there low. elim (cases_lt k other) [
        | inl behind ↦ absurd (omega (arith, next, ends, low, taken_less counts (k + 1) other (omega (arith, behind))))
        | inr here ↦ here
      ];
    }

-- the last one
pub last_is_below : (indexes : List SegmentIndex) (last x limit number : ℕ) → AreInOrder indexes last → number ≡ length indexes → last ≤ limit → start_at indexes last number ≡ last → LastBelow (start_at indexes last 0) (sizes_of indexes ++ x ∷ []) limit number last
last_is_below indexes last x limit number order is low ends =
    let sizes : length (sizes_of indexes) ≡ length indexes = length-map indexes (λ (index : SegmentIndex). length index.places.items) in
    let all = length-append (sizes_of indexes) (x ∷ []) in
    record {
      there = omega (arith, is, sizes, all);
      start_is = omega (arith, ends, starts_there indexes last x number order (omega (arith, is)));
      below = low;
      last = λ other there _. omega (arith, there, is, sizes, all);
    }

-- a segment more, which begins behind the limit
pub below_before : (base : ℕ) (counts : List ℕ) (limit number start more : ℕ) → limit < base + total counts → LastBelow base counts limit number start → LastBelow base (counts ++ more ∷ []) limit number start
below_before base counts limit number start more high is =
    let all = length-append counts (more ∷ []) in
    record {
      there = omega (arith, is.there, all);
      start_is = omega (arith, is.start_is, taken_more counts more number (omega (arith, is.there)));
      below = is.below;
      last = λ other there low. elim (cases_lt other (length counts)) [
        | inl lt ↦ is.last other lt (omega (arith, low, taken_more counts more other (omega (arith, lt))))
        | inr ge ↦ absurd (omega (arith, high, low, taken_more counts more (length counts) (omega arith), taken_all counts, taken_less (counts ++ more ∷ []) (length counts) other ge))
      ];
    }

-- or at it
pub rolled_below : (base : ℕ) (counts : List ℕ) (limit number start more : ℕ) → number ≡ length counts → start ≡ base + total counts → start ≤ limit → LastBelow base (counts ++ more ∷ []) limit number start
rolled_below base counts limit number start more is start_is low =
    let all = length-append counts (more ∷ []) in
    let taken : total (take number (counts ++ more ∷ [])) ≡ total counts = taken_more counts more number (omega (arith, is)) ∙ ap (λ (n : ℕ). total (take n counts)) is ∙ taken_all counts in
    record {
      there = omega (arith, is, all);
      start_is = omega (arith, start_is, taken);
      below = low;
      last = λ other there _. omega (arith, there, is, all);
    }

pub one_more : (base : ℕ) (counts : List ℕ) (limit more : ℕ) (found : Option (ℕ × ℕ)) → limit < base + total counts → IsLastBelow base counts limit found → IsLastBelow base (counts ++ more ∷ []) limit found
one_more base counts limit more None high is = is
one_more base counts limit more (Some at) high is = below_before base counts limit at.0 at.1 more high is

-- where the ledger would begin
pub no_point_below : (from : Start) (counts : List ℕ) (limit : ℕ) → limit < from.base → IsTrimPoint from counts limit None
no_point_below from counts limit low = λ to begins reach. absurd (omega (arith, low, begins.base_is, reach))

pub no_point_behind : (from : Start) (counts : List ℕ) (limit number start : ℕ) → number ≡ 0 → LastBelow from.base counts limit number start → IsTrimPoint from counts limit None
no_point_behind from counts limit number start none is = λ to begins reach. omega (arith, none, begins.first_is, is.last begins.number begins.there (omega (arith, begins.base_is, reach)))

pub point_at : (from to : Start) (counts : List ℕ) (limit number : ℕ) → to.first ≡ from.first + number → 0 < number → LastBelow from.base counts limit number to.base → IsTrimPoint from counts limit (Some to)
point_at from to counts limit number first_is some is = (
  record { number = number; there = is.there; base_is = is.start_is; first_is = first_is },
  omega (arith, first_is, some),
  is.below,
  λ other begins reach. omega (arith, first_is, begins.first_is, is.last begins.number begins.there (omega (arith, begins.base_is, reach))),
)
