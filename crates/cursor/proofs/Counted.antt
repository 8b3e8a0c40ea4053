-- How many ranges there are.
use Rattle.std.proofs.Common.{◌≡◌, ℕ, ◌+◌, ◌-◌, ◌<◌, ◌≤◌, false, not, nat_lt, nat_eq, cond, ◌||◌, ◌&&◌, ◌∙◌, ap, sym, refl, arith, add-one, Bool, List, [], ◌∷◌, length, inl, inr}
use Rattle.std.proofs.lemmas.Bool.Decides.{nat_tests, leb_tells}
use Rattle.std.specs.Ordering.{nat_cmp}
use Rattle.std.specs.Cmp.{nat_cmp_total}
use Rattle.std.specs.FinSet as set
use Rattle.cursor.specs.Positions.{Positions, run_count, has_empty, has_insert, same_positions}
use Rattle.cursor.specs.Ranged.{Ranges, ranged, in_ranges, has_ranged, IsApart}
use Rattle.cursor.proofs.Behind.{none_before}

abbrev starts : Ranges → List ℕ
starts [] = []
starts (r ∷ rs) = r.1 ∷ starts rs

abbrev is_start : Ranges → ℕ → Bool
is_start [] q = false
is_start (r ∷ rs) q = nat_eq q r.1 || is_start rs q

has_starts : (rs : Ranges) (q : ℕ) → set.contains (set.from_list {R = nat_cmp} (starts rs)) q ≡ is_start rs q
has_starts [] q = has_empty q
has_starts (r ∷ rs) q = has_insert (set.from_list (starts rs)) r.1 q ∙ ap (λ b. nat_eq q r.1 || b) (has_starts rs q)

no_start_before : (mark : ℕ) (rs : Ranges) (q : ℕ) → IsApart mark rs → q ≤ mark → is_start rs q ≡ false
no_start_before mark [] q apart low = refl
no_start_before mark (r ∷ rs) q apart low = let rest = no_start_before r.0 rs q apart.2 (omega arith) in grind (arith, nat_tests)

len_starts : (mark : ℕ) (rs : Ranges) → IsApart mark rs → set.len (set.from_list {R = nat_cmp} (starts rs)) ≡ length rs
len_starts mark [] apart = set.len-empty nat_cmp
len_starts mark (r ∷ rs) apart =
    let new = has_starts rs r.1 ∙ no_start_before r.0 rs r.1 apart.2 (omega arith) in
    set.len-insert nat_cmp_total (set.from_list (starts rs)) r.1
    ∙ ap (λ b. cond b (set.len (set.from_list {R = nat_cmp} (starts rs))) (set.len (set.from_list {R = nat_cmp} (starts rs)) + 1)) new
    ∙ ap (λ n. n + 1) (len_starts r.0 rs apart.2)
    ∙ add-one (length rs)

-- whether a run begins at q, where the mark is at m and the ranges have q or not, and the position before it or not
abbrev begins : ℕ → ℕ → Bool → Bool → Bool
begins mark q here before = (nat_lt q mark || here) && (nat_lt 0 q && not (nat_lt (q - 1) mark || before))

begins_none : (mark q : ℕ) → begins mark q false false ≡ false
begins_none mark q = grind (arith, nat_tests)

begins_low : (mark q : ℕ) (r : ℕ × ℕ) (here before start : Bool) → mark < r.1 → r.1 < r.0 → q ≤ r.0 → here ≡ false → before ≡ false → start ≡ false → begins mark q ((nat_lt q r.0 && not (nat_lt q r.1)) || here) ((nat_lt (q - 1) r.0 && not (nat_lt (q - 1) r.1)) || before) ≡ (nat_eq q r.1 || start)
begins_low mark q r here before start a b c h p s = rw (h, p, s) (grind (arith, nat_tests))

begins_high : (mark q : ℕ) (r : ℕ × ℕ) (here before start : Bool) → mark < r.1 → r.1 < r.0 → r.0 < q → begins r.0 q here before ≡ start → begins mark q ((nat_lt q r.0 && not (nat_lt q r.1)) || here) ((nat_lt (q - 1) r.0 && not (nat_lt (q - 1) r.1)) || before) ≡ (nat_eq q r.1 || start)
begins_high mark q r here before start a b c s = grind (arith, nat_tests)

runs_begin : (mark : ℕ) (rs : Ranges) (q : ℕ) → IsApart mark rs → begins mark q (in_ranges rs q) (in_ranges rs (q - 1)) ≡ is_start rs q
runs_begin mark [] q apart = begins_none mark q
runs_begin mark (r ∷ rs) q apart =
    elim (leb_tells q r.0) [
      | inl low ↦ begins_low mark q r (in_ranges rs q) (in_ranges rs (q - 1)) (is_start rs q) apart.0 apart.1 low.1 (none_before r.0 rs q apart.2 low.1) (none_before r.0 rs (q - 1) apart.2 (omega arith)) (no_start_before r.0 rs q apart.2 low.1)
      | inr high ↦ begins_high mark q r (in_ranges rs q) (in_ranges rs (q - 1)) (is_start rs q) apart.0 apart.1 high.1 (runs_begin r.0 rs q apart.2)
    ]

pub run_count_ranged : (mark : ℕ) (rs : Ranges) → IsApart mark rs → run_count (ranged mark rs) ≡ length rs
run_count_ranged mark rs apart =
    let s : Positions = ranged mark rs in
    let begins_run : ℕ → Bool = λ p. nat_lt 0 p && not (set.contains s (p - 1)) in
    ap set.len (same_positions (set.retain s begins_run) (set.from_list (starts rs)) (λ q.
    set.contains-retain s begins_run q (λ x tied. ap begins_run (sym (set.nat_cmp-IsAntisymmetric q x tied)))
    ∙ (λ i. has_ranged mark rs q i && (nat_lt 0 q && not (has_ranged mark rs (q - 1) i)))
    ∙ runs_begin mark rs q apart
    ∙ sym (has_starts rs q)))
    ∙ len_starts mark rs apart
