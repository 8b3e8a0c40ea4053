-- Finite sets of positions, as the acknowledged positions of a subscription.
use Rattle.std.specs.Prelude.{◌≡◌, ℕ, ◌+◌, ◌-◌, ◌^◌, ◌<◌, ◌≤◌, Option, None, Some, true, false, not, ◌&&◌, ◌||◌, nat_eq, nat_lt, zero, suc}
use Rattle.std.specs.Ordering.{nat_cmp}
use Rattle.std.specs.Cmp.{nat_cmp_total, unsigned_tied}
use Rattle.std.specs.Coded.{Coded, coded_ℕ}
use Rattle.std.specs.FinSet as set
use Rattle.std.proofs.Common.{arith, ◌∙◌, ap}
use Rattle.std.proofs.lemmas.Bool.Decides.{nat_tests}

abbrev pub Positions : Type 0
Positions = set.FinSet nat_cmp

abbrev pub positions_code : Coded Positions
positions_code = set.code coded_ℕ

-- the positions below `end`
unfoldable pub below : ℕ → Positions
below zero = set.empty
below (suc n) = set.insert (below n) n

-- the positions from `start` on and below `end`
unfoldable pub between : ℕ → ℕ → Positions
between start end = set.difference (below end) (below start)

-- position i is in s
abbrev pub Has : Positions → ℕ → Type 0
Has s i = set.contains s i ≡ true

-- position i isn't in s
abbrev pub Lacks : Positions → ℕ → Type 0
Lacks s i = set.contains s i ≡ false

-- n is the least position from `from` on that isn't in s
pub record IsFirstOpen (s : Positions) (from n : ℕ) : Type 0 where
  pub from_here : from ≤ n
  pub missing : Lacks s n
  pub least : (i : ℕ) → from ≤ i → i < n → Has s i

-- from `first` to `last` lie the first positions of s from `from` on that neighbour each other
pub record IsRun (s : Positions) (from first last : ℕ) : Type 0 where
  pub from_here : from ≤ first
  pub rises : first ≤ last
  pub fits : last < 2 ^ 62
  pub before : (i : ℕ) → from ≤ i → i < first → Lacks s i
  pub inside : (i : ℕ) → first ≤ i → i ≤ last → Has s i
  pub shut : Lacks s (last + 1)

-- the first run of neighbouring positions from `from` on, by its first and its last position
abbrev pub IsNextRun : Positions → ℕ → Option (ℕ × ℕ) → Type 0
IsNextRun s from None = (i : ℕ) → from ≤ i → Lacks s i
IsNextRun s from (Some run) = IsRun s from run.0 run.1

-- how many runs of neighbouring positions lie in s after its first gap: a run begins where the position before it is missing
abbrev pub run_count : Positions → ℕ
run_count s = set.len (set.retain s (λ p. nat_lt 0 p && not (set.contains s (p - 1))))

-- ---- which positions each set has

pub has_empty : (q : ℕ) → set.contains (set.empty {R = nat_cmp}) q ≡ false
has_empty q = set.contains-empty nat_cmp q

pub has_insert : (s : Positions) (k q : ℕ) → set.contains (set.insert s k) q ≡ (nat_eq q k || set.contains s q)
has_insert s k q = set.contains-insert nat_cmp_total s k q ∙ ap (λ b. b || set.contains s q) (unsigned_tied q k)

pub has_union : (s t : Positions) (q : ℕ) → set.contains (set.union s t) q ≡ (set.contains s q || set.contains t q)
has_union s t q = set.contains-union nat_cmp_total s t q

pub has_difference : (s t : Positions) (q : ℕ) → set.contains (set.difference s t) q ≡ (set.contains s q && not (set.contains t q))
has_difference s t q = set.contains-difference nat_cmp_total s t q

below_step : (q n : ℕ) → (nat_eq q n || nat_lt q n) ≡ nat_lt q (suc n)
below_step q n = grind (arith, nat_tests)

below_none : (q : ℕ) → false ≡ nat_lt q 0
below_none q = grind (arith, nat_tests)

pub has_below : (n q : ℕ) → set.contains (below n) q ≡ nat_lt q n
unfolding below
has_below zero q = has_empty q ∙ below_none q
has_below (suc n) q = has_insert (below n) n q ∙ ap (λ b. nat_eq q n || b) (has_below n q) ∙ below_step q n

pub has_between : (a b q : ℕ) → set.contains (between a b) q ≡ (nat_lt q b && not (nat_lt q a))
unfolding between
has_between a b q = has_difference (below b) (below a) q ∙ (λ i. has_below b q i && not (has_below a q i))

-- sets with the same members are equal
pub same_positions : (s t : Positions) → ((q : ℕ) → set.contains s q ≡ set.contains t q) → s ≡ t
same_positions s t same = set.same_set nat_cmp_total set.nat_cmp-IsAntisymmetric s t same

pub ruleset membership = (has_empty, has_insert, has_union, has_difference, has_below, has_between)
