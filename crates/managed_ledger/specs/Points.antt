-- Where a ledger may begin once its first segments are gone.
use Rattle.std.specs.Prelude.{◌≡◌, ℕ, zero, suc, ◌+◌, ◌<◌, ◌≤◌, List, length, take, Option, None, Some}
use Rattle.gated_log.specs.declared.start.Start.{Start}
use Rattle.managed_ledger.specs.Shape.{total, counts_after}

-- how many entries each segment has once so many more are appended; where there are none, nothing is appended
abbrev pub counts_with : ℕ → ℕ → List ℕ → List ℕ
counts_with n zero counts = counts
counts_with n (suc more) counts = counts_after n (suc more) counts

-- of segments that have these counts, the first of which begins at `from`, one begins there
pub record Begins (from : Start) (counts : List ℕ) (to : Start) : Type 0 where
  pub number : ℕ
  pub there : number < length counts
  pub base_is : to.base ≡ from.base + total (take number counts)
  pub first_is : to.first ≡ from.first + number

-- The last of these segments that begins at or below a limit: all before it lie below the limit whole. None where there are none
-- before it.
abbrev pub IsTrimPoint : Start → List ℕ → ℕ → Option Start → Type 0
IsTrimPoint from counts limit None = (to : Start) → Begins from counts to → to.base ≤ limit → to.first ≤ from.first
IsTrimPoint from counts limit (Some to) =
    Begins from counts to × (from.first < to.first) × (to.base ≤ limit) × ((other : Start) → Begins from counts other → other.base ≤ limit → other.first ≤ to.first)

-- the same segment, by its number, counted from the first one, and where it begins
pub record LastBelow (base : ℕ) (counts : List ℕ) (limit number start : ℕ) : Type 0 where
  pub there : number < length counts
  pub start_is : start ≡ base + total (take number counts)
  pub below : start ≤ limit
  pub last : (other : ℕ) → other < length counts → base + total (take other counts) ≤ limit → other ≤ number

-- or none, where all of them begin behind the limit
abbrev pub IsLastBelow : ℕ → List ℕ → ℕ → Option (ℕ × ℕ) → Type 0
IsLastBelow base counts limit None = limit < base
IsLastBelow base counts limit (Some at) = LastBelow base counts limit at.0 at.1
