-- How many messages entries have.
use Rattle.std.proofs.Common.{ℕ, zero, suc, ◌+◌, ◌≤◌, List, [], ◌∷◌, ◌++◌, drop, arith}
use Rattle.std.specs.Prelude.{replicate, slice_index}
use Rattle.std.specs.List.{AllByRecursion}
use Rattle.subscriptions.specs.Marks.{IsCount}

abbrev AreCounts : List ℕ → Type 0
AreCounts counts = AllByRecursion IsCount counts

pub few_at : (counts : List ℕ) (i : ℕ) → AreCounts counts → slice_index counts i ≤ 1048576
few_at [] zero all = omega arith
few_at [] (suc i) all = omega arith
few_at (n ∷ counts) zero all = all.0.1
few_at (n ∷ counts) (suc i) all = few_at counts i all.1

pub counts_joined : (counts more : List ℕ) → AreCounts counts → AreCounts more → AreCounts (counts ++ more)
counts_joined [] more all those = those
counts_joined (n ∷ counts) more all those = (all.0, counts_joined counts more all.1 those)

counts_left : (position : ℕ) (counts : List ℕ) → AreCounts counts → AreCounts (drop position counts)
counts_left zero counts all = all
counts_left (suc position) [] all = tt
counts_left (suc position) (n ∷ counts) all = counts_left position counts all.1

pub of_one : (position : ℕ) → AreCounts (replicate position 1)
of_one zero = tt
of_one (suc position) = ((omega arith, omega arith), of_one position)

pub counts_forgotten : (position : ℕ) (counts : List ℕ) → AreCounts counts → AreCounts (replicate position 1 ++ drop position counts)
counts_forgotten position counts all = counts_joined (replicate position 1) (drop position counts) (of_one position) (counts_left position counts all)

-- who has a permit left may get a whole entry
pub sends_within : (sent granted n : ℕ) → n ≤ 1048576 → sent + 1 ≤ granted → sent + n ≤ granted + 1048575
sends_within sent granted n few left = omega (arith, few, left)
