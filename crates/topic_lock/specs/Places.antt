-- The topics that are there, by their numbers.
use Rattle.std.specs.Prelude.{◌≡◌, ℕ, zero, suc, ◌+◌, List, [], ◌∷◌, length, map}

-- so many numbers, one by one, from this one on
abbrev pub numbers_from : ℕ → ℕ → List ℕ
numbers_from first zero = []
numbers_from first (suc count) = first ∷ numbers_from (first + 1) count

-- each has the number of its place, which are counted from this one on
abbrev pub AreNumberedFrom : {X : Type 0} → (X → ℕ) → ℕ → List X → Type 0
AreNumberedFrom number first xs = map number xs ≡ numbers_from first (length xs)
