-- Where the first element stands that passes a test, and an element that is set to what it was.
use Rattle.std.proofs.Common.{◌≡◌, ◌∙◌, ℕ, ap, get_or, set, ◌+◌, ◌≤◌, List, [], ◌∷◌, Bool, true, false, not, cond, length, arith}
use Rattle.std.specs.List.{position_or_len, prefix_len}
use Rattle.std.proofs.lemmas.List.{set-get_or}

prefix-within : {X : Type 0} (p : X → Bool) (xs : List X) → prefix_len p xs ≤ length xs
prefix-within p [] = omega arith
prefix-within p (x ∷ xs) = elim (p x) as (λ b. cond b (1 + prefix_len p xs) 0 ≤ length (x ∷ xs)) [
  | true ↦ omega (arith, prefix-within p xs)
  | false ↦ omega arith
]

-- it is no more than the length
pub position-within : {X : Type 0} (p : X → Bool) (xs : List X) → position_or_len p xs ≤ length xs
position-within p xs = prefix-within (λ x. not (p x)) xs

-- it changes nothing
pub set_same : {X : Type 0} (xs : List X) (place : ℕ) (x y : X) → x ≡ get_or xs place x → y ≡ x → set xs place y ≡ xs
set_same xs place x y read is = ap (λ z. set xs place z) (is ∙ read) ∙ set-get_or xs place x
