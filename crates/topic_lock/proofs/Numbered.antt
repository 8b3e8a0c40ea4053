-- Topics by their numbers, as one comes behind the others, and by the place where one stands.
use Rattle.std.proofs.Common.{◌≡◌, ℕ, zero, suc, ◌+◌, ◌<◌, Some, List, [], ◌∷◌, ◌++◌, length, drop, get_or, slice_get, refl, ap, ◌∙◌, arith, length-append, nat_eq, true}
use Rattle.std.proofs.lemmas.Bool.Decides.{nat_tests}
use Rattle.topic_lock.specs.Places.{AreNumberedFrom}

pub one_longer : {X : Type 0} (xs ys : List X) (x : X) → ys ≡ xs ++ x ∷ [] → length ys ≡ length xs + 1
one_longer xs ys x is = ap (λ l. length l) is ∙ length-append xs (x ∷ [])

pub same_number : (a b : ℕ) → nat_eq a b ≡ true → a ≡ b
same_number a b is = grind (arith, nat_tests)

module _ {X : Type 0} (number : X → ℕ) where
  first_is : (first : ℕ) (x : X) (xs : List X) → AreNumberedFrom number first (x ∷ xs) → number x ≡ first
  first_is first x xs all = ap (λ (l : List ℕ). get_or l 0 0) all

  others_are : (first : ℕ) (x : X) (xs : List X) → AreNumberedFrom number first (x ∷ xs) → AreNumberedFrom number (first + 1) xs
  others_are first x xs all = ap (λ (l : List ℕ). drop 1 l) all

  both_are : (first : ℕ) (x : X) (xs : List X) → number x ≡ first → AreNumberedFrom number (first + 1) xs → AreNumberedFrom number first (x ∷ xs)
  both_are first x xs is are = λ i. is i ∷ are i

  pub one_behind : (first : ℕ) (xs : List X) (x : X) → number x ≡ first + length xs → AreNumberedFrom number first xs → AreNumberedFrom number first (xs ++ x ∷ [])
  one_behind first [] x is all = both_are first x [] (omega (arith, is)) refl
  one_behind first (y ∷ xs) x is all = both_are first y (xs ++ x ∷ []) (first_is first y xs all) (one_behind (first + 1) xs x (omega (arith, is)) (others_are first y xs all))

  pub number_at : (first : ℕ) (xs : List X) (i : ℕ) (x : X) → i < length xs → x ≡ get_or xs i x → AreNumberedFrom number first xs → number x ≡ first + i
  number_at first [] i x low read all = absurd (omega (arith, low))
  number_at first (y ∷ xs) zero x low read all = let one : number x ≡ first = ap number read ∙ first_is first y xs all in omega (arith, one)
  number_at first (y ∷ xs) (suc i) x low read all =
      let later : number x ≡ (first + 1) + i = number_at (first + 1) xs i x (omega (arith, low)) read (others_are first y xs all) in omega (arith, later)

  -- topics that have their numbers one by one
  pub in_order : (first : ℕ) (xs : List X) → ((i : ℕ) (x : X) → slice_get xs i ≡ Some x → number x ≡ first + i) → AreNumberedFrom number first xs
  in_order first [] each = refl
  in_order first (x ∷ xs) each =
      both_are first x xs (let one : number x ≡ first + 0 = each 0 x refl in omega (arith, one))
      (in_order (first + 1) xs (λ i y at. let later : number y ≡ first + suc i = each (suc i) y at in omega (arith, later)))
