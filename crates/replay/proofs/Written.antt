-- What was written so far, and what a write adds.
use Rattle.std.proofs.Common.{◌≡◌, ℕ, zero, suc, ◌+◌, ◌-◌, List, [], ◌∷◌, ◌++◌, length, take, drop, Option, Some, None, refl, sym, ap, ◌∙◌, subst, append-nil, zero-add, suc-add, add-zero, length-drop, take-append-drop, arith}
use Rattle.std.proofs.lemmas.List.{take_all}
use Rattle.std.specs.Io.KnownBytes.{Appends, Keeps}
use Rattle.std.proofs.KnownBytes.{Appends-trans}
use Rattle.replay.specs.Replay.{IsFront}

-- a take, and a take of the rest
pub take-take-drop : {X : Type 0} (m n : ℕ) (xs : List X) → take m xs ++ take n (drop m xs) ≡ take (m + n) xs
take-take-drop zero n xs = rw zero-add refl
take-take-drop (suc m) zero [] = rw add-zero refl
take-take-drop (suc m) (suc n) [] = rw suc-add refl
take-take-drop (suc m) n (x ∷ xs) = rw suc-add (ap (λ rest. x ∷ rest) (take-take-drop m n xs))

-- what is kept has nothing more
pub Appends-kept_all : (a b : Option (List ℕ)) → Keeps a b → Appends a b []
Appends-kept_all None b h = tt
Appends-kept_all (Some x) None h = absurd h
Appends-kept_all (Some x) (Some y) h = h ∙ sym (append-nil x)

-- a front of a text is a front
pub IsFront-take : (n : ℕ) (text : List ℕ) → IsFront (take n text) text
IsFront-take n text = (drop n text, sym (take-append-drop n text))

-- more was written
pub written_more : (a b c : Option (List ℕ)) (m n : ℕ) (text : List ℕ) → Appends a b (take m text) → Appends b c (take n (drop m text)) → Appends a c (take (m + n) text)
written_more a b c m n text p q = subst (Appends a c) (take-take-drop m n text) (Appends-trans a b c _ _ p q)

-- nothing more was written
pub written_same : (a b c : Option (List ℕ)) (m : ℕ) (text : List ℕ) → Appends a b (take m text) → Appends b c [] → Appends a c (take m text)
written_same a b c m text p q = subst (Appends a c) (append-nil (take m text)) (Appends-trans a b c _ _ p q)

-- the bytes from a place on
pub take-rest : (m : ℕ) (text : List ℕ) → take (length text - m) (drop m text) ≡ drop m text
take-rest m text = take_all (length text - m) (drop m text) (omega (arith, length-drop m text))
