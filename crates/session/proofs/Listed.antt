-- A list of a session's consumers, as it is made.
use Rattle.std.proofs.Common.{◌≡◌, ◌∙◌, ◌<◌, ℕ, zero, suc, List, [], ◌∷◌, ◌++◌, length, get_or, refl, sym, ap, subst, arith}
use Rattle.session.specs.declared.entry.Entry.{Entry}

-- the first so many consumers are listed
abbrev pub AreListed : List Entry → ℕ → List Entry → Type 0
AreListed xs zero ys = ys ≡ []
AreListed [] (suc n) ys = ⊥
AreListed (x ∷ xs) (suc n) [] = ⊥
AreListed (x ∷ xs) (suc n) (y ∷ ys) = (y ≡ x) × AreListed xs n ys

-- one more
pub listed-more : (xs : List Entry) (n : ℕ) (ys : List Entry) (x y : Entry) → AreListed xs n ys → n < length xs → x ≡ get_or xs n x → y ≡ x → AreListed xs (suc n) (ys ++ y ∷ [])
listed-more [] n ys x y h within is same = absurd (omega (arith, within))
listed-more (z ∷ zs) zero ys x y h within is same = subst (λ us. AreListed (z ∷ zs) (suc zero) (us ++ y ∷ [])) (sym h) (same ∙ is, refl)
listed-more (z ∷ zs) (suc n) [] x y h within is same = absurd h
listed-more (z ∷ zs) (suc n) (u ∷ us) x y h within is same = (h.0, listed-more zs n us x y h.1 (omega (arith, within)) is same)

-- all
pub listed-all : (xs ys : List Entry) → AreListed xs (length xs) ys → ys ≡ xs
listed-all [] ys h = h
listed-all (x ∷ xs) [] h = absurd h
listed-all (x ∷ xs) (y ∷ ys) h = ap (λ z. z ∷ ys) h.0 ∙ ap (λ zs. x ∷ zs) (listed-all xs ys h.1)

pub listed-length : (xs : List Entry) (n : ℕ) (ys : List Entry) → AreListed xs n ys → length ys ≡ n
listed-length xs zero ys h = ap length h
listed-length [] (suc n) ys h = absurd h
listed-length (x ∷ xs) (suc n) [] h = absurd h
listed-length (x ∷ xs) (suc n) (y ∷ ys) h = ap (λ k. suc k) (listed-length xs n ys h.1)
