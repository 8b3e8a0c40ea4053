-- How a broker's topics change where one does.
use Rattle.std.proofs.Common.{◌≡◌, ℕ, zero, suc, List, [], ◌∷◌, ◌++◌, map, get_or, set, refl}
use Rattle.topic_core.specs.State.{Topic}

-- another place of the list, or this one: it is set if it is there
pub set_at : (R : Topic → Topic → Type 0) → ((t : Topic) → R t t) → (topics : List Topic) (at number : ℕ) (t other : Topic) → R (get_or topics at other) t → R (get_or topics number other) (get_or (set topics at t) number other)
set_at R same [] at number t other moved = same other
set_at R same (x ∷ xs) zero zero t other moved = moved
set_at R same (x ∷ xs) zero (suc number) t other moved = same (get_or xs number other)
set_at R same (x ∷ xs) (suc at) zero t other moved = same x
set_at R same (x ∷ xs) (suc at) (suc number) t other moved = set_at R same xs at number t other moved

-- each is changed, but what isn't there
pub map_at : (R : Topic → Topic → Type 0) → ((t : Topic) → R t t) → (f : Topic → Topic) → ((t : Topic) → R t (f t)) → (topics : List Topic) (number : ℕ) (other : Topic) → R (get_or topics number other) (get_or (map f topics) number other)
map_at R same f moved [] number other = same other
map_at R same f moved (x ∷ xs) zero other = moved x
map_at R same f moved (x ∷ xs) (suc number) other = map_at R same f moved xs number other

-- one more that is as those that aren't there
pub one_more_at : {X : Type 0} (topics : List X) (number : ℕ) (other : X) → get_or (topics ++ other ∷ []) number other ≡ get_or topics number other
one_more_at [] zero other = refl
one_more_at [] (suc number) other = refl
one_more_at (x ∷ xs) zero other = refl
one_more_at (x ∷ xs) (suc number) other = one_more_at xs number other

-- more of them
pub more_at : {X : Type 0} (topics : List Topic) (more : List X) (number : ℕ) (other : Topic) → get_or (topics ++ map (λ x. other) more) number other ≡ get_or topics number other
more_at [] [] number other = refl
more_at [] (x ∷ xs) zero other = refl
more_at [] (x ∷ xs) (suc number) other = more_at [] xs number other
more_at (t ∷ ts) more zero other = refl
more_at (t ∷ ts) more (suc number) other = more_at ts more number other
