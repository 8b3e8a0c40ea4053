-- A list with another element at a place.
use Rattle.std.proofs.Common.{◌≡◌, ◌≢◌, ◌⊎◌, inl, inr, ⊎_elim, ℕ, ◌<◌, zero, suc, List, [], ◌∷◌, ◌++◌, length, ◌∙◌, Some, map, slice_get, slice_set, slice_index_or, ap, refl, sym, arith}
use Rattle.std.proofs.lemmas.Option.{same_Some, none-some}

-- what stands in it is the other element at that place, or what stood there
pub get_set : {X : Type 0} (xs : List X) (k j : ℕ) (y x : X) → slice_get (slice_set xs k y) j ≡ Some x → ((j ≡ k) × (x ≡ y)) ⊎ ((j ≢ k) × (slice_get xs j ≡ Some x))
get_set [] k j y x is = absurd (none-some x is)
get_set (a ∷ xs) zero zero y x is = inl (refl, sym (same_Some y x is))
get_set (a ∷ xs) zero (suc j) y x is = inr (λ e. omega (arith, e), is)
get_set (a ∷ xs) (suc k) zero y x is = inr (λ e. omega (arith, e), is)
get_set (a ∷ xs) (suc k) (suc j) y x is = ⊎_elim
    (λ at. inl (ap suc at.0, at.1))
    (λ other. inr (λ e. other.0 (omega (arith, e)), other.1))
    (get_set xs k j y x is)

-- two functions that agree on it
pub map_same : {X Y : Type 0} (f g : X → Y) (xs : List X) → ((j : ℕ) (x : X) → slice_get xs j ≡ Some x → g x ≡ f x) → map g xs ≡ map f xs
map_same f g [] same = refl
map_same f g (a ∷ xs) same =
    ap (λ z. z ∷ map g xs) (same zero a refl)
    ∙ ap (λ zs. f a ∷ zs) (map_same f g xs (λ j x is. same (suc j) x is))

-- a function that differs at one place only
pub map_set : {X Y : Type 0} (f g : X → Y) (xs : List X) (k : ℕ) (y : X) → ((j : ℕ) (x : X) → j ≢ k → slice_get xs j ≡ Some x → g x ≡ f x) → map g (slice_set xs k y) ≡ slice_set (map f xs) k (g y)
map_set f g [] k y same = refl
map_set f g (a ∷ xs) zero y same = ap (λ zs. g y ∷ zs) (map_same f g xs (λ j x is. same (suc j) x (λ e. omega (arith, e)) is))
map_set f g (a ∷ xs) (suc k) y same =
    ap (λ z. z ∷ map g (slice_set xs k y)) (same zero a (λ e. omega (arith, e)) refl)
    ∙ ap (λ zs. f a ∷ zs) (map_set f g xs k y (λ j x differ is. same (suc j) x (λ e. differ (omega (arith, e))) is))

-- what stands in a mapped list
pub get_map : {X Y : Type 0} (f : X → Y) (xs : List X) (k : ℕ) (y : Y) → slice_get (map f xs) k ≡ Some y → (x : X) × (slice_get xs k ≡ Some x) × (y ≡ f x)
get_map f [] k y is = absurd (none-some y is)
get_map f (a ∷ xs) zero y is = (a, refl, sym (same_Some (f a) y is))
get_map f (a ∷ xs) (suc k) y is = get_map f xs k y is

pub at_map : {X Y : Type 0} (f : X → Y) (xs : List X) (k : ℕ) (x : X) (d : Y) → slice_get xs k ≡ Some x → slice_index_or (map f xs) k d ≡ f x
at_map f [] k x d is = absurd (none-some x is)
at_map f (a ∷ xs) zero x d is = ap f (same_Some a x is)
at_map f (a ∷ xs) (suc k) x d is = at_map f xs k x d is

pub get_push : {X : Type 0} (xs : List X) (y : X) (j : ℕ) (x : X) → slice_get (xs ++ y ∷ []) j ≡ Some x → ((j ≡ length xs) × (x ≡ y)) ⊎ ((j ≢ length xs) × (slice_get xs j ≡ Some x))
get_push [] y zero x is = inl (refl, sym (same_Some y x is))
get_push [] y (suc j) x is = absurd (none-some x is)
get_push (a ∷ xs) y zero x is = inr (λ e. omega (arith, e), is)
get_push (a ∷ xs) y (suc j) x is = ⊎_elim
    (λ at. inl (ap suc at.0, at.1))
    (λ other. inr (λ e. other.0 (omega (arith, e)), other.1))
    (get_push xs y j x is)

pub got_set : {X : Type 0} (xs : List X) (k : ℕ) (x y : X) → slice_get xs k ≡ Some x → slice_get (slice_set xs k y) k ≡ Some y
got_set [] k x y is = absurd (none-some x is)
got_set (a ∷ xs) zero x y is = refl
got_set (a ∷ xs) (suc k) x y is = got_set xs k x y is

pub same_or_not : (j k : ℕ) → (j ≡ k) ⊎ (j ≢ k)
same_or_not zero zero = inl refl
same_or_not zero (suc k) = inr (λ e. omega (arith, e))
same_or_not (suc j) zero = inr (λ e. omega (arith, e))
same_or_not (suc j) (suc k) = ⊎_elim (λ e. inl (ap suc e)) (λ d. inr (λ e. d (omega (arith, e)))) (same_or_not j k)

-- a place that isn't there
pub set_beyond : {X : Type 0} (xs : List X) (k : ℕ) (y : X) → ¬ (k < length xs) → slice_set xs k y ≡ xs
set_beyond [] k y beyond = refl
set_beyond (a ∷ xs) zero y beyond = absurd (beyond (omega arith))
set_beyond (a ∷ xs) (suc k) y beyond = ap (λ zs. a ∷ zs) (set_beyond xs k y (λ low. beyond (omega (arith, low))))

-- what each of them has, and what stands for those that aren't there, this place has
pub at_each : {X Y : Type 0} (P : Y → Type 0) (f : X → Y) (xs : List X) (k : ℕ) (d : Y) → P d → ((j : ℕ) (x : X) → slice_get xs j ≡ Some x → P (f x)) → P (slice_index_or (map f xs) k d)
at_each P f [] k d none each = none
at_each P f (a ∷ xs) zero d none each = each zero a refl
at_each P f (a ∷ xs) (suc k) d none each = at_each P f xs k d none (λ j x is. each (suc j) x is)

pub get_at : {X : Type 0} (xs : List X) (k : ℕ) → k < length xs → (x : X) × (slice_get xs k ≡ Some x)
get_at [] k low = absurd (omega (arith, low))
get_at (a ∷ xs) zero low = (a, refl)
get_at (a ∷ xs) (suc k) low = get_at xs k (omega (arith, low))
