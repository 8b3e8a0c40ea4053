-- A list whose first elements are changed.
use Rattle.std.proofs.Common.{◌≡◌, ℕ, zero, suc, ◌+◌, ◌-◌, ◌≤◌, List, [], ◌∷◌, ◌++◌, length, take, map, get_or, set, drop, refl, ap, sym, ◌∙◌, arith, add-one}
use Rattle.std.proofs.lemmas.List.{drop-drop, take-append-drop, length-drop, length-take-le}

-- f at the first n elements
abbrev pub firsts : {A : Type 0} → (A → A) → ℕ → List A → List A
firsts f zero xs = xs
firsts f (suc n) [] = []
firsts f (suc n) (x ∷ xs) = f x ∷ firsts f n xs

more : {A : Type 0} (f : A → A) (n : ℕ) (xs : List A) (d : A) → set (firsts f n xs) n (f (get_or (firsts f n xs) n d)) ≡ firsts f (suc n) xs
more f zero [] d = refl
more f zero (x ∷ xs) d = refl
more f (suc n) [] d = refl
more f (suc n) (x ∷ xs) d = ap (λ ys. f x ∷ ys) (more f n xs d)

-- one more
pub firsts-more : {A : Type 0} (f : A → A) (n : ℕ) (xs : List A) (d : A) → set (firsts f n xs) n (f (get_or (firsts f n xs) n d)) ≡ firsts f (n + 1) xs
firsts-more f n xs d = more f n xs d ∙ ap (λ k. firsts f k xs) (sym (add-one n))

-- all
pub firsts-all : {A : Type 0} (f : A → A) (n : ℕ) (xs : List A) → length xs ≤ n → firsts f n xs ≡ map f xs
firsts-all f zero [] h = refl
firsts-all f zero (x ∷ xs) h = absurd (omega arith)
firsts-all f (suc n) [] h = refl
firsts-all f (suc n) (x ∷ xs) h = ap (λ ys. f x ∷ ys) (firsts-all f n xs (omega arith))

-- the element at n is read, changed and written back
pub firsts-next : {A : Type 0} (f : A → A) (n : ℕ) (xs ys : List A) (d e : A) → ys ≡ firsts f n xs → d ≡ get_or ys n d → e ≡ f d → set ys n e ≡ firsts f (n + 1) xs
firsts-next f n xs ys d e is read new =
    ap (λ x. set ys n x) (new ∙ ap f read) ∙ ap (λ zs. set zs n (f (get_or zs n d))) is ∙ firsts-more f n xs d

-- two steps of drop are one
pub drop-add : {A : Type 0} (n m : ℕ) (xs : List A) → drop (n + m) xs ≡ drop m (drop n xs)
drop-add n m xs = sym (drop-drop m n xs)

-- what stands behind the first d elements is changed, and read
set-behind : {A : Type 0} (xs ys : List A) (n k : ℕ) (e : A) → n ≡ length xs + k → set (xs ++ ys) n e ≡ xs ++ set ys k e
set-behind [] ys n k e is = ap (λ m. set ys m e) (omega (arith, is))
set-behind (x ∷ xs) ys n k e is =
    let one : n ≡ suc (length xs + k) = omega (arith, is) in
    ap (λ m. set (x ∷ xs ++ ys) m e) one ∙ ap (λ zs. x ∷ zs) (set-behind xs ys (length xs + k) k e refl)

get-behind : {A : Type 0} (xs ys : List A) (n k : ℕ) (d : A) → n ≡ length xs + k → get_or (xs ++ ys) n d ≡ get_or ys k d
get-behind [] ys n k d is = ap (λ m. get_or ys m d) (omega (arith, is))
get-behind (x ∷ xs) ys n k d is =
    let one : n ≡ suc (length xs + k) = omega (arith, is) in
    ap (λ m. get_or (x ∷ xs ++ ys) m d) one ∙ get-behind xs ys (length xs + k) k d refl

-- f at the elements from d on, up to n
abbrev pub firsts_behind : {A : Type 0} → (A → A) → ℕ → ℕ → List A → List A
firsts_behind f d n xs = take d xs ++ firsts f (n - d) (drop d xs)

pub behind-next : {A : Type 0} (f : A → A) (d n : ℕ) (xs ys : List A) (r e : A) → d ≤ n → d ≤ length xs → ys ≡ firsts_behind f d n xs → r ≡ get_or ys n r → e ≡ f r → set ys n e ≡ firsts_behind f d (n + 1) xs
behind-next f d n xs ys r e low fits is read new =
    let front : length (take d xs) ≡ d = length-take-le d xs fits in
    let place : n ≡ length (take d xs) + (n - d) = omega (arith, front, low) in
    let zs = firsts f (n - d) (drop d xs) in
    let here : r ≡ get_or zs (n - d) r = read ∙ ap (λ qs. get_or qs n r) is ∙ get-behind (take d xs) zs n (n - d) r place in
    let next : (n - d) + 1 ≡ (n + 1) - d = omega (arith, low) in
    ap (λ qs. set qs n e) is ∙ set-behind (take d xs) zs n (n - d) e place
    ∙ ap (λ qs. take d xs ++ qs) (firsts-next f (n - d) (drop d xs) zs r e refl here new ∙ ap (λ k. firsts f k (drop d xs)) next)

pub behind-none : {A : Type 0} (f : A → A) (d : ℕ) (xs : List A) → firsts_behind f d d xs ≡ xs
behind-none f d xs = let none : d - d ≡ 0 = omega arith in ap (λ k. take d xs ++ firsts f k (drop d xs)) none ∙ take-append-drop d xs

pub behind-all : {A : Type 0} (f : A → A) (d n : ℕ) (xs : List A) → length xs ≤ n → firsts_behind f d n xs ≡ take d xs ++ map f (drop d xs)
behind-all f d n xs h = ap (λ qs. take d xs ++ qs) (firsts-all f (n - d) (drop d xs) (omega (arith, length-drop d xs, h)))
