-- Which topics are noted when consumers come and go, and what it means that these are quiet.
use Rattle.std.proofs.Common.{◌≡◌, ◌∙◌, ◌≤◌, ℕ, zero, suc, List, [], ◌∷◌, ◌++◌, length, take, drop, Bool, true, false, cond, refl, sym, ap, subst, arith}
use Rattle.std.specs.Prelude.{All, Contains, nat_eq, ◌||◌, filter}
use Rattle.std.specs.List.{insert, remove, items_where_true}
use Rattle.std.proofs.lemmas.List.Elements.{All-nil, All-cons, All-head, All-tail, All-weaker, All-append, All-take, All-drop, All-contains, Contains-append_left, Contains-append_right}
use Rattle.std.proofs.lemmas.Bool.Decides.{nat_tests}
use Rattle.session.specs.declared.entry.Entry.{Entry}
use Rattle.session.specs.Noting.{AreNoted}
use Rattle.session.specs.Table.{has_topic}

-- what passes a test stays
here : (p : ℕ → Bool) (x : ℕ) (xs : List ℕ) → p x ≡ true → Contains (filter p (x ∷ xs)) x
here p x xs passes = subst (λ b. Contains (cond b (x ∷ filter p xs) (filter p xs)) x) (sym passes) (0, omega arith, refl)

behind : (p : ℕ → Bool) (x : ℕ) (xs : List ℕ) (y : ℕ) → Contains (filter p xs) y → Contains (filter p (x ∷ xs)) y
behind p x xs y h = elim (p x) as (λ b. Contains (cond b (x ∷ filter p xs) (filter p xs)) y) [
  | true ↦ Contains-append_right (x ∷ []) (filter p xs) y h
  | false ↦ h
]

passing : (p : ℕ → Bool) (xs : List ℕ) → All (λ y. p y ≡ true → Contains (filter p xs) y) xs
passing p [] = All-nil (λ y. p y ≡ true → Contains (filter p []) y)
passing p (x ∷ xs) =
    let P : ℕ → Type 0 = λ y. p y ≡ true → Contains (filter p (x ∷ xs)) y in
    All-cons P x xs (here p x xs) (All-weaker (λ y. p y ≡ true → Contains (filter p xs) y) P (λ y h passes. behind p x xs y (h passes)) xs (passing p xs))

-- each consumer has its topic
or_true : (b : Bool) → (b || true) ≡ true
or_true true = refl
or_true false = refl

eq_itself : (n : ℕ) → nat_eq n n ≡ true
eq_itself n = grind (arith, nat_tests)

has_own : (consumers : List Entry) → All (λ (c : Entry). has_topic consumers c.topic ≡ true) consumers
has_own [] = All-nil (λ (c : Entry). has_topic [] c.topic ≡ true)
has_own (x ∷ xs) =
    let P : Entry → Type 0 = λ c. has_topic (x ∷ xs) c.topic ≡ true in
    All-cons P x xs (ap (λ b. b || has_topic xs x.topic) (eq_itself x.topic))
    (All-weaker (λ (c : Entry). has_topic xs c.topic ≡ true) P (λ c h. ap (λ b. nat_eq x.topic c.topic || b) h ∙ or_true (nat_eq x.topic c.topic)) xs (has_own xs))

-- a topic that a consumer has is kept
pub noted-kept : (topics : List ℕ) (consumers : List Entry) → AreNoted topics consumers → AreNoted (filter (has_topic consumers) topics) consumers
noted-kept topics consumers h = λ k d within.
    All-contains (λ y. has_topic consumers y ≡ true → Contains (filter (has_topic consumers) topics) y) topics _ (passing (has_topic consumers) topics) (h k d within) (has_own consumers k d within)

-- one topic more
pub noted-more : (topics : List ℕ) (topic : ℕ) (consumers : List Entry) → AreNoted topics consumers → AreNoted (topics ++ topic ∷ []) consumers
noted-more topics topic consumers h = λ k d within. Contains-append_left topics (topic ∷ []) _ (h k d within)

-- some consumers fewer
pub all-where_true : {X : Type 0} (P : X → Type 0) (bs : List Bool) (xs : List X) → All P xs → All P (items_where_true bs xs)
all-where_true P [] xs h = All-nil P
all-where_true P (b ∷ bs) [] h = All-nil P
all-where_true P (true ∷ bs) (x ∷ xs) h = All-cons P x (items_where_true bs xs) (All-head P x xs h) (all-where_true P bs xs (All-tail P x xs h))
all-where_true P (false ∷ bs) (x ∷ xs) h = all-where_true P bs xs (All-tail P x xs h)

-- a consumer more whose topic is noted, and one fewer
pub noted-insert : (topics : List ℕ) (consumers : List Entry) (place : ℕ) (consumer : Entry) → Contains topics consumer.topic → AreNoted topics consumers → AreNoted topics (insert consumers place consumer)
noted-insert topics consumers place consumer noted h =
    let P : Entry → Type 0 = λ c. Contains topics c.topic in
    All-append P (take place consumers) (consumer ∷ drop place consumers) (All-take P place consumers h) (All-cons P consumer (drop place consumers) noted (All-drop P place consumers h))

pub noted-remove : (topics : List ℕ) (consumers : List Entry) (place : ℕ) → AreNoted topics consumers → AreNoted topics (remove consumers place)
noted-remove topics consumers place h =
    let P : Entry → Type 0 = λ c. Contains topics c.topic in
    All-append P (take place consumers) (drop (suc place) consumers) (All-take P place consumers h) (All-drop P (suc place) consumers h)

-- what was inserted and is removed again leaves no trace
pub remove-insert : {X : Type 0} (xs : List X) (place : ℕ) (x : X) → place ≤ length xs → remove (insert xs place x) place ≡ xs
remove-insert xs zero x within = refl
remove-insert [] (suc place) x within = absurd (omega (arith, within))
remove-insert (y ∷ ys) (suc place) x within = ap (λ zs. y ∷ zs) (remove-insert ys place x (omega (arith, within)))
