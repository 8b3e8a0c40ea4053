-- A list whose first elements are changed, for a session that leaves one topic after another.
use Rattle.std.proofs.Common.{◌≡◌, ℕ, zero, suc, ◌+◌, ◌≤◌, List, [], ◌∷◌, length, map, get_or, set, refl, ap, sym, ◌∙◌, arith, add-one}
use Rattle.topic_core.specs.State.{Topic}
use Rattle.topic_core.specs.Steps.{left}
use Rattle.session.specs.Broker.{Broker, fresh, left_at, left_all}

-- f at the first n elements
abbrev pub firsts : {A : Type 0} → (A → A) → ℕ → List A → List A
firsts f zero xs = xs
firsts f (suc n) [] = []
firsts f (suc n) (x ∷ xs) = f x ∷ firsts f n xs

-- one more
pub firsts-more : {A : Type 0} (f : A → A) (n : ℕ) (xs : List A) (d : A) → set (firsts f n xs) n (f (get_or (firsts f n xs) n d)) ≡ firsts f (suc n) xs
firsts-more f zero [] d = refl
firsts-more f zero (x ∷ xs) d = refl
firsts-more f (suc n) [] d = refl
firsts-more f (suc n) (x ∷ xs) d = ap (λ ys. f x ∷ ys) (firsts-more f n xs d)

-- all
pub firsts-all : {A : Type 0} (f : A → A) (n : ℕ) (xs : List A) → length xs ≤ n → firsts f n xs ≡ map f xs
firsts-all f zero [] h = refl
firsts-all f zero (x ∷ xs) h = absurd (omega arith)
firsts-all f (suc n) [] h = refl
firsts-all f (suc n) (x ∷ xs) h = ap (λ ys. f x ∷ ys) (firsts-all f n xs (omega arith))

-- the session left the topics of the first n numbers
abbrev pub first_left : ℕ → Broker → ℕ → Broker
first_left n b who = record b { topics = firsts (λ t. left t who) n b.topics }

pub first_left-more : (n : ℕ) (b : Broker) (who : ℕ) (old new : Broker) → old ≡ first_left n b who → new ≡ left_at old n who → new ≡ first_left (n + 1) b who
first_left-more n b who old new is step =
    step ∙ ap (λ (x : Broker). left_at x n who) is
    ∙ ap (λ (ts : List Topic). let x : Broker = record b { topics = ts } in x) (firsts-more (λ t. left t who) n b.topics (fresh b.per_ledger) ∙ ap (λ k. firsts (λ t. left t who) k b.topics) (sym (add-one n)))

pub first_left-all : (n : ℕ) (b : Broker) (who : ℕ) (new : Broker) → length b.topics ≤ n → new ≡ first_left n b who → new ≡ left_all b who
first_left-all n b who new h is = is ∙ ap (λ (ts : List Topic). let x : Broker = record b { topics = ts } in x) (firsts-all (λ t. left t who) n b.topics h)
