-- Numbers of sessions, each once.
use Rattle.std.proofs.Common.{◌≡◌, ℕ, zero, suc, ◌<◌, Bool, true, false, cond, nat_eq, nat_lt, Some, None, List, [], ◌∷◌, ◌++◌, length, take, filter, get_or, refl, ap, sym, ◌∙◌, arith}
use Rattle.std.specs.List.{AllByRecursion, IsDistinct, list_any, position, position_or_len}
use Rattle.std.proofs.lemmas.Bool.{eq-eqb}
use Rattle.std.proofs.lemmas.Bool.Decides.{nat_tests}
use Rattle.std.proofs.lemmas.List.Sums.{position_or_len_is}
use Rattle.std.proofs.lemmas.Map.Keys.{IsDistinct-head, IsDistinct-tail, IsDistinct-cons, apart_from_distinct}
use Rattle.reply_queues.proofs.Places.{or_first, or_rest}

-- where a session stands it stands first
pub place-here : (ss : List ℕ) (who i d : ℕ) → IsDistinct nat_eq ss → i < length ss → get_or ss i d ≡ who → position (λ s. nat_eq s who) ss ≡ Some i
place-here ss who i d distinct low here =
    let first : position_or_len (λ s. nat_eq s who) ss ≡ i = position_or_len_is (λ s. nat_eq s who) ss i d (omega (arith, low))
    (λ k before. ap (λ w. nat_eq (get_or ss k d) w) (sym here) ∙ apart_from_distinct nat_eq ss k i d distinct before low) (λ _. ap (λ s. nat_eq s who) here ∙ eq-eqb who who refl) in
    let within : nat_lt i (length ss) ≡ true = grind (arith, nat_tests, low) in
    ap (λ n. cond (nat_lt n (length ss)) (Some n) None) first ∙ ap (λ b. cond b (Some i) None) within

-- none is there
pub distinct-none : IsDistinct nat_eq []
unfolding IsDistinct
distinct-none = tt

-- one more, that isn't there
all_more : (P : ℕ → Type 0) (ss : List ℕ) (who : ℕ) → AllByRecursion P ss → P who → AllByRecursion P (ss ++ who ∷ [])
all_more P [] who all one = (one, tt)
all_more P (s ∷ ss) who all one = (all.0, all_more P ss who all.1 one)

pub distinct-more : (ss : List ℕ) (who : ℕ) → IsDistinct nat_eq ss → list_any (λ s. nat_eq s who) ss ≡ false → IsDistinct nat_eq (ss ++ who ∷ [])
distinct-more [] who distinct none = IsDistinct-cons nat_eq who [] tt distinct-none
distinct-more (s ∷ ss) who distinct none = IsDistinct-cons nat_eq s (ss ++ who ∷ [])
    (all_more (λ y. nat_eq s y ≡ false) ss who (IsDistinct-head nat_eq s ss distinct) (or_first (nat_eq s who) (list_any (λ x. nat_eq x who) ss) none))
    (distinct-more ss who (IsDistinct-tail nat_eq s ss distinct) (or_rest (nat_eq s who) (list_any (λ x. nat_eq x who) ss) none))

-- some of them
all_without : (P : ℕ → Type 0) (test : ℕ → Bool) (ss : List ℕ) → AllByRecursion P ss → AllByRecursion P (filter test ss)
all_without P test [] all = all
all_without P test (s ∷ ss) all = elim (test s) as (λ b. AllByRecursion P (cond b (s ∷ filter test ss) (filter test ss))) [
  | true ↦ (all.0, all_without P test ss all.1)
  | false ↦ all_without P test ss all.1
]

pub distinct-without : (test : ℕ → Bool) (ss : List ℕ) → IsDistinct nat_eq ss → IsDistinct nat_eq (filter test ss)
distinct-without test [] distinct = distinct
distinct-without test (s ∷ ss) distinct = elim (test s) as (λ b. IsDistinct nat_eq (cond b (s ∷ filter test ss) (filter test ss))) [
  | true ↦ IsDistinct-cons nat_eq s (filter test ss) (all_without (λ y. nat_eq s y ≡ false) test ss (IsDistinct-head nat_eq s ss distinct)) (distinct-without test ss (IsDistinct-tail nat_eq s ss distinct))
  | false ↦ distinct-without test ss (IsDistinct-tail nat_eq s ss distinct)
]

-- the first of them
all_front : (P : ℕ → Type 0) (n : ℕ) (ss : List ℕ) → AllByRecursion P ss → AllByRecursion P (take n ss)
all_front P zero ss all = tt
all_front P (suc n) [] all = tt
all_front P (suc n) (s ∷ ss) all = (all.0, all_front P n ss all.1)

pub distinct-front : (n : ℕ) (ss : List ℕ) → IsDistinct nat_eq ss → IsDistinct nat_eq (take n ss)
distinct-front zero ss distinct = distinct-none
distinct-front (suc n) [] distinct = distinct
distinct-front (suc n) (s ∷ ss) distinct =
    IsDistinct-cons nat_eq s (take n ss) (all_front (λ y. nat_eq s y ≡ false) n ss (IsDistinct-head nat_eq s ss distinct)) (distinct-front n ss (IsDistinct-tail nat_eq s ss distinct))
