-- The queue of a session, where it stands among all.
use Rattle.std.proofs.Common.{◌≡◌, ℕ, zero, suc, ◌-◌, ◌<◌, ◌≤◌, Bool, true, false, cond, ◌||◌, nat_lt, Option, Some, None, List, [], ◌∷◌, ◌++◌, length, length-append, take, drop, get_or, set, refl, ap, sym, ◌∙◌, arith}
use Rattle.std.specs.Prelude.{IfNone, IfSome, MatchOption}
use Rattle.std.specs.List.{AllByRecursion, list_any, position, position_or_len}
use Rattle.std.proofs.lemmas.Bool.Decides.{nat_tests}
use Rattle.std.proofs.lemmas.Bool.{true≢false, false≢true, ltb-false}
use Rattle.std.proofs.lemmas.List.{set-get_or, take_all, take-append-le}
use Rattle.std.proofs.lemmas.List.Quantifiers.{position-Some}
use Rattle.std.proofs.lemmas.List.Recursion.{or_from_places}
use Rattle.std.proofs.lemmas.List.Sums.{fails_before_first}
use Rattle.commands.specs.declared.reply.Reply.{Reply}
use Rattle.reply_queues.specs.Replies.{SessionReplies, is_for, due_to, with_pending, queued, without_first, collected_from}

-- the queue that a session gets with its first reply
abbrev pub made : ℕ → Reply → SessionReplies
made who r = record { session = who; due = []; pending = r ∷ []; handed_on = 0 }

pub or_first : (a b : Bool) → (a || b) ≡ false → a ≡ false
or_first true b h = h
or_first false b h = refl

pub or_rest : (a b : Bool) → (a || b) ≡ false → b ≡ false
or_rest true b h = absurd (true≢false h)
or_rest false b h = h

-- no queue is the session's: it gets one
pub queued-none : (who : ℕ) (r : Reply) (qs : List SessionReplies) → list_any (is_for who) qs ≡ false → queued who r qs ≡ qs ++ record { session = who; due = []; pending = r ∷ []; handed_on = 0 } ∷ []
queued-none who r [] none = refl
queued-none who r (q ∷ qs) none =
    ap (λ b. cond b (with_pending r q ∷ qs) (q ∷ queued who r qs)) (or_first (is_for who q) (list_any (is_for who) qs) none)
    ∙ ap (λ xs. q ∷ xs) (queued-none who r qs (or_rest (is_for who q) (list_any (is_for who) qs) none))

pub due_to-none : (who : ℕ) (qs : List SessionReplies) → list_any (is_for who) qs ≡ false → due_to who qs ≡ []
due_to-none who [] none = refl
due_to-none who (q ∷ qs) none =
    ap (λ b. cond b q.due (due_to who qs)) (or_first (is_for who q) (list_any (is_for who) qs) none)
    ∙ due_to-none who qs (or_rest (is_for who q) (list_any (is_for who) qs) none)

-- the session's queue stands at a place
pub record IsPlace (who : ℕ) (qs : List SessionReplies) (i : ℕ) (d : SessionReplies) : Type 0 where
  pub within : i < length qs
  pub here : is_for who (get_or qs i d) ≡ true
  pub before : (k : ℕ) → k < i → is_for who (get_or qs k d) ≡ false

rest : (who : ℕ) (q : SessionReplies) (qs : List SessionReplies) (i : ℕ) (d : SessionReplies) → IsPlace who (q ∷ qs) (suc i) d → IsPlace who qs i d
rest who q qs i d p = record { within = omega (arith, p.within); here = p.here; before = λ k h. p.before (suc k) (omega (arith, h)) }

pub queued-at : (who : ℕ) (r : Reply) (qs : List SessionReplies) (i : ℕ) (d : SessionReplies) → IsPlace who qs i d → queued who r qs ≡ set qs i (with_pending r (get_or qs i d))
queued-at who r [] i d p = absurd (omega (arith, p.within))
queued-at who r (q ∷ qs) zero d p = ap (λ b. cond b (with_pending r q ∷ qs) (q ∷ queued who r qs)) p.here
queued-at who r (q ∷ qs) (suc i) d p =
    ap (λ b. cond b (with_pending r q ∷ qs) (q ∷ queued who r qs)) (p.before zero (omega arith))
    ∙ ap (λ xs. q ∷ xs) (queued-at who r qs i d (rest who q qs i d p))

pub collected_from-at : (who : ℕ) (qs : List SessionReplies) (i : ℕ) (d : SessionReplies) → IsPlace who qs i d → collected_from who qs ≡ set qs i (without_first (get_or qs i d))
collected_from-at who [] i d p = absurd (omega (arith, p.within))
collected_from-at who (q ∷ qs) zero d p = ap (λ b. cond b (without_first q ∷ qs) (q ∷ collected_from who qs)) p.here
collected_from-at who (q ∷ qs) (suc i) d p =
    ap (λ b. cond b (without_first q ∷ qs) (q ∷ collected_from who qs)) (p.before zero (omega arith))
    ∙ ap (λ xs. q ∷ xs) (collected_from-at who qs i d (rest who q qs i d p))

pub due_to-at : (who : ℕ) (qs : List SessionReplies) (i : ℕ) (d : SessionReplies) → IsPlace who qs i d → due_to who qs ≡ (get_or qs i d).due
due_to-at who [] i d p = absurd (omega (arith, p.within))
due_to-at who (q ∷ qs) zero d p = ap (λ b. cond b q.due (due_to who qs)) p.here
due_to-at who (q ∷ qs) (suc i) d p =
    ap (λ b. cond b q.due (due_to who qs)) (p.before zero (omega arith)) ∙ due_to-at who qs i d (rest who q qs i d p)

-- without its first reply, the queue still stands there
pub due_to-collected : (who : ℕ) (qs : List SessionReplies) (i : ℕ) (d : SessionReplies) → IsPlace who qs i d → due_to who (set qs i (without_first (get_or qs i d))) ≡ (without_first (get_or qs i d)).due
due_to-collected who [] i d p = absurd (omega (arith, p.within))
due_to-collected who (q ∷ qs) zero d p = ap (λ b. cond b (without_first q).due (due_to who qs)) p.here
due_to-collected who (q ∷ qs) (suc i) d p =
    ap (λ b. cond b q.due (due_to who (set qs i (without_first (get_or qs i d))))) (p.before zero (omega arith))
    ∙ due_to-collected who qs i d (rest who q qs i d p)

-- from what the search for it says
pub is_place : (who : ℕ) (qs : List SessionReplies) (i : ℕ) (d : SessionReplies) → position (is_for who) qs ≡ Some i → IsPlace who qs i d
is_place who qs i d is = let p = position-Some (is_for who) qs i d is in record { within = p.0; here = p.1; before = p.2 }

no_first : (p : SessionReplies → Bool) (qs : List SessionReplies) → position p qs ≡ None → length qs ≤ position_or_len p qs
no_first p qs is = ltb-false (position_or_len p qs) (length qs)
    (elim (nat_lt (position_or_len p qs) (length qs)) as (λ t. cond t (Some (position_or_len p qs)) None ≡ None → t ≡ false) [ true ↦ λ e. cc | false ↦ λ e. refl ] is)

-- no place is found: no queue is the session's
pub no_place : (who : ℕ) (qs : List SessionReplies) (r : Option ℕ) → r ≡ position (is_for who) qs → IfNone r (list_any (is_for who) qs ≡ false)
no_place who qs (Some i) is = tt
no_place who qs None is =
    or_from_places (list_any (is_for who)) (is_for who) refl (λ _ _. refl) qs (record { session = 0; due = []; pending = []; handed_on = 0 })
    (λ i h. fails_before_first (is_for who) qs i _ (omega (arith, h, no_first (is_for who) qs (sym is))))

-- a queue without a due reply stays as it is
nothing_due : (q : SessionReplies) → q.due ≡ [] → without_first q ≡ q
nothing_due q none = ap (λ (d : List Reply). let x : SessionReplies = record q { due = d } in x) (ap (λ d. drop 1 d) none ∙ sym none)

-- what the session's queue answers, of all queues
pub takes_none : (who : ℕ) (qs : List SessionReplies) (i : ℕ) (q new : SessionReplies) (r : Option Reply) → IsPlace who qs i q → q ≡ get_or qs i q
    → MatchOption r (q.due ≡ []) (λ x. q.due ≡ x ∷ new.due) → new ≡ without_first q → IfNone r ((due_to who qs ≡ []) × (set qs i new ≡ qs))
takes_none who qs i q new (Some x) p read is was = tt
takes_none who qs i q new None p read is was = (
  due_to-at who qs i q p ∙ ap (λ (x : SessionReplies). x.due) (sym read) ∙ is,
  ap (λ x. set qs i x) (was ∙ nothing_due q is ∙ read) ∙ set-get_or qs i q,
)

pub takes_first : (who : ℕ) (qs : List SessionReplies) (i : ℕ) (q new : SessionReplies) (r : Option Reply) → IsPlace who qs i q → q ≡ get_or qs i q
    → MatchOption r (q.due ≡ []) (λ x. q.due ≡ x ∷ new.due) → new ≡ without_first q
    → IfSome r (λ x. (due_to who qs ≡ x ∷ due_to who (set qs i new)) × (set qs i new ≡ collected_from who qs))
takes_first who qs i q new None p read is was = tt
takes_first who qs i q new (Some x) p read is was =
    let to : set qs i new ≡ set qs i (without_first (get_or qs i q)) = ap (λ y. set qs i y) (was ∙ ap without_first read) in (
      due_to-at who qs i q p ∙ ap (λ (y : SessionReplies). y.due) (sym read) ∙ is
          ∙ ap (λ d. x ∷ d) (ap (λ (y : SessionReplies). y.due) (was ∙ ap without_first read) ∙ sym (due_to-collected who qs i q p) ∙ ap (λ ys. due_to who ys) (sym to)),
      to ∙ sym (collected_from-at who qs i q p),
    )

-- one more reply for a session makes it one of those with a queue
pub queued-any : (who : ℕ) (r : Reply) (qs : List SessionReplies) → list_any (is_for who) (queued who r qs) ≡ true
queued-any who r [] = grind (arith, nat_tests)
queued-any who r (q ∷ qs) = elim (is_for who q) as (λ b. is_for who q ≡ b → list_any (is_for who) (cond b (with_pending r q ∷ qs) (q ∷ queued who r qs)) ≡ true) [
  | true ↦ λ here. ap (λ b. b || list_any (is_for who) qs) here
  | false ↦ λ other. ap (λ b. b || list_any (is_for who) (queued who r qs)) other ∙ queued-any who r qs
] refl

-- what undoes one more reply of a queue undoes it among all
module _ (who : ℕ) (r : Reply) (d new : SessionReplies) (undo : (x : Reply) (before : SessionReplies) → before.handed_on ≤ length before.pending → d ≡ with_pending x before → new ≡ before) where
  pub undone : (qs : List SessionReplies) (i : ℕ) → AllByRecursion (λ q. q.handed_on ≤ length q.pending) qs → list_any (is_for who) qs ≡ true
      → IsPlace who (queued who r qs) i d → d ≡ get_or (queued who r qs) i d → set (queued who r qs) i new ≡ qs
  undone [] i fits any p read = absurd (false≢true any)
  undone (q ∷ qs) zero fits any p read =
      elim (is_for who q) as (λ b. is_for who q ≡ b → IsPlace who (cond b (with_pending r q ∷ qs) (q ∷ queued who r qs)) zero d
      → d ≡ get_or (cond b (with_pending r q ∷ qs) (q ∷ queued who r qs)) zero d → set (cond b (with_pending r q ∷ qs) (q ∷ queued who r qs)) zero new ≡ q ∷ qs) [
        | true ↦ λ _ place is. ap (λ x. x ∷ qs) (undo r q fits.0 is)
        | false ↦ λ other place is. absurd (true≢false (sym place.here ∙ other))
      ] refl p read
  undone (q ∷ qs) (suc i) fits any p read =
      elim (is_for who q) as (λ b. is_for who q ≡ b → (b || list_any (is_for who) qs) ≡ true → IsPlace who (cond b (with_pending r q ∷ qs) (q ∷ queued who r qs)) (suc i) d
      → d ≡ get_or (cond b (with_pending r q ∷ qs) (q ∷ queued who r qs)) (suc i) d → set (cond b (with_pending r q ∷ qs) (q ∷ queued who r qs)) (suc i) new ≡ q ∷ qs) [
        | true ↦ λ here _ place is. absurd (true≢false (sym here ∙ place.before zero (omega arith)))
        | false ↦ λ _ more place is. ap (λ xs. q ∷ xs) (undone qs i fits.1 more (rest who q (queued who r qs) i d place) is)
      ] refl any p read

-- what is left before a last element
pub without_last : {X : Type 0} (xs : List X) (x : X) → take (length (xs ++ x ∷ []) - 1) (xs ++ x ∷ []) ≡ xs
without_last xs x =
    ap (λ n. take n (xs ++ x ∷ [])) (omega (arith, length-append xs (x ∷ []))) ∙ take-append-le (length xs) xs (x ∷ []) (omega arith) ∙ take_all (length xs) xs (omega arith)
