-- The numbers of the sessions, beside their queues.
use Rattle.std.proofs.Common.{◌≡◌, ℕ, zero, suc, ◌+◌, ◌-◌, Bool, true, false, cond, ◌||◌, not, nat_eq, nat_lt, Option, Some, None, List, [], ◌∷◌, ◌++◌, length, take, map, filter, get_or, set, refl, ap, sym, ◌∙◌, arith}
use Rattle.std.specs.Prelude.{OnOk, IfNone, IfSome, Result, Ok, Err}
use Rattle.std.specs.List.{IsDistinct, list_any, position, position_or_len}
use Rattle.std.proofs.lemmas.List.{length-map}
use Rattle.commands.specs.declared.reply.Reply.{Reply}
use Rattle.reply_queues.specs.Replies.{SessionReplies, is_for, due_to, with_pending, queued, without_first, collected_from}
use Rattle.std.specs.declared.alloc.AllocError.{AllocError}
use Rattle.reply_queues.proofs.Distinct.{distinct-more}
use Rattle.reply_queues.proofs.Places.{IsPlace, is_place, queued-at}

-- of each queue
abbrev pub sessions_of : List SessionReplies → List ℕ
sessions_of qs = map (λ q. q.session) qs

-- what leaves each queue to its session
pub sessions-each : (g : SessionReplies → SessionReplies) → ((q : SessionReplies) → (g q).session ≡ q.session) → (qs : List SessionReplies) → sessions_of (map g qs) ≡ sessions_of qs
sessions-each g same [] = refl
sessions-each g same (q ∷ qs) = ap (λ s. s ∷ sessions_of (map g qs)) (same q) ∙ ap (λ ss. q.session ∷ ss) (sessions-each g same qs)

or_len : (who : ℕ) (qs : List SessionReplies) → position_or_len (λ s. nat_eq s who) (sessions_of qs) ≡ position_or_len (is_for who) qs
or_len who [] = refl
or_len who (q ∷ qs) = ap (λ n. cond (not (nat_eq q.session who)) (1 + n) 0) (or_len who qs)

-- a session's queue stands where its number does
pub place-among : (who : ℕ) (qs : List SessionReplies) → position (λ s. nat_eq s who) (sessions_of qs) ≡ position (is_for who) qs
place-among who qs =
    ap (λ n. cond (nat_lt n (length (sessions_of qs))) (Some n) None) (or_len who qs)
    ∙ ap (λ n. cond (nat_lt (position_or_len (is_for who) qs) n) (Some (position_or_len (is_for who) qs)) None) (length-map qs (λ q. q.session))

pub any-among : (who : ℕ) (qs : List SessionReplies) → list_any (λ s. nat_eq s who) (sessions_of qs) ≡ list_any (is_for who) qs
any-among who [] = refl
any-among who (q ∷ qs) = ap (λ b. is_for who q || b) (any-among who qs)

pub sessions-collected : (who : ℕ) (qs : List SessionReplies) → sessions_of (collected_from who qs) ≡ sessions_of qs
sessions-collected who [] = refl
sessions-collected who (q ∷ qs) = elim (is_for who q) as (λ b. sessions_of (cond b (without_first q ∷ qs) (q ∷ collected_from who qs)) ≡ sessions_of (q ∷ qs)) [
  | true ↦ refl
  | false ↦ ap (λ ss. q.session ∷ ss) (sessions-collected who qs)
]

pub sessions-queued : (who : ℕ) (r : Reply) (qs : List SessionReplies) → list_any (is_for who) qs ≡ true → sessions_of (queued who r qs) ≡ sessions_of qs
sessions-queued who r [] any = cc
sessions-queued who r (q ∷ qs) any = elim (is_for who q) as (λ b. (b || list_any (is_for who) qs) ≡ true → sessions_of (cond b (with_pending r q ∷ qs) (q ∷ queued who r qs)) ≡ sessions_of (q ∷ qs)) [
  | true ↦ λ _. refl
  | false ↦ λ more. ap (λ ss. q.session ∷ ss) (sessions-queued who r qs more)
] any

-- a session that has a place has a queue
pub any-at : (who : ℕ) (qs : List SessionReplies) (i : ℕ) (d : SessionReplies) → IsPlace who qs i d → list_any (is_for who) qs ≡ true
any-at who [] i d p = absurd (omega (arith, p.within))
any-at who (q ∷ qs) zero d p = ap (λ b. b || list_any (is_for who) qs) p.here
any-at who (q ∷ qs) (suc i) d p =
    ap (λ b. b || list_any (is_for who) qs) (p.before zero (omega arith))
    ∙ any-at who qs i d (record { within = omega (arith, p.within); here = p.here; before = λ k h. p.before (suc k) (omega (arith, h)) })

pub sessions-set : (qs : List SessionReplies) (i : ℕ) (q new : SessionReplies) → q ≡ get_or qs i q → new.session ≡ q.session → sessions_of (set qs i new) ≡ sessions_of qs
sessions-set [] i q new read same = refl
sessions-set (x ∷ qs) zero q new read same = ap (λ s. s ∷ sessions_of qs) (same ∙ ap (λ (y : SessionReplies). y.session) read)
sessions-set (x ∷ qs) (suc i) q new read same = ap (λ ss. x.session ∷ ss) (sessions-set qs i q new read same)

pub sessions-take : (n : ℕ) (qs : List SessionReplies) → take n (sessions_of qs) ≡ sessions_of (take n qs)
sessions-take zero qs = refl
sessions-take (suc n) [] = refl
sessions-take (suc n) (q ∷ qs) = ap (λ ss. q.session ∷ ss) (sessions-take n qs)

-- without the last of them
pub sessions-front : (n m : ℕ) (ss ss' : List ℕ) (qs qs' : List SessionReplies) → n ≡ length ss → m ≡ length qs → ss ≡ sessions_of qs → ss' ≡ take (n - 1) ss → qs' ≡ take (m - 1) qs → ss' ≡ sessions_of qs'
sessions-front n m ss ss' qs qs' numbers queues is front rest =
    let same : n ≡ m = numbers ∙ ap length is ∙ length-map qs (λ q. q.session) ∙ sym queues in
    front ∙ ap (λ k. take (k - 1) ss) same ∙ ap (λ xs. take (m - 1) xs) is ∙ sessions-take (m - 1) qs ∙ ap (λ xs. sessions_of xs) (sym rest)

pub sessions-without : (who : ℕ) (qs : List SessionReplies) → filter (λ s. not (nat_eq s who)) (sessions_of qs) ≡ sessions_of (filter (λ q. not (is_for who q)) qs)
sessions-without who [] = refl
sessions-without who (q ∷ qs) = elim (nat_eq q.session who) as (λ b. cond (not b) (q.session ∷ filter (λ s. not (nat_eq s who)) (sessions_of qs)) (filter (λ s. not (nat_eq s who)) (sessions_of qs))
    ≡ sessions_of (cond (not b) (q ∷ filter (λ x. not (is_for who x)) qs) (filter (λ x. not (is_for who x)) qs))) [
      | true ↦ sessions-without who qs
      | false ↦ ap (λ ss. q.session ∷ ss) (sessions-without who qs)
    ]

-- what is found among the numbers is the queue's place
pub found-place : (who : ℕ) (ss : List ℕ) (qs : List SessionReplies) (r : Option ℕ) → ss ≡ sessions_of qs → r ≡ position (λ s. nat_eq s who) ss → r ≡ position (is_for who) qs
found-place who ss qs r is found = found ∙ ap (λ xs. position (λ s. nat_eq s who) xs) is ∙ place-among who qs

-- a session that is found has a queue, which stands there
pub found-any : (who : ℕ) (qs : List SessionReplies) (i : ℕ) → position (is_for who) qs ≡ Some i → list_any (is_for who) qs ≡ true
found-any who qs i found = let d : SessionReplies = record { session = 0; due = []; pending = []; handed_on = 0 } in any-at who qs i d (is_place who qs i d found)

pub sessions-one-more : (qs : List SessionReplies) (q : SessionReplies) → sessions_of (qs ++ q ∷ []) ≡ sessions_of qs ++ q.session ∷ []
sessions-one-more [] q = refl
sessions-one-more (x ∷ qs) q = ap (λ ss. x.session ∷ ss) (sessions-one-more qs q)

-- one more session, that had no queue
pub one-more : (ss : List ℕ) (qs : List SessionReplies) (q : SessionReplies) (who : ℕ) → (ss ≡ sessions_of qs) × IsDistinct nat_eq ss → q.session ≡ who → list_any (is_for who) qs ≡ false
    → (ss ++ who ∷ [] ≡ sessions_of (qs ++ q ∷ [])) × IsDistinct nat_eq (ss ++ who ∷ [])
one-more ss qs q who holds its none = (
  ap (λ xs. xs ++ who ∷ []) holds.0 ∙ ap (λ s. sessions_of qs ++ s ∷ []) (sym its) ∙ sym (sessions-one-more qs q),
  distinct-more ss who holds.1 (ap (λ xs. list_any (λ s. nat_eq s who) xs) holds.0 ∙ any-among who qs ∙ none),
)

pub pushed-at : (who : ℕ) (r : Reply) (qs : List SessionReplies) (i : ℕ) (q new : SessionReplies) (result : Result (Unit {0}) AllocError) → position (is_for who) qs ≡ Some i → q ≡ get_or qs i q
    → OnOk result (new ≡ with_pending r q) → OnOk result (set qs i new ≡ queued who r qs)
pushed-at who r qs i q new (Err e) found read was = was
pushed-at who r qs i q new (Ok done) found read was =
    ap (λ x. set qs i x) (was ∙ ap (λ x. with_pending r x) read) ∙ sym (queued-at who r qs i q (is_place who qs i q found))

-- a reply that is taken, or none, leaves each queue to its session
pub taken-sessions : (who : ℕ) (qs new : List SessionReplies) (r : Option Reply) → IfNone r ((due_to who qs ≡ []) × (new ≡ qs))
    → IfSome r (λ x. (due_to who qs ≡ x ∷ due_to who new) × (new ≡ collected_from who qs)) → sessions_of qs ≡ sessions_of new
taken-sessions who qs new None none some = ap (λ xs. sessions_of xs) (sym none.1)
taken-sessions who qs new (Some x) none some = sym (ap (λ xs. sessions_of xs) some.1 ∙ sessions-collected who qs)

pub not-true : (b : Bool) → true ≡ not b → b ≡ false
not-true true is = cc
not-true false is = refl

pub not-false : (b : Bool) → false ≡ not b → b ≡ true
not-false true is = refl
not-false false is = cc
