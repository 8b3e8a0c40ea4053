-- What each session is owed, after each change of the queues.
use Rattle.std.proofs.Common.{◌≡◌, ◌∙◌, ℕ, ◌≤◌, true, false, cond, not, nat_eq, List, [], ◌∷◌, ◌++◌, length, map, filter, take, drop, refl, sym, ap, subst, arith, length-append, append-nil, append_assoc}
use Rattle.std.proofs.lemmas.Bool.{eqb-true, eq-eqb}
use Rattle.std.proofs.lemmas.List.{map-append, take_all, drop_all, take-append-drop, take-append-le, drop-append-le}
use Rattle.std.specs.List.{AllByRecursion}
use Rattle.commands.specs.declared.reply.Reply.{Reply}
use Rattle.reply_queues.specs.Replies.{SessionReplies, is_for, due_to, with_pending, queued, without_first, collected_from, hand_on, make_due, take_back, refused, refuse_pending}
use Rattle.std.proofs.Math.Seq.{take-nil, drop-nil}
use Rattle.topic_core.proofs.Queues.{all-queued, all-collected, all-filter}

-- a reply that a topic owes to a session
pub data Debt : Type 0 where
  Due : Reply → Debt
  HandedOn : Reply → Debt  -- it was handed to a flush that hasn't ended
  Pending : Reply → Debt  -- it awaits the next flush

abbrev pub debts_of : List Reply → List Reply → List Reply → List Debt
debts_of due on pending = map (λ r. Due r) due ++ (map (λ r. HandedOn r) on ++ map (λ r. Pending r) pending)

abbrev pub debts_in : SessionReplies → List Debt
debts_in q = debts_of q.due (take q.handed_on q.pending) (drop q.handed_on q.pending)

-- what a session is owed, in order
abbrev pub debts_to : ℕ → List SessionReplies → List Debt
debts_to who [] = []
debts_to who (q ∷ qs) = cond (is_for who q) (debts_in q) (debts_to who qs)

-- one session, and each other one
pub by_session : (R : ℕ → Type 0) (who other : ℕ) → R who → (nat_eq who other ≡ false → R other) → R other
by_session R who other here there = elim (nat_eq who other) as (λ b. nat_eq who other ≡ b → R other) [
  | true ↦ λ same. subst R (eqb-true who other same) here
  | false ↦ λ apart. there apart
] refl

-- one session's queue isn't another's
apart_at : (who other session : ℕ) → nat_eq who other ≡ false → nat_eq session who ≡ true → nat_eq session other ≡ false
apart_at who other session apart here = ap (λ n. nat_eq n other) (eqb-true session who here) ∙ apart

-- ---- one more reply

one_more : (q : SessionReplies) (r : Reply) → q.handed_on ≤ length q.pending → debts_in (with_pending r q) ≡ debts_in q ++ Pending r ∷ []
one_more q r fits = rw (take-append-le q.handed_on q.pending (r ∷ []) fits, drop-append-le q.handed_on q.pending (r ∷ []) fits) (simp (map-append, append_assoc))

-- no flush was handed more than what is pending
abbrev pub AreWithin : List SessionReplies → Type 0
AreWithin qs = AllByRecursion (λ q. q.handed_on ≤ length q.pending) qs

pub debts-queued : (who : ℕ) (r : Reply) (qs : List SessionReplies) → AreWithin qs → debts_to who (queued who r qs) ≡ debts_to who qs ++ Pending r ∷ []
debts-queued who r [] within = ap (λ b. cond b (Pending r ∷ []) []) (eq-eqb who who refl)
debts-queued who r (q ∷ qs) within =
    elim (is_for who q) as (λ b. is_for who q ≡ b → debts_to who (cond b (with_pending r q ∷ qs) (q ∷ queued who r qs)) ≡ cond b (debts_in q) (debts_to who qs) ++ Pending r ∷ []) [
      | true ↦ λ here. ap (λ b. cond b (debts_in (with_pending r q)) (debts_to who qs)) here ∙ one_more q r within.0
      | false ↦ λ other. ap (λ b. cond b (debts_in q) (debts_to who (queued who r qs))) other ∙ debts-queued who r qs within.1
    ] refl

pub others-queued : (who other : ℕ) (r : Reply) (qs : List SessionReplies) → nat_eq who other ≡ false → debts_to other (queued who r qs) ≡ debts_to other qs
others-queued who other r [] apart = ap (λ b. cond b (Pending r ∷ []) []) apart
others-queued who other r (q ∷ qs) apart =
    elim (is_for who q) as (λ b. is_for who q ≡ b → debts_to other (cond b (with_pending r q ∷ qs) (q ∷ queued who r qs)) ≡ cond (is_for other q) (debts_in q) (debts_to other qs)) [
      | true ↦ λ here.
          ap (λ b. cond b (debts_in (with_pending r q)) (debts_to other qs)) (apart_at who other q.session apart here)
          ∙ sym (ap (λ b. cond b (debts_in q) (debts_to other qs)) (apart_at who other q.session apart here))
      | false ↦ λ _. ap (λ (l : List Debt). cond (is_for other q) (debts_in q) l) (others-queued who other r qs apart)
    ] refl

pub within-queued : (who : ℕ) (r : Reply) (qs : List SessionReplies) → AreWithin qs → AreWithin (queued who r qs)
within-queued who r qs within =
    all-queued (λ q. q.handed_on ≤ length q.pending) (λ q. q.handed_on ≤ length q.pending) who r qs (λ q h. h) (λ q h. omega (arith, h, length-append q.pending (r ∷ []))) (omega arith) within

-- ---- a due reply leaves

first_due : (q : SessionReplies) (r : Reply) (rs : List Reply) → q.due ≡ r ∷ rs → debts_in q ≡ Due r ∷ debts_in (without_first q)
first_due q r rs is =
    let on : List Reply = take q.handed_on q.pending in
    let pending : List Reply = drop q.handed_on q.pending in
    ap (λ (l : List Reply). debts_of l on pending) is ∙ ap (λ (l : List Reply). Due r ∷ debts_of (drop 1 l) on pending) (sym is)

pub debts-collected : (who : ℕ) (qs : List SessionReplies) (r : Reply) (rs : List Reply) → due_to who qs ≡ r ∷ rs → debts_to who qs ≡ Due r ∷ debts_to who (collected_from who qs)
debts-collected who [] r rs is = absurd cc
debts-collected who (q ∷ qs) r rs is =
    elim (is_for who q) as (λ b. is_for who q ≡ b → cond b q.due (due_to who qs) ≡ r ∷ rs
    → cond b (debts_in q) (debts_to who qs) ≡ Due r ∷ debts_to who (cond b (without_first q ∷ qs) (q ∷ collected_from who qs))) [
      | true ↦ λ here due. first_due q r rs due ∙ ap (λ b. Due r ∷ cond b (debts_in (without_first q)) (debts_to who qs)) (sym here)
      | false ↦ λ other due. debts-collected who qs r rs due ∙ ap (λ b. Due r ∷ cond b (debts_in q) (debts_to who (collected_from who qs))) (sym other)
    ] refl is

pub others-collected : (who other : ℕ) (qs : List SessionReplies) → nat_eq who other ≡ false → debts_to other (collected_from who qs) ≡ debts_to other qs
others-collected who other [] apart = refl
others-collected who other (q ∷ qs) apart =
    elim (is_for who q) as (λ b. is_for who q ≡ b → debts_to other (cond b (without_first q ∷ qs) (q ∷ collected_from who qs)) ≡ cond (is_for other q) (debts_in q) (debts_to other qs)) [
      | true ↦ λ here.
          ap (λ b. cond b (debts_in (without_first q)) (debts_to other qs)) (apart_at who other q.session apart here)
          ∙ sym (ap (λ b. cond b (debts_in q) (debts_to other qs)) (apart_at who other q.session apart here))
      | false ↦ λ _. ap (λ (l : List Debt). cond (is_for other q) (debts_in q) l) (others-collected who other qs apart)
    ] refl

pub within-collected : (who : ℕ) (qs : List SessionReplies) → AreWithin qs → AreWithin (collected_from who qs)
within-collected who qs within = all-collected (λ q. q.handed_on ≤ length q.pending) (λ q. q.handed_on ≤ length q.pending) who qs (λ q h. h) (λ q h. h) within

-- ---- a session leaves

module _ (who : ℕ) where
  abbrev without : List SessionReplies → List SessionReplies
  without qs = filter (λ q. not (is_for who q)) qs

  pub debts-left : (qs : List SessionReplies) → debts_to who (without qs) ≡ []
  debts-left [] = refl
  debts-left (q ∷ qs) =
      elim (is_for who q) as (λ b. is_for who q ≡ b → debts_to who (cond (not b) (q ∷ without qs) (without qs)) ≡ []) [
        | true ↦ λ _. debts-left qs
        | false ↦ λ other. ap (λ b. cond b (debts_in q) (debts_to who (without qs))) other ∙ debts-left qs
      ] refl

  pub others-left : (other : ℕ) (qs : List SessionReplies) → nat_eq who other ≡ false → debts_to other (without qs) ≡ debts_to other qs
  others-left other [] apart = refl
  others-left other (q ∷ qs) apart =
      elim (is_for who q) as (λ b. is_for who q ≡ b → debts_to other (cond (not b) (q ∷ without qs) (without qs)) ≡ cond (is_for other q) (debts_in q) (debts_to other qs)) [
        | true ↦ λ here. others-left other qs apart ∙ sym (ap (λ b. cond b (debts_in q) (debts_to other qs)) (apart_at who other q.session apart here))
        | false ↦ λ _. ap (λ (l : List Debt). cond (is_for other q) (debts_in q) l) (others-left other qs apart)
      ] refl

  pub within-left : (qs : List SessionReplies) → AreWithin qs → AreWithin (without qs)
  within-left qs within = all-filter (λ q. q.handed_on ≤ length q.pending) (λ q. not (is_for who q)) qs within

-- ---- a flush and its ends

-- what each makes of a debt
abbrev pub hands_on : Debt → Debt
hands_on (Due r) = Due r
hands_on (HandedOn r) = HandedOn r
hands_on (Pending r) = HandedOn r

abbrev pub makes_due : Debt → Debt
makes_due (Due r) = Due r
makes_due (HandedOn r) = Due r
makes_due (Pending r) = Pending r

abbrev pub takes_back : Debt → Debt
takes_back (Due r) = Due r
takes_back (HandedOn r) = Pending r
takes_back (Pending r) = Pending r

abbrev pub refuses : Debt → Debt
refuses (Due r) = Due r
refuses (HandedOn r) = Due (refused r)
refuses (Pending r) = Due (refused r)

each : {A : Type 0} (g : A → Debt) (c : Reply → A) (xs : List Reply) → map (λ a. g a) (map (λ r. c r) xs) ≡ map (λ r. g (c r)) xs
each g c [] = refl
each g c (x ∷ xs) = ap (λ l. g (c x) ∷ l) (each g c xs)

-- of all that one queue has
turned : (g : Debt → Debt) (due on pending : List Reply) → map (λ d. g d) (debts_of due on pending) ≡ map (λ r. g (Due r)) due ++ (map (λ r. g (HandedOn r)) on ++ map (λ r. g (Pending r)) pending)
turned g due on pending = simp (map-append, each g (λ r. Due r), each g (λ r. HandedOn r), each g (λ r. Pending r))

of_both : (c : Reply → Debt) (n : ℕ) (p : List Reply) → map (λ r. c r) (take n p) ++ map (λ r. c r) (drop n p) ≡ map (λ r. c r) p
of_both c n p = sym (map-append c (take n p) (drop n p)) ∙ ap (λ (l : List Reply). map (λ r. c r) l) (take-append-drop n p)

handed_on-in : (q : SessionReplies) → debts_in (hand_on q) ≡ map (λ d. hands_on d) (debts_in q)
handed_on-in q =
    let n : ℕ = q.handed_on in
    let p : List Reply = q.pending in
    rw (turned hands_on q.due (take n p) (drop n p), of_both (λ r. HandedOn r) n p, take_all (length p) p (omega arith), drop_all (length p) p (omega arith), append-nil (map (λ r. HandedOn r) p)) refl

made_due-in : (q : SessionReplies) → debts_in (make_due q) ≡ map (λ d. makes_due d) (debts_in q)
made_due-in q = rw (turned makes_due q.due (take q.handed_on q.pending) (drop q.handed_on q.pending)) (simp (map-append, append_assoc))

taken_back-in : (q : SessionReplies) → debts_in (take_back q) ≡ map (λ d. takes_back d) (debts_in q)
taken_back-in q = rw (turned takes_back q.due (take q.handed_on q.pending) (drop q.handed_on q.pending), of_both (λ r. Pending r) q.handed_on q.pending) refl

refused-in : (q : SessionReplies) → debts_in (refuse_pending q) ≡ map (λ d. refuses d) (debts_in q)
refused-in q =
    rw (turned refuses q.due (take q.handed_on q.pending) (drop q.handed_on q.pending), of_both (λ r. Due (refused r)) q.handed_on q.pending) (simp (map-append, append-nil, each (λ r. Due r) (λ r. refused r)))

-- of all queues
module _ (f : SessionReplies → SessionReplies) (g : Debt → Debt) (same : (q : SessionReplies) → (f q).session ≡ q.session) (turns : (q : SessionReplies) → debts_in (f q) ≡ map (λ d. g d) (debts_in q)) where
  debts-mapped : (who : ℕ) (qs : List SessionReplies) → debts_to who (map (λ q. f q) qs) ≡ map (λ d. g d) (debts_to who qs)
  debts-mapped who [] = refl
  debts-mapped who (q ∷ qs) =
      ap (λ n. cond (nat_eq n who) (debts_in (f q)) (debts_to who (map (λ x. f x) qs))) (same q)
      ∙ elim (is_for who q) as (λ b. cond b (debts_in (f q)) (debts_to who (map (λ x. f x) qs)) ≡ map (λ d. g d) (cond b (debts_in q) (debts_to who qs))) [
        | true ↦ turns q
        | false ↦ debts-mapped who qs
      ]

pub debts-handed_on : (who : ℕ) (qs : List SessionReplies) → debts_to who (map (λ q. hand_on q) qs) ≡ map (λ d. hands_on d) (debts_to who qs)
debts-handed_on who qs = debts-mapped (λ q. hand_on q) hands_on (λ q. refl) handed_on-in who qs

pub debts-made_due : (who : ℕ) (qs : List SessionReplies) → debts_to who (map (λ q. make_due q) qs) ≡ map (λ d. makes_due d) (debts_to who qs)
debts-made_due who qs = debts-mapped (λ q. make_due q) makes_due (λ q. refl) made_due-in who qs

pub debts-taken_back : (who : ℕ) (qs : List SessionReplies) → debts_to who (map (λ q. take_back q) qs) ≡ map (λ d. takes_back d) (debts_to who qs)
debts-taken_back who qs = debts-mapped (λ q. take_back q) takes_back (λ q. refl) taken_back-in who qs

pub debts-refused : (who : ℕ) (qs : List SessionReplies) → debts_to who (map (λ q. refuse_pending q) qs) ≡ map (λ d. refuses d) (debts_to who qs)
debts-refused who qs = debts-mapped (λ q. refuse_pending q) refuses (λ q. refl) refused-in who qs

-- a flush is handed what is pending, and none is under way after its end
module _ (f : SessionReplies → SessionReplies) (fits : (q : SessionReplies) → (f q).handed_on ≤ length (f q).pending) where
  pub within-mapped : (qs : List SessionReplies) → AreWithin (map (λ q. f q) qs)
  within-mapped [] = tt
  within-mapped (q ∷ qs) = (fits q, within-mapped qs)

-- ---- nothing is pending

due_alone : (q : SessionReplies) → q.pending ≡ [] → debts_in q ≡ map (λ r. Due r) q.due
due_alone q none = simp (none, take-nil, drop-nil, append-nil)

pub debts-due : (who : ℕ) (qs : List SessionReplies) → AllByRecursion (λ q. q.pending ≡ []) qs → debts_to who qs ≡ map (λ r. Due r) (due_to who qs)
debts-due who [] none = refl
debts-due who (q ∷ qs) none = elim (is_for who q) as (λ b. cond b (debts_in q) (debts_to who qs) ≡ map (λ r. Due r) (cond b q.due (due_to who qs))) [
  | true ↦ due_alone q none.0
  | false ↦ debts-due who qs none.1
]
