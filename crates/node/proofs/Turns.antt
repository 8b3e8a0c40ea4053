-- Which of the answers that a session is owed each reply is that its topic owes it.
use Rattle.std.proofs.Common.{◌≡◌, ◌⊎◌, inl, inr, ◌∙◌, ℕ, true, false, cond, not, nat_eq, Some, List, [], ◌∷◌, ◌++◌, map, filter, refl, sym, ap}
use Rattle.std.proofs.lemmas.Bool.{eqb-true}
use Rattle.std.specs.List.{AllByRecursion, find}
use Rattle.commands.specs.declared.reply.Reply.{Reply}
use Rattle.commands.specs.declared.reply.Reply.TheVariants.{Connected}
use Rattle.reply_queues.specs.Replies.{refused}
use Rattle.node.specs.Promising.{Promise, Owed, is_to, first_owed, without_first, is_acceptance, promised}
use Rattle.node.proofs.Queues.{Debt, Due, HandedOn, Pending}

-- a due reply is the owed one, or what a failure made of it; where it tells that the command was accepted, what it promises has P
pub record IsDue (P : Promise → Type 0) (o : Owed) (due : Reply) : Type 0 where
  pub reply : Reply
  pub answers : o.reply ≡ Some reply
  pub same : (due ≡ reply) ⊎ (due ≡ refused reply)
  pub kept : is_acceptance due ≡ true → AllByRecursion P (promised o.promise)

-- a pending reply is the owed one, and what it promises has Q
pub record IsPending (Q : Promise → Type 0) (o : Owed) (pending : Reply) : Type 0 where
  pub answers : o.reply ≡ Some pending
  pub kept : AllByRecursion Q (promised o.promise)

-- as a topic owes it: what a due reply promises has P, what one does that a flush was handed has A, and what another pending one does has Q
abbrev pub IsOwed : (Promise → Type 0) → (Promise → Type 0) → (Promise → Type 0) → Owed → Debt → Type 0
IsOwed P A Q o (Due r) = IsDue P o r
IsOwed P A Q o (HandedOn r) = IsPending A o r
IsOwed P A Q o (Pending r) = IsPending Q o r

-- the replies that a topic owes are the owed ones, one for one
abbrev pub Matches : (Owed → Debt → Type 0) → List Debt → List Owed → Type 0
Matches R [] [] = Unit {0}
Matches R [] (o ∷ os) = ⊥
Matches R (d ∷ ds) [] = ⊥
Matches R (d ∷ ds) (o ∷ os) = R o d × Matches R ds os

-- what a failure makes of a reply tells of no acceptance
pub refused_no_acceptance : (r : Reply) → is_acceptance (refused r) ≡ false
refused_no_acceptance Connected = refl
refused_no_acceptance _ = refl

pub to_each : (P P' : Promise → Type 0) → ((p : Promise) → P p → P' p) → (ps : List Promise) → AllByRecursion P ps → AllByRecursion P' ps
to_each P P' f [] all = tt
to_each P P' f (p ∷ ps) all = (f p all.0, to_each P P' f ps all.1)

-- ---- what is promised

module _ (P P' : Promise → Type 0) (f : (p : Promise) → P p → P' p) where
  pub due_more : (o : Owed) (r : Reply) → IsDue P o r → IsDue P' o r
  due_more o r is = record { reply = is.reply; answers = is.answers; same = is.same; kept = λ accepted. to_each P P' f (promised o.promise) (is.kept accepted) }

  pub pending_more : (o : Owed) (r : Reply) → IsPending P o r → IsPending P' o r
  pending_more o r is = record { answers = is.answers; kept = to_each P P' f (promised o.promise) is.kept }

  -- the flush that a pending reply was handed to has ended well
  pub now_due : (o : Owed) (r : Reply) → IsPending P o r → IsDue P' o r
  now_due o r is = record { reply = r; answers = is.answers; same = inl refl; kept = λ accepted. to_each P P' f (promised o.promise) is.kept }

-- the device failed
pub now_refused : (P Q : Promise → Type 0) (o : Owed) (r : Reply) → IsPending Q o r → IsDue P o (refused r)
now_refused P Q o r is = record { reply = r; answers = is.answers; same = inr refl; kept = λ accepted. absurd (let none = refused_no_acceptance r in cc) }

-- ---- all that is owed

module _ (R : Owed → Debt → Type 0) where
  -- one more
  pub matches_more : (ds : List Debt) (os : List Owed) (d : Debt) (o : Owed) → R o d → Matches R ds os → Matches R (ds ++ d ∷ []) (os ++ o ∷ [])
  matches_more [] [] d o one all = (one, tt)
  matches_more [] (x ∷ os) d o one all = absurd all
  matches_more (y ∷ ds) [] d o one all = absurd all
  matches_more (y ∷ ds) (x ∷ os) d o one all = (all.0, matches_more ds os d o one all.1)

  -- the first one
  pub record HasFirst (d : Debt) (ds : List Debt) (os : List Owed) : Type 0 where
    pub owed : Owed
    pub others : List Owed
    pub splits : os ≡ owed ∷ others
    pub is_first : R owed d
    pub rest : Matches R ds others

  pub matches_first : (d : Debt) (ds : List Debt) (os : List Owed) → Matches R (d ∷ ds) os → HasFirst d ds os
  matches_first d ds [] all = absurd all
  matches_first d ds (o ∷ os) all = record { owed = o; others = os; splits = refl; is_first = all.0; rest = all.1 }

module _ (R R' : Owed → Debt → Type 0) where
  -- each has more
  pub matches_to : ((o : Owed) (d : Debt) → R o d → R' o d) → (ds : List Debt) (os : List Owed) → Matches R ds os → Matches R' ds os
  matches_to f [] [] all = tt
  matches_to f [] (o ∷ os) all = absurd all
  matches_to f (d ∷ ds) [] all = absurd all
  matches_to f (d ∷ ds) (o ∷ os) all = (f o d all.0, matches_to f ds os all.1)

  -- each owed one is changed
  pub matches_each : (g : Owed → Owed) → ((o : Owed) (d : Debt) → R o d → R' (g o) d) → (ds : List Debt) (os : List Owed) → Matches R ds os → Matches R' ds (map (λ o. g o) os)
  matches_each g f [] [] all = tt
  matches_each g f [] (o ∷ os) all = absurd all
  matches_each g f (d ∷ ds) [] all = absurd all
  matches_each g f (d ∷ ds) (o ∷ os) all = (f o d all.0, matches_each g f ds os all.1)

  -- each reply is changed
  pub matches_turned : (g : Debt → Debt) → ((o : Owed) (d : Debt) → R o d → R' o (g d)) → (ds : List Debt) (os : List Owed) → Matches R ds os → Matches R' (map (λ d. g d) ds) os
  matches_turned g f [] [] all = tt
  matches_turned g f [] (o ∷ os) all = absurd all
  matches_turned g f (d ∷ ds) [] all = absurd all
  matches_turned g f (d ∷ ds) (o ∷ os) all = (f o d all.0, matches_turned g f ds os all.1)

  -- all are due
  pub matches_due : ((o : Owed) (r : Reply) → R o (Due r) → R' o (Due r)) → (rs : List Reply) (os : List Owed) → Matches R (map (λ r. Due r) rs) os → Matches R' (map (λ r. Due r) rs) os
  matches_due f [] [] all = tt
  matches_due f [] (o ∷ os) all = absurd all
  matches_due f (r ∷ rs) [] all = absurd all
  matches_due f (r ∷ rs) (o ∷ os) all = (f o r all.0, matches_due f rs os all.1)

-- ---- those that a session is owed

abbrev pub owed_to : ℕ → List Owed → List Owed
owed_to who owed = filter (is_to who) owed

pub owed-map : (f : Owed → Owed) → ((o : Owed) → (f o).session ≡ o.session) → (who : ℕ) (os : List Owed) → owed_to who (map (λ o. f o) os) ≡ map (λ o. f o) (owed_to who os)
owed-map f same who [] = refl
owed-map f same who (o ∷ os) =
    ap (λ n. cond (nat_eq n who) (f o ∷ owed_to who (map (λ x. f x) os)) (owed_to who (map (λ x. f x) os))) (same o)
    ∙ elim (is_to who o) as (λ b. cond b (f o ∷ owed_to who (map (λ x. f x) os)) (owed_to who (map (λ x. f x) os)) ≡ map (λ x. f x) (cond b (o ∷ owed_to who os) (owed_to who os))) [
      | true ↦ ap (λ (l : List Owed). f o ∷ l) (owed-map f same who os)
      | false ↦ owed-map f same who os
    ]

pub owed-more : (who : ℕ) (os : List Owed) (o : Owed) → owed_to who (os ++ o ∷ []) ≡ owed_to who os ++ cond (is_to who o) (o ∷ []) []
owed-more who [] o = refl
owed-more who (x ∷ os) o =
    elim (is_to who x) as (λ b. cond b (x ∷ owed_to who (os ++ o ∷ [])) (owed_to who (os ++ o ∷ [])) ≡ cond b (x ∷ owed_to who os) (owed_to who os) ++ cond (is_to who o) (o ∷ []) []) [
      | true ↦ ap (λ (l : List Owed). x ∷ l) (owed-more who os o)
      | false ↦ owed-more who os o
    ]

-- the first owed one
pub first-owed : (who : ℕ) (os : List Owed) (o : Owed) (rest : List Owed) → owed_to who os ≡ o ∷ rest → first_owed who os ≡ Some o
first-owed who [] o rest is = absurd cc
first-owed who (x ∷ os) o rest is =
    elim (is_to who x) as (λ b. cond b (x ∷ owed_to who os) (owed_to who os) ≡ o ∷ rest → cond b (Some x) (find (is_to who) os) ≡ Some o) [
      | true ↦ λ is. let same : x ≡ o = cc in ap (λ (y : Owed). Some y) same
      | false ↦ λ is. first-owed who os o rest is
    ] is

pub first-gone : (who : ℕ) (os : List Owed) (o : Owed) (rest : List Owed) → owed_to who os ≡ o ∷ rest → owed_to who (without_first who os) ≡ rest
first-gone who [] o rest is = absurd cc
first-gone who (x ∷ os) o rest is =
    elim (is_to who x) as (λ b. is_to who x ≡ b → cond b (x ∷ owed_to who os) (owed_to who os) ≡ o ∷ rest → owed_to who (cond b os (x ∷ without_first who os)) ≡ rest) [
      | true ↦ λ _ is. let same : owed_to who os ≡ rest = cc in same
      | false ↦ λ other is. ap (λ b. cond b (x ∷ owed_to who (without_first who os)) (owed_to who (without_first who os))) other ∙ first-gone who os o rest is
    ] refl is

-- those of other sessions stay
pub others-stay : (who other : ℕ) (os : List Owed) → nat_eq who other ≡ false → owed_to other (without_first who os) ≡ owed_to other os
others-stay who other [] apart = refl
others-stay who other (x ∷ os) apart =
    elim (is_to who x) as (λ b. is_to who x ≡ b → owed_to other (cond b os (x ∷ without_first who os)) ≡ cond (is_to other x) (x ∷ owed_to other os) (owed_to other os)) [
      | true ↦ λ here. sym (ap (λ b. cond b (x ∷ owed_to other os) (owed_to other os)) (ap (λ n. nat_eq n other) (eqb-true x.session who here) ∙ apart))
      | false ↦ λ _. ap (λ (l : List Owed). cond (is_to other x) (x ∷ l) l) (others-stay who other os apart)
    ] refl

-- a session that left is owed nothing
pub left-none : (who : ℕ) (os : List Owed) → owed_to who (filter (λ o. not (is_to who o)) os) ≡ []
left-none who [] = refl
left-none who (x ∷ os) =
    elim (is_to who x) as (λ b. is_to who x ≡ b → owed_to who (cond (not b) (x ∷ filter (λ o. not (is_to who o)) os) (filter (λ o. not (is_to who o)) os)) ≡ []) [
      | true ↦ λ _. left-none who os
      | false ↦ λ other. ap (λ b. cond b (x ∷ owed_to who (filter (λ o. not (is_to who o)) os)) (owed_to who (filter (λ o. not (is_to who o)) os))) other ∙ left-none who os
    ] refl

pub left-others : (who other : ℕ) (os : List Owed) → nat_eq who other ≡ false → owed_to other (filter (λ o. not (is_to who o)) os) ≡ owed_to other os
left-others who other [] apart = refl
left-others who other (x ∷ os) apart =
    elim (is_to who x) as (λ b. is_to who x ≡ b
    → owed_to other (cond (not b) (x ∷ filter (λ o. not (is_to who o)) os) (filter (λ o. not (is_to who o)) os)) ≡ cond (is_to other x) (x ∷ owed_to other os) (owed_to other os)) [
      | true ↦ λ here.
          left-others who other os apart
          ∙ sym (ap (λ b. cond b (x ∷ owed_to other os) (owed_to other os)) (ap (λ n. nat_eq n other) (eqb-true x.session who here) ∙ apart))
      | false ↦ λ _. ap (λ (l : List Owed). cond (is_to other x) (x ∷ l) l) (left-others who other os apart)
    ] refl
