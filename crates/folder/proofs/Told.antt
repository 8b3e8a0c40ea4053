-- What is told of the topics so far, and of one more.
use Rattle.std.proofs.Common.{◌≡◌, ◌⊎◌, ◌≤◌, ℕ, zero, suc, ◌+◌, Bool, true, false, List, [], ◌∷◌, ◌++◌, length, Some, None, refl, sym, ap, subst, inl, inr, ⊎_elim, length-append, arith}
use Rattle.std.specs.Prelude.{cond, nat_lt, slice_get}
use Rattle.std.proofs.lemmas.Bool.Decides.{nat_tests}
use Rattle.node.specs.State.{State, place_in}
use Rattle.node.specs.Driving.{StatusIn}
use Rattle.node.specs.declared.status.TopicStatus.{TopicStatus}
use Rattle.folder.specs.Looking.{AreOf, AreTold}

-- an element behind which one more was put is one of those before it, or that one
old_or_last : {X : Type 0} (xs : List X) (last x : X) (i : ℕ) → slice_get (xs ++ last ∷ []) i ≡ Some x → (slice_get xs i ≡ Some x) ⊎ ((i ≡ length xs) × (last ≡ x))
old_or_last [] last x zero is = inr (refl, let e : last ≡ x = cc in e)
old_or_last [] last x (suc i) is = absurd (let no : ⊥ = cc in no)
old_or_last (first ∷ xs) last x zero is = inl is
old_or_last (first ∷ xs) last x (suc i) is =
    ⊎_elim (λ (old : slice_get xs i ≡ Some x). let r : (slice_get xs i ≡ Some x) ⊎ ((suc i ≡ suc (length xs)) × (last ≡ x)) = inl old in r) (λ (new : (i ≡ length xs) × (last ≡ x)). inr (ap suc new.0, new.1)) (old_or_last xs last x i is)

-- what each has at its place, and one more at the next
pub each_more : {X : Type 0} (P : ℕ → X → Type 0) (xs : List X) (last : X) → ((i : ℕ) (x : X) → slice_get xs i ≡ Some x → P i x) → P (length xs) last → (i : ℕ) (x : X) → slice_get (xs ++ last ∷ []) i ≡ Some x → P i x
each_more P xs last each at i x is =
    ⊎_elim (each i x) (λ (new : (i ≡ length xs) × (last ≡ x)). subst (λ n. P n x) (sym new.0) (subst (λ y. P (length xs) y) new.1 at)) (old_or_last xs last x i is)

-- so many topics are told, by their numbers
pub record AreFirst (state : State) (statuses : List TopicStatus) : Type 0 where
  pub few : length statuses ≤ length state.broker.topics
  pub each : AreOf state statuses

pub told_none : (state : State) → AreFirst state []
told_none state = record { few = omega arith; each = λ number status is. absurd (let no : ⊥ = cc in no) }

module _ (state : State) (statuses : List TopicStatus) where
  more_at : (status : TopicStatus) (there : Bool) → nat_lt (length statuses) (length state.broker.topics) ≡ there → StatusIn (cond there (Some (length statuses)) None) state (Some status)
      → AreFirst state statuses → AreFirst state (statuses ++ status ∷ [])
  more_at status true is told first =
      record {
        few = let below : length statuses + 1 ≤ length state.broker.topics = grind (arith, nat_tests) in let long = length-append statuses (status ∷ []) in omega (arith, below, long);
        each = each_more (λ number s. StatusIn (Some number) state (Some s)) statuses status first.each told;
      }
  more_at status false is told first = absurd (let no : ⊥ = cc in no)

  -- the next topic is told
  pub told_more : (status : TopicStatus) → StatusIn (place_in state.broker.topics (length statuses)) state (Some status) → AreFirst state statuses → AreFirst state (statuses ++ status ∷ [])
  told_more status told first = more_at status (nat_lt (length statuses) (length state.broker.topics)) refl told first

  all_at : (there : Bool) → nat_lt (length statuses) (length state.broker.topics) ≡ there → StatusIn (cond there (Some (length statuses)) None) state None → AreFirst state statuses → AreTold state statuses
  all_at true is told first = absurd told
  all_at false is told first =
      let few = first.few in
      let none : length state.broker.topics ≤ length statuses = grind (arith, nat_tests) in
      record { all = omega (arith, few, none); each = first.each }

  -- there is no further topic
  pub told_all : StatusIn (place_in state.broker.topics (length statuses)) state None → AreFirst state statuses → AreTold state statuses
  told_all told first = all_at (nat_lt (length statuses) (length state.broker.topics)) refl told first
