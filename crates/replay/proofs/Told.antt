-- What is told of the topics so far, and of one more.
use Rattle.std.proofs.Common.{◌≡◌, ◌⊎◌, ◌≤◌, ℕ, zero, suc, ◌+◌, Bool, true, false, List, [], ◌∷◌, ◌++◌, length, Some, None, refl, sym, ap, ◌∙◌, subst, inl, inr, ⊎_elim, length-append, arith}
use Rattle.std.specs.Prelude.{cond, nat_lt, slice_get}
use Rattle.std.specs.List.{flat_map}
use Rattle.std.proofs.lemmas.Bool.Decides.{nat_tests}
use Rattle.std.proofs.lemmas.List.{flat_map_more}
use Rattle.disk.specs.Disk.{Image}
use Rattle.node.specs.State.{State}
use Rattle.node.specs.Driving as node
use Rattle.node.specs.declared.status.TopicStatus.{TopicStatus}
use Rattle.admin.specs.Status.{lines_of}
use Rattle.replay.specs.Replay.{StatusOf, IsCounted}

-- an element behind which one more was put is one of those before it, or that one
old_or_last : {X : Type 0} (xs : List X) (last x : X) (i : ℕ) → slice_get (xs ++ last ∷ []) i ≡ Some x → (slice_get xs i ≡ Some x) ⊎ ((i ≡ length xs) × (last ≡ x))
old_or_last [] last x zero is = inr (refl, let e : last ≡ x = cc in e)
old_or_last [] last x (suc i) is = absurd (let no : ⊥ = cc in no)
old_or_last (first ∷ xs) last x zero is = inl is
old_or_last (first ∷ xs) last x (suc i) is =
    ⊎_elim (λ (old : slice_get xs i ≡ Some x). let r : (slice_get xs i ≡ Some x) ⊎ ((suc i ≡ suc (length xs)) × (last ≡ x)) = inl old in r) (λ (new : (i ≡ length xs) × (last ≡ x)). inr (ap suc new.0, new.1)) (old_or_last xs last x i is)

-- what each has at its place, and one more at the next
each_more : {X : Type 0} (P : ℕ → X → Type 0) (xs : List X) (last : X) → ((i : ℕ) (x : X) → slice_get xs i ≡ Some x → P i x) → P (length xs) last → (i : ℕ) (x : X) → slice_get (xs ++ last ∷ []) i ≡ Some x → P i x
each_more P xs last each at i x is =
    ⊎_elim (each i x) (λ (new : (i ≡ length xs) × (last ≡ x)). subst (λ n. P n x) (sym new.0) (subst (λ y. P (length xs) y) new.1 at)) (old_or_last xs last x i is)

-- so many topics were told, in the order of their numbers
pub record ToldFirst (state : State) (files : Image) (known : ℕ → ℕ) (count : ℕ) (text : List ℕ) : Type 0 where
  pub told : List TopicStatus
  pub all : length told ≡ count
  pub few : count ≤ length state.broker.topics
  pub each : (number : ℕ) (status : TopicStatus) → slice_get told number ≡ Some status → node.StatusIn (Some number) state (Some status)
  pub segments : (number : ℕ) (status : TopicStatus) → slice_get told number ≡ Some status → IsCounted state files known number status
  pub lines : text ≡ flat_map lines_of told

-- of a node that is down nothing is told
abbrev pub ToldSoFar : Bool → State → Image → (ℕ → ℕ) → ℕ → List ℕ → Type 0
ToldSoFar true state files known count text = ToldFirst state files known count text
ToldSoFar false state files known count text = (count ≡ 0) × (text ≡ [])

pub told_none : (up : Bool) (state : State) (files : Image) (known : ℕ → ℕ) → ToldSoFar up state files known 0 []
told_none true state files known = record {
  told = [];
  all = refl;
  few = omega arith;
  each = λ number status is. absurd (let no : ⊥ = cc in no);
  segments = λ number status is. absurd (let no : ⊥ = cc in no);
  lines = refl;
}
told_none false state files known = (refl, refl)

module _ (state : State) (files : Image) (known : ℕ → ℕ) (count : ℕ) (text : List ℕ) where
  more_at : (status : TopicStatus) (there : Bool) → nat_lt count (length state.broker.topics) ≡ there → node.StatusIn (cond there (Some count) None) state (Some status)
      → IsCounted state files known count status → ToldFirst state files known count text → ToldFirst state files known (count + 1) (text ++ lines_of status)
  more_at status true is told counted first =
      record {
        told = first.told ++ status ∷ [];
        all = length-append first.told (status ∷ []) ∙ ap (λ (n : ℕ). n + 1) first.all;
        few = let below : count + 1 ≤ length state.broker.topics = grind (arith, nat_tests) in below;
        each = each_more (λ number s. node.StatusIn (Some number) state (Some s)) first.told status first.each (subst (λ (n : ℕ). node.StatusIn (Some n) state (Some status)) (sym first.all) told);
        segments = each_more (λ number s. IsCounted state files known number s) first.told status first.segments (subst (λ (n : ℕ). IsCounted state files known n status) (sym first.all) counted);
        lines = ap (λ (t : List ℕ). t ++ lines_of status) first.lines ∙ flat_map_more lines_of [] first.told status;
      }
  more_at status false is told counted first = absurd (let no : ⊥ = cc in no)

  -- the next topic was told
  pub told_more : (up : Bool) (status : TopicStatus) → node.StatusOf up state count (Some status) → IsCounted state files known count status → ToldSoFar up state files known count text
      → ToldSoFar up state files known (count + 1) (text ++ lines_of status)
  told_more true status told counted first = more_at status (nat_lt count (length state.broker.topics)) refl told counted first
  told_more false status told counted first = absurd (let no : ⊥ = cc in no)

  all_at : (there : Bool) → nat_lt count (length state.broker.topics) ≡ there → node.StatusIn (cond there (Some count) None) state None → ToldFirst state files known count text → StatusOf true state files known text
  all_at true is told first = absurd told
  all_at false is told first =
      let few = first.few in
      let none : length state.broker.topics ≤ count = grind (arith, nat_tests) in
      let all : count ≡ length state.broker.topics = omega (arith, few, none) in
      (first.told, record { all = first.all ∙ all; each = first.each; segments = first.segments }, first.lines)

  -- there is no further topic
  pub told_all : (up : Bool) → node.StatusOf up state count None → ToldSoFar up state files known count text → StatusOf up state files known text
  told_all true told first = all_at (nat_lt count (length state.broker.topics)) refl told first
  told_all false told first = first.1

-- the lines of a topic have a byte
pub lines_have_bytes : (status : TopicStatus) → 1 ≤ length (lines_of status)
lines_have_bytes status = omega arith
