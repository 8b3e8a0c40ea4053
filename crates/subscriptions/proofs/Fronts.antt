-- Entries that are forgotten, and those that come before.
use Rattle.std.proofs.Common.{◌≡◌, ℕ, zero, suc, ◌+◌, ◌-◌, ◌≤◌, List, [], ◌∷◌, ◌++◌, ◌||◌, length, drop, length-append, append_assoc, refl, ap, sym, ◌∙◌, arith}
use Rattle.std.specs.List.{AllByRecursion}
use Rattle.std.proofs.lemmas.List.{length-replicate, length-drop, drop-map, replicate-append-replicate}
use Rattle.cursor.specs.Positions.{Positions, Has, has_union}
use Rattle.std.specs.FinSet as set
use Rattle.subscriptions.specs.Progress.{joined, listed}
use Rattle.subscriptions.specs.declared.entry_marks.Mark.{Mark}
use Rattle.subscriptions.specs.Halves.{messages_of, slots_in, messages_in, marks_of}
use Rattle.subscriptions.specs.Marks.{Marks, behind, forgotten}
use Rattle.subscriptions.specs.State.{Subscription}
use Rattle.subscriptions.specs.Trimming.{IsPast}
use Rattle.std.specs.Prelude.{replicate}

pub behind_copies : {X : Type 0} (base from : ℕ) (x : X) (xs : List X) → from ≤ base → drop base (replicate from x ++ xs) ≡ drop (base - from) xs
behind_copies base zero x xs low = ap (λ (n : ℕ). drop n xs) (let same : base ≡ base - 0 = omega arith in same)
behind_copies zero (suc from) x xs low = absurd (omega (arith, low))
behind_copies (suc base) (suc from) x xs low = behind_copies base from x xs (omega (arith, low)) ∙ ap (λ (n : ℕ). drop n xs) (let same : base - from ≡ suc base - suc from = omega arith in same)

pub copies_stay : {X : Type 0} (base from : ℕ) (x : X) (xs : List X) → base ≤ from → replicate base x ++ drop base (replicate from x ++ xs) ≡ replicate from x ++ xs
copies_stay zero from x xs low = refl
copies_stay (suc base) zero x xs low = absurd (omega (arith, low))
copies_stay (suc base) (suc from) x xs low = ap (λ (l : List _). x ∷ l) (copies_stay base from x xs (omega (arith, low)))

pub forgets : (base from : ℕ) (xs ys : List ℕ) (m new : Marks) → m ≡ record { slots = replicate from 0 ++ xs; messages = replicate from 1 ++ ys } → from ≤ base
    → new ≡ record { slots = replicate base 0 ++ drop (base - from) xs; messages = replicate base 1 ++ drop (base - from) ys } → new ≡ forgotten base m
forgets base from xs ys m new is low after =
    after
    ∙ (λ i. record { slots = replicate base 0 ++ sym (behind_copies base from 0 xs low) i; messages = replicate base 1 ++ sym (behind_copies base from 1 ys low) i })
    ∙ ap (λ (k : Marks). forgotten base k) (sym is)

pub stays : (base from : ℕ) (xs ys : List ℕ) (m : Marks) → m ≡ record { slots = replicate from 0 ++ xs; messages = replicate from 1 ++ ys } → base ≤ from → m ≡ forgotten base m
stays base from xs ys m is low =
    is
    ∙ (λ i. record { slots = sym (copies_stay base from 0 xs low) i; messages = sym (copies_stay base from 1 ys low) i })
    ∙ ap (λ (k : Marks). forgotten base k) (sym is)

-- without the first ones
pub fewer : (base n : ℕ) (marks : List Mark) → marks_of base (drop n marks) ≡ record { slots = replicate base 0 ++ drop n (slots_in marks); messages = replicate base 1 ++ drop n (messages_in marks) }
fewer base n marks = λ i. record { slots = replicate base 0 ++ sym (drop-map (λ (m : Mark). m.slot) n marks) i; messages = replicate base 1 ++ sym (drop-map messages_of n marks) i }

-- ---- what comes before

before_copies : (count from x : ℕ) (xs : List ℕ) → replicate (from + count) x ++ xs ≡ replicate count x ++ (replicate from x ++ xs)
before_copies count from x xs =
    ap (λ (n : ℕ). replicate n x ++ xs) (let same : from + count ≡ count + from = omega arith in same)
    ∙ ap (λ (l : List ℕ). l ++ xs) (sym (replicate-append-replicate count from x))
    ∙ append_assoc (replicate count x) (replicate from x) xs

pub before_all : (count from : ℕ) (xs ys : List ℕ) (m : Marks) → m ≡ record { slots = replicate from 0 ++ xs; messages = replicate from 1 ++ ys }
    → (let new : Marks = record { slots = replicate (from + count) 0 ++ xs; messages = replicate (from + count) 1 ++ ys } in new ≡ behind count m)
before_all count from xs ys m is = (λ i. record { slots = before_copies count from 0 xs i; messages = before_copies count from 1 ys i }) ∙ ap (behind count) (sym is)

pub from_within : (from : ℕ) (xs old : List ℕ) → old ≡ replicate from 0 ++ xs → from ≤ length old
from_within from xs old is = omega (arith, ap (λ (l : List ℕ). length l) is, length-append (replicate from 0) xs, length-replicate {A = ℕ} from 0)

-- as many marks are left
pub forgotten_length : (position mark : ℕ) (marks : List ℕ) → position ≤ length marks → length (replicate position mark ++ drop position marks) ≡ length marks
forgotten_length position mark marks low = omega (arith, low, length-append (replicate position mark) (drop position marks), length-replicate {A = ℕ} position mark, length-drop position marks)

-- ---- what all are past

pub past_lower : (position lower : ℕ) (subs : List Subscription) → lower ≤ position → AllByRecursion (IsPast position) subs → AllByRecursion (IsPast lower) subs
past_lower position lower [] low all = tt
past_lower position lower (s ∷ subs) low all = (λ i less. all.0 i (omega (arith, low, less)), past_lower position lower subs low all.1)

-- late positions take none away
pub past_joined : (acked : Positions) (late : List ℕ) (i : ℕ) → Has acked i → Has (joined acked late) i
past_joined acked late i has = has_union acked (listed late) i ∙ ap (λ b. b || set.contains (listed late) i) has
