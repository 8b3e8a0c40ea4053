-- A ledger that grows, and whose first entries go.
use Rattle.std.proofs.Common.{◌≡◌, ◌⊎◌, inl, inr, ⊎_elim, ℕ, zero, suc, ◌+◌, ◌-◌, ◌≤◌, ◌<◌, max, Bool, true, false, List, [], ◌∷◌, ◌++◌, length, drop, refl, ap, sym, ◌∙◌, arith, append_assoc, length-append}
use Rattle.std.specs.Prelude.{cond, nat_lt, slice_get, get_or, Option, None, Some}
use Rattle.std.proofs.lemmas.Bool.{cases_lt}
use Rattle.std.proofs.lemmas.Bool.Decides.{nat_tests}
use Rattle.std.proofs.lemmas.List.{drop-append-le, length-drop, append-nil}
use Rattle.std.proofs.lemmas.Option.{slice_get-get_or, slice_get_within}
use Rattle.managed_ledger.specs.Entries.{Entries, Ledger, end_of, entry_at, lengthened, trimmed}

-- it has entries more, and those below a position are gone
pub record IsGrown (old new : Ledger) : Type 0 where
  pub more : Entries
  pub below : ℕ
  pub within : below ≤ end_of (lengthened old more)
  pub is : new ≡ trimmed below (lengthened old more)

-- ---- an entry at its position

pub below_is : (l : Ledger) (i : ℕ) → i < l.base → entry_at l i ≡ None
unfolding entry_at
below_is l i low = let t : nat_lt i l.base ≡ true = grind (arith, nat_tests) in ap (λ (b : Bool). cond b None (slice_get l.entries (i - l.base))) t

pub there_is : (l : Ledger) (i : ℕ) → l.base ≤ i → entry_at l i ≡ slice_get l.entries (i - l.base)
unfolding entry_at
there_is l i high = let t : nat_lt i l.base ≡ false = grind (arith, nat_tests) in ap (λ (b : Bool). cond b None (slice_get l.entries (i - l.base))) t

none_some : {X : Type 0} (x : X) → (let o : Option X = None in o ≡ Some x) → ⊥
none_some x same = cc

-- where there is an entry
pub entry_within : (l : Ledger) (i : ℕ) (entry : List ℕ) → entry_at l i ≡ Some entry → (l.base ≤ i) × (i < end_of l)
entry_within l i entry is = elim (cases_lt i l.base) [
  | inl less ↦ absurd (none_some entry (sym (below_is l i less) ∙ is))
  | inr more ↦
      let within : i - l.base < length l.entries = slice_get_within l.entries (i - l.base) entry (sym (there_is l i more) ∙ is) in
      (more, omega (arith, more, within))
]

-- there is one
pub there_within : (l : Ledger) (i : ℕ) → l.base ≤ i → i < end_of l → (entry : List ℕ) × (entry_at l i ≡ Some entry)
there_within l i high low = (get_or l.entries (i - l.base) [], there_is l i high ∙ slice_get-get_or l.entries (i - l.base) [] (omega (arith, high, low)))

slice_more : {X : Type 0} (xs ys : List X) (i : ℕ) → i < length xs → slice_get (xs ++ ys) i ≡ slice_get xs i
slice_more [] ys i low = absurd (omega (arith, low))
slice_more (x ∷ xs) ys zero low = refl
slice_more (x ∷ xs) ys (suc i) low = slice_more xs ys i (omega (arith, low))

-- entries more leave those that are there
pub entry_stays : (l : Ledger) (more : Entries) (i : ℕ) → i < end_of l → entry_at (lengthened l more) i ≡ entry_at l i
entry_stays l more i low = elim (cases_lt i l.base) [
  | inl less ↦ below_is (lengthened l more) i less ∙ sym (below_is l i less)
  | inr high ↦ there_is (lengthened l more) i high ∙ slice_more l.entries more (i - l.base) (omega (arith, low, high)) ∙ sym (there_is l i high)
]

pub entry_kept : (l : Ledger) (more : Entries) (i : ℕ) (entry : List ℕ) → entry_at l i ≡ Some entry → entry_at (lengthened l more) i ≡ Some entry
entry_kept l more i entry is = entry_stays l more i (entry_within l i entry is).1 ∙ is

-- one entry more
last_at : {X : Type 0} (xs : List X) (x : X) (n : ℕ) → n ≡ length xs → slice_get (xs ++ x ∷ []) n ≡ Some x
last_at [] x zero is = refl
last_at [] x (suc n) is = absurd (omega (arith, is))
last_at (y ∷ xs) x zero is = absurd (omega (arith, is))
last_at (y ∷ xs) x (suc n) is = last_at xs x n (omega (arith, is))

there_or_last_at : {X : Type 0} (xs : List X) (x : X) (i : ℕ) (y : X) → slice_get (xs ++ x ∷ []) i ≡ Some y → (slice_get xs i ≡ Some y) ⊎ ((length xs ≡ i) × (x ≡ y))
there_or_last_at [] x zero y is = inr (refl, cc)
there_or_last_at [] x (suc i) y is = absurd cc
there_or_last_at (z ∷ xs) x zero y is = inl is
there_or_last_at (z ∷ xs) x (suc i) y is = ⊎_elim (λ old. inl old) (λ new. inr (omega (arith, new.0), new.1)) (there_or_last_at xs x i y is)

pub entry_last : (l : Ledger) (entry : List ℕ) (i : ℕ) → i ≡ end_of l → entry_at (lengthened l (entry ∷ [])) i ≡ Some entry
entry_last l entry i is = there_is (lengthened l (entry ∷ [])) i (omega (arith, is)) ∙ last_at l.entries entry (i - l.base) (omega (arith, is))

pub entry_or_last : (l : Ledger) (last : List ℕ) (i : ℕ) (entry : List ℕ) → entry_at (lengthened l (last ∷ [])) i ≡ Some entry → (entry_at l i ≡ Some entry) ⊎ ((end_of l ≡ i) × (last ≡ entry))
entry_or_last l last i entry is =
    let high = (entry_within (lengthened l (last ∷ [])) i entry is).0 in
    ⊎_elim (λ old. inl (there_is l i high ∙ old)) (λ new. inr (omega (arith, high, new.0), new.1))
    (there_or_last_at l.entries last (i - l.base) entry (sym (there_is (lengthened l (last ∷ [])) i high) ∙ is))

-- ---- entries more, one after another

pub end_lengthened : (l : Ledger) (more : Entries) → end_of (lengthened l more) ≡ end_of l + length more
end_lengthened l more = omega (arith, length-append l.entries more)

pub lengthened_none : (l : Ledger) → lengthened l [] ≡ l
lengthened_none l = (λ i. record { base = l.base; entries = append-nil l.entries i })

pub lengthened_both : (l : Ledger) (one other : Entries) → lengthened (lengthened l one) other ≡ lengthened l (one ++ other)
lengthened_both l one other = (λ i. record { base = l.base; entries = append_assoc l.entries one other i })

-- ---- the first ones gone

pub end_trimmed : (l : Ledger) (b : ℕ) → b ≤ end_of l → end_of (trimmed b l) ≡ end_of l
end_trimmed l b low = omega (arith, low, length-drop (b - l.base) l.entries)

got_behind : {X : Type 0} (n k : ℕ) (xs : List X) → slice_get (drop n xs) k ≡ slice_get xs (n + k)
got_behind zero k xs = ap (λ (j : ℕ). slice_get xs j) (let same : k ≡ 0 + k = omega arith in same)
got_behind (suc n) k [] = refl
got_behind (suc n) k (x ∷ xs) = got_behind n k xs ∙ ap (λ (j : ℕ). slice_get (x ∷ xs) j) (let same : suc (n + k) ≡ suc n + k = omega arith in same)

pub kept_trimmed : (l : Ledger) (b i : ℕ) → b ≤ i → entry_at (trimmed b l) i ≡ entry_at l i
kept_trimmed l b i low = elim (cases_lt i l.base) [
  | inl less ↦ below_is (trimmed b l) i (omega (arith, less)) ∙ sym (below_is l i less)
  | inr more ↦
      there_is (trimmed b l) i (omega (arith, low, more))
      ∙ got_behind (b - l.base) (i - max l.base b) l.entries
      ∙ ap (λ (j : ℕ). slice_get l.entries j) (let same : b - l.base + (i - max l.base b) ≡ i - l.base = omega (arith, low, more) in same)
      ∙ sym (there_is l i more)
]

lengthens : (l : Ledger) (b : ℕ) (more : Entries) → b ≤ end_of l → lengthened (trimmed b l) more ≡ trimmed b (lengthened l more)
lengthens l b more low = (λ i. record { base = max l.base b; entries = sym (drop-append-le (b - l.base) l.entries more (omega (arith, low))) i })

none_dropped : {X : Type 0} (n : ℕ) → drop {A = X} n [] ≡ []
none_dropped zero = refl
none_dropped (suc n) = refl

drops_both : {X : Type 0} (n m : ℕ) (xs : List X) → drop m (drop n xs) ≡ drop (n + m) xs
drops_both zero m xs = ap (λ (j : ℕ). drop j xs) (let same : m ≡ 0 + m = omega arith in same)
drops_both (suc n) m [] = none_dropped m ∙ sym (none_dropped (suc n + m))
drops_both (suc n) m (x ∷ xs) = drops_both n m xs ∙ ap (λ (j : ℕ). drop j (x ∷ xs)) (let same : suc (n + m) ≡ suc n + m = omega arith in same)

trims_both : (l : Ledger) (b c : ℕ) → trimmed c (trimmed b l) ≡ trimmed (max b c) l
trims_both l b c =
    let base : max (max l.base b) c ≡ max l.base (max b c) = omega arith in
    let entries = drops_both (b - l.base) (c - max l.base b) l.entries ∙ ap (λ (j : ℕ). drop j l.entries) (let same : b - l.base + (c - max l.base b) ≡ max b c - l.base = omega arith in same) in
    (λ i. record { base = base i; entries = entries i })

-- ledgers that grew and were trimmed, one after another
pub grows_both : (a b c : Ledger) → IsGrown a b → IsGrown b c → IsGrown a c
grows_both a b c first second =
    let long = lengthened a first.more in
    let all = lengthened a (first.more ++ second.more) in
    let joined : lengthened long second.more ≡ all = lengthened_both a first.more second.more in
    let there : end_of b ≡ end_of long = ap (λ (l : Ledger). end_of l) first.is ∙ end_trimmed long first.below first.within in
    record {
      more = first.more ++ second.more;
      below = max first.below second.below;
      within = omega (arith, first.within, second.within, there, length-append a.entries first.more, length-append a.entries (first.more ++ second.more), length-append first.more second.more, length-append b.entries second.more);
      is =
          second.is
          ∙ ap (λ (l : Ledger). trimmed second.below (lengthened l second.more)) first.is
          ∙ ap (λ (l : Ledger). trimmed second.below l) (lengthens long first.below second.more first.within)
          ∙ trims_both (lengthened long second.more) first.below second.below
          ∙ ap (λ (l : Ledger). trimmed (max first.below second.below) l) joined;
    }
