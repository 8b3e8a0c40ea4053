-- What is known of a ledger's entries: their slots, and how many messages they have.
use Rattle.std.proofs.Common.{◌≡◌, ℕ, zero, suc, ◌+◌, ◌-◌, ◌≤◌, max, List, [], ◌∷◌, ◌++◌, length, drop, map, replicate, Some, refl, sym, ap, ◌∙◌, arith, append_assoc, length-append}
use Rattle.std.specs.Prelude.{slice_get, slice_index}
use Rattle.std.specs.List.{AllByRecursion}
use Rattle.std.proofs.lemmas.List.{length-map, length-replicate, map-append, drop-map}
use Rattle.managed_ledger.specs.Entries.{Entries, Ledger, end_of, entry_at, lengthened, trimmed}
use Rattle.managed_ledger.specs.Trims.{there_is, entry_within, lengthened_none}
use Rattle.subscriptions.proofs.Fronts.{behind_copies}
use Rattle.subscriptions.specs.Marks.{IsCount}
use Rattle.topic_core.specs.Messages.{messages_of_entry, messages_of, marks_of}
use Rattle.topic_core.specs.Slots.{slot_of_entry, slots_of}
use Rattle.topic_core.proofs.Counting.{each_count}

-- something is known of each entry, and something else where the entry is gone
module _ (gone : ℕ) (of : List ℕ → ℕ) where
  abbrev pub known_of : Ledger → List ℕ
  known_of l = replicate l.base gone ++ map of l.entries

  length_known : (l : Ledger) → length (known_of l) ≡ end_of l
  length_known l = omega (arith, length-append (replicate l.base gone) (map of l.entries), length-replicate {A = ℕ} l.base gone, length-map l.entries of)

  -- entries more
  pub known_lengthened : (l : Ledger) (more : Entries) → known_of (lengthened l more) ≡ known_of l ++ map of more
  known_lengthened l more =
      ap (λ (s : List ℕ). replicate l.base gone ++ s) (map-append of l.entries more)
      ∙ sym (append_assoc (replicate l.base gone) (map of l.entries) (map of more))

  -- entries that a trim takes
  pub known_trimmed : (l : Ledger) (b : ℕ) → replicate (max l.base b) gone ++ drop (max l.base b) (known_of l) ≡ known_of (trimmed b l)
  known_trimmed l b = ap (λ (s : List ℕ). replicate (max l.base b) gone ++ s)
      (behind_copies (max l.base b) l.base gone (map of l.entries) (omega arith)
      ∙ ap (λ (n : ℕ). drop n (map of l.entries)) (let same : max l.base b - l.base ≡ b - l.base = omega arith in same)
      ∙ drop-map of (b - l.base) l.entries)

  -- what is known at the position of an entry is of that entry, whatever comes behind
  known_within : (entries more : Entries) (i : ℕ) (entry : List ℕ) → slice_get entries i ≡ Some entry → slice_index (map of (entries ++ more)) i ≡ of entry
  known_within [] more i entry is = cc
  known_within (e ∷ entries) more zero entry is = let same : e ≡ entry = cc in ap (λ (x : List ℕ). of x) same
  known_within (e ∷ entries) more (suc i) entry is = known_within entries more i entry is

  index_behind : (n : ℕ) (known : List ℕ) (i : ℕ) → n ≤ i → slice_index (replicate n gone ++ known) i ≡ slice_index known (i - n)
  index_behind zero known i le = ap (λ (j : ℕ). slice_index known j) (let same : i ≡ i - 0 = omega arith in same)
  index_behind (suc n) known zero le = absurd (omega (arith, le))
  index_behind (suc n) known (suc i) le = index_behind n known i (omega (arith, le)) ∙ ap (λ (j : ℕ). slice_index known j) (let same : i - n ≡ suc i - suc n = omega arith in same)

  pub known_at : (l : Ledger) (more : Entries) (i : ℕ) (entry : List ℕ) → entry_at l i ≡ Some entry → slice_index (known_of (lengthened l more)) i ≡ of entry
  known_at l more i entry is =
      let high = (entry_within l i entry is).0 in
      index_behind l.base (map of (l.entries ++ more)) i high
      ∙ known_within l.entries more (i - l.base) entry (sym (there_is l i high) ∙ is)

pub length_slots : (l : Ledger) → length (slots_of l) ≡ end_of l
length_slots l = length_known 0 slot_of_entry l

-- as many marks as entries came, and each entry has its messages
pub record AreMarks (slots messages : List ℕ) (count : ℕ) : Type 0 where
  pub slotted : length slots ≡ count
  pub counted : length messages ≡ count
  pub few : AllByRecursion IsCount messages

pub nothing_marked : AreMarks [] [] 0
nothing_marked = record { slotted = refl; counted = refl; few = tt }

pub are_marks : (l : Ledger) → AreMarks (slots_of l) (messages_of l) (end_of l)
are_marks l = record { slotted = length_slots l; counted = length_known 1 messages_of_entry l; few = each_count l }

pub marks_none : (l : Ledger) → marks_of l ≡ marks_of (lengthened l [])
marks_none l = ap (λ (x : Ledger). marks_of x) (sym (lengthened_none l))
