-- How many items stand behind a snapshot, or behind what was found.
use Rattle.std.proofs.Common.{◌≡◌, ℕ, ◌+◌, ◌<◌, Bool, true, false, ◌&&◌, nat_le, min, List, [], ◌∷◌, ◌++◌, length, inl, inr, refl, sym, ◌∙◌, ap, arith, append-nil, append_assoc}
use Rattle.std.specs.Prelude.{map as each}
use Rattle.std.proofs.lemmas.Bool.{cases_lt}
use Rattle.std.proofs.lemmas.Bool.Decides.{nat_tests}
use Rattle.std.proofs.lemmas.List.{map-append}
use Rattle.std.proofs.lemmas.List.Sums.{sum_by_push}
use Rattle.disk.specs.declared.file_id.Folder.{Folder}
use Rattle.gated_log.specs.Batches.{Bodies}
use Rattle.cursor_store.specs.declared.told.Told.{Told}
use Rattle.cursor_store.specs.declared.item.Item.{Item}
use Rattle.cursor_store.specs.ItemBytes.{body_of_items}
use Rattle.cursor_store.specs.Behind.{is_due_at, counted_on, AreBehind, AreGrown, StayFew}

-- nothing is behind what is found
pub none_behind : (bodies : Bodies) → AreBehind bodies bodies 0 0
none_behind bodies = record { batches = []; are = sym (append-nil bodies); counted = refl; few = omega (arith) }

-- one batch is behind a snapshot
one_behind : (base new : Bodies) (items : List Item) → new ≡ base ++ body_of_items items ∷ [] → AreBehind base new (min 4096 (length items)) (length items)
one_behind base new items grown = record {
  batches = items ∷ [];
  are = grown;
  counted = omega (arith);
  few = omega (arith);
}

-- one more is behind those that were counted
more_behind : (base old next new : Bodies) (count last : ℕ) (items : List Item) → AreBehind base old count last → next ≡ old → new ≡ next ++ body_of_items items ∷ [] → count < 4096 → AreBehind base new (min 4096 (count + length items)) (length items)
more_behind base old next new count last items behind same grown low =
    let batches = behind.batches in
    let all = sum_by_push length batches items in
    record {
      batches = batches ++ items ∷ [];
      are = grown ∙ ap (λ (b : Bodies). b ++ body_of_items items ∷ []) (same ∙ behind.are) ∙ append_assoc base (each body_of_items batches) (body_of_items items ∷ [])
          ∙ ap (λ (b : Bodies). base ++ b) (sym (map-append body_of_items batches (items ∷ [])));
      counted = omega (arith, behind.counted, all, low);
      few = omega (arith, behind.counted, all, low);
    }

not_both : (b : Bool) → b ≡ true → (b && true) ≡ false → ⊥
not_both true is not = let e : true ≡ false = not in cc
not_both false is not = cc

is_low : (count : ℕ) → (nat_le 4096 count && true) ≡ false → count < 4096
is_low count not = elim (cases_lt count 4096) [
  | inl less ↦ less
  | inr high ↦ let t : nat_le 4096 count ≡ true = grind (arith, nat_tests) in absurd (not_both (nat_le 4096 count) t not)
]

by_due : (due : Bool) (folder : Folder) (entries : ℕ) (told : Told) (base old new : Bodies) (count last : ℕ) (items : List Item) → AreBehind base old count last → (due ≡ false → count < 4096) → AreGrown due folder entries told old new items
    → StayFew due folder entries told base new (counted_on due count (length items)) (length items)
by_due true folder entries told base old new count last items behind low grown = record { next = grown.base; is_next = grown.is_base; behind = one_behind grown.base new items grown.grown }
by_due false folder entries told base old new count last items behind low grown = record { next = base; is_next = refl; behind = more_behind base old grown.base new count last items behind grown.is_base grown.grown (low refl) }

pub few_stay : (folder : Folder) (entries : ℕ) (told : Told) (base old new : Bodies) (count last : ℕ) (can : Bool) (items : List Item) → AreBehind base old count last → AreGrown (is_due_at count can) folder entries told old new items → can ≡ true
    → StayFew (is_due_at count can) folder entries told base new (counted_on (is_due_at count can) count (length items)) (length items)
few_stay folder entries told base old new count last false items behind grown is = cc
few_stay folder entries told base old new count last true items behind grown is = by_due (nat_le 4096 count && true) folder entries told base old new count last items behind (λ not. is_low count not) grown
