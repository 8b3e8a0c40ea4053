-- A ledger that is trimmed, or isn't.
use Rattle.std.proofs.Common.{◌≡◌, ℕ, ◌+◌, ◌-◌, ◌≤◌, ◌<◌, Bool, true, false, max, zero, suc, List, [], ◌∷◌, take, drop, refl, sym, ap, arith}
use Rattle.gated_log.specs.declared.start.Start.{Start}
use Rattle.managed_ledger.specs.Entries.{Ledger, trimmed}
use Rattle.managed_ledger.specs.Points.{Begins}
use Rattle.managed_ledger.specs.Shape.{total}
use Rattle.records.specs.Floors.{HaveBelow}
use Rattle.cursor_store.specs.Trimming.{HasGeneration}
use Rattle.records.specs.Maps.{Kept}
use Rattle.topic_stores.specs.Appends.{IsOneReplaceLess}
use Rattle.topic_stores.specs.Writing.{IsTrim}

-- one that begins where it did
pub trimmed_none : (l : Ledger) (b : ℕ) → b ≡ l.base → trimmed b l ≡ l
trimmed_none l b same =
    let base : max l.base b ≡ l.base = omega (arith, same) in
    let entries = ap (λ (n : ℕ). drop n l.entries) (let none : b - l.base ≡ 0 = omega (arith, same) in none) in
    (λ i. record { base = base i; entries = entries i })

pub no_trim : (l : Ledger) (limit : ℕ) (kept : Kept) → HaveBelow l.base kept → IsTrim l limit kept l
no_trim l limit kept have = record { rises = omega arith; below = omega arith; acknowledged = have; is = sym (trimmed_none l l.base refl) }

-- one that begins at the limit or before it
pub a_trim : (l : Ledger) (limit b : ℕ) (kept : Kept) → b ≤ limit → HaveBelow (max l.base b) kept → IsTrim l limit kept (trimmed b l)
a_trim l limit b kept low have =
    let base : max l.base b ≡ max l.base (max l.base b) = omega arith in
    let entries = ap (λ (n : ℕ). drop n l.entries) (let same : b - l.base ≡ max l.base b - l.base = omega arith in same) in
    record { rises = omega arith; below = omega (arith, low); acknowledged = have; is = λ i. record { base = base i; entries = entries i } }

-- no segment begins behind the last position
total_front : (n : ℕ) (counts : List ℕ) → total (take n counts) ≤ total counts
total_front zero counts = omega arith
total_front (suc n) [] = omega arith
total_front (suc n) (count ∷ counts) = omega (arith, total_front n counts)

pub begins_within : (from to : Start) (counts : List ℕ) (end : ℕ) → from.base + total counts ≡ end → Begins from counts to → to.base ≤ end
begins_within from to counts end is begins = omega (arith, is, begins.base_is, total_front begins.number counts)

-- where a trim has a generation behind a replace that is due, it has one once that is over
pub one_left : (due : Bool) (left new : ℕ) → HasGeneration due left → IsOneReplaceLess due left new → 0 < new
one_left true left new has less = omega (arith, has, less)
one_left false left new has less = omega (arith, has, less)
