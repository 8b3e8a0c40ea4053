-- A trim that was prepared has a generation.
use Rattle.std.proofs.Common.{◌≡◌, ◌<◌, ◌+◌, if◌then◌else◌, ℕ, Bool, true, false, Option, Some, subst, arith}
use Rattle.gated_log.specs.declared.start.Start.{Start}
use Rattle.records.specs.Maps.{Kept}
use Rattle.cursor_store.specs.Trimming.{HasGeneration, IsTrimIf}

module _ {P : Type 0} (trims : P → Start → Kept → Start → Type 0) (due : Bool) (left : ℕ) (prepared : Option P) (trim : P) (from : Start) (kept : Kept) (start : Start) (is : prepared ≡ Some trim) (told : IsTrimIf trims (HasGeneration due left) prepared from kept start) where
  has : HasGeneration due left
  has = (subst (λ (o : Option P). IsTrimIf trims (HasGeneration due left) o from kept start) is told).0

pub one_left : {P : Type 0} (trims : P → Start → Kept → Start → Type 0) (left : ℕ) (prepared : Option P) (trim : P) (from : Start) (kept : Kept) (start : Start) → prepared ≡ Some trim
    → IsTrimIf trims (HasGeneration false left) prepared from kept start → 0 < left
one_left trims left prepared trim from kept start is told = has trims false left prepared trim from kept start is told

less : (due : Bool) (left new : ℕ) → HasGeneration due left → ((if due then new + 1 else new) ≡ left) → 0 < new
less true left new has gone = omega (arith, has, gone)
less false left new has gone = omega (arith, has, gone)

-- and has one once a replace that is due is over
pub one_left_behind : {P : Type 0} (trims : P → Start → Kept → Start → Type 0) (due : Bool) (left new : ℕ) (prepared : Option P) (trim : P) (from : Start) (kept : Kept) (start : Start) → prepared ≡ Some trim
    → IsTrimIf trims (HasGeneration due left) prepared from kept start → ((if due then new + 1 else new) ≡ left) → 0 < new
one_left_behind trims due left new prepared trim from kept start is told gone = less due left new (has trims due left prepared trim from kept start is told) gone
