-- The device over real files, of which nothing is claimed but its failures.
use Rattle.std.specs.Prelude.{◌≡◌, ℕ, ◌+◌, [], Bool, true, Result, IsErr, OnOk}
use Rattle.disk.specs.Disk.{Disk, Lawful}

-- it isn't honest, and has failed so often
abbrev pub disk_counting : ℕ → Disk
disk_counting count = record {
  seen = λ _. [];
  may_leave = λ _. ⊥;
  moment = 0;
  left_since = λ _ _. ⊥;
  faults = count;
  honest = ⊥;
}

pub lawful_counting : (count : ℕ) → ⊥ → Lawful (disk_counting count)
lawful_counting count i = elim i [ ]

-- a call fails exactly where the count of failures rises, and then by one
pub record Counted {T E : Type 0} (result : Result T E) (was is : ℕ) : Type 0 where
  pub failed : IsErr result → is ≡ was + 1
  pub went_well : OnOk result (is ≡ was)

-- where a sync had failed, the call fails, and the next one will
abbrev pub GivesUp : {T E : Type 0} → Result T E → Bool → Bool → Type 0
GivesUp result was is = was ≡ true → IsErr result × (is ≡ true)
