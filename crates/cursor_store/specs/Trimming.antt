-- What says that the ledger begins later from then on.
use Rattle.std.specs.Prelude.{◌≡◌, ◌<◌, ◌^◌, ℕ, Bool, true, false, List, Option, None, Some}
use Rattle.records.specs.declared.record.Record.{Record}
use Rattle.records.specs.Maps.{Kept}
use Rattle.records.specs.Records.{after_all}
use Rattle.gated_log.specs.declared.start.Start.{Start}
use Rattle.cursor_store.specs.declared.prepared_trim.PreparedTrim.{PreparedTrim}
use Rattle.cursor_store.specs.Items.{FitsLedger, MayBegin, told_of}
use Rattle.cursor_store.specs.Snapshots.{IsSnapshot}

-- the ledger, which begins at the one, may begin at the other beside what is kept, once it is long enough
abbrev pub MayTrim : Start → Kept → Start → Type 0
MayTrim from kept start = MayBegin (2 ^ 62) (told_of from kept) start

-- there is a generation for a replace, behind one that goes first where that is due
abbrev pub HasGeneration : Bool → ℕ → Type 0
HasGeneration true left = 1 < left
HasGeneration false left = 0 < left

-- a snapshot of what is kept, behind a header that says the new start
pub record IsTrimFor (prepared : PreparedTrim) (from : Start) (kept : Kept) (start : Start) : Type 0 where
  pub snapshot : (entries : ℕ) → FitsLedger entries (told_of start kept) → IsSnapshot entries prepared.snapshot (told_of start kept)
  pub start_is : prepared.start ≡ start
  pub may : MayTrim from kept start

-- one where the ledger may begin there and it can be said so; else none
abbrev pub IsTrimIf : {P : Type 0} → (P → Start → Kept → Start → Type 0) → Type 0 → Option P → Start → Kept → Start → Type 0
IsTrimIf trims can None from kept start = can → ¬ MayTrim from kept start
IsTrimIf trims can (Some prepared) from kept start = can × trims prepared from kept start

-- what is kept after what was prepared, where something was
abbrev pub IsKeptBehind : {P : Type 0} → (P → List Record → Type 0) → Kept → Option P → Kept → Type 0
IsKeptBehind is_for old None kept = kept ≡ old
IsKeptBehind is_for old (Some prepared) kept = (records : List Record) × is_for prepared records × (kept ≡ after_all records old)
