-- What the bodies of a slot tell, item by item: where the topic's ledger begins, and its subscriptions.
use Rattle.std.specs.Prelude.{ℕ, ◌≤◌, ◌^◌, List, [], ◌∷◌}
use Rattle.std.specs.FinMap as map
use Rattle.disk.specs.declared.file_id.Folder.{Folder}
use Rattle.disk.specs.declared.file_id.Folder.TheVariants as version
use Rattle.records.specs.Maps.{Kept}
use Rattle.records.specs.Records.{IsFormed, after}
use Rattle.records.specs.Within.{IsWithin}
use Rattle.gated_log.specs.declared.start.Start.{Start}
use Rattle.cursor_store.specs.declared.told.Told.{Told}
use Rattle.cursor_store.specs.declared.item.Item.{Item}
use Rattle.cursor_store.specs.declared.item.Item.TheVariants.{Change, Trim}
use Rattle.records.specs.Floors.{HaveBelow, StartsFrom}

-- this start, and these subscriptions
abbrev pub told_of : Start → Kept → Told
told_of start kept = record { start = start; kept = kept }

-- before the first item there is no subscription, and the ledger begins where the header says
abbrev pub untold : Start → Told
untold start = told_of start map.empty

-- what an item makes of it
abbrev pub told_after : Item → Told → Told
told_after (Change change) told = told_of told.start (after change told.kept)
told_after (Trim start) told = told_of start told.kept

-- what items make of it, the first one first
abbrev pub all_told : List Item → Told → Told
all_told [] told = told
all_told (item ∷ items) told = all_told items (told_after item told)

-- A ledger of so many entries may begin there: not before it did, nor past its end, nor past a position that a subscription lacks.
pub record MayBegin (entries : ℕ) (told : Told) (start : Start) : Type 0 where
  pub rises : told.start.base ≤ start.base
  pub within : start.base ≤ entries
  pub acknowledged : HaveBelow start.base told.kept
  pub in_range : start.first ≤ 2 ^ 62

-- an item of its form there: a record, which makes no subscription that begins before the ledger does, or in version 1 a trim
abbrev pub IsItem : Folder → ℕ → Told → Item → Type 0
IsItem folder entries told (Change change) = IsFormed entries told.kept change × StartsFrom told.start.base change
IsItem version.One entries told (Trim start) = MayBegin entries told start
IsItem version.Two entries told (Trim start) = ⊥

-- items of their form, each at its place
abbrev pub AreItems : Folder → ℕ → Told → List Item → Type 0
AreItems folder entries told [] = Unit {0}
AreItems folder entries told (item ∷ items) = IsItem folder entries told item × AreItems folder entries (told_after item told) items

-- what is told fits a ledger of so many entries: this has the kept positions, and may begin where it does
pub record FitsLedger (entries : ℕ) (told : Told) : Type 0 where
  pub within : IsWithin entries told.kept
  pub begins : MayBegin entries told told.start
