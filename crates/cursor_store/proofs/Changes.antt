-- Records, as items.
use Rattle.std.proofs.Common.{◌≡◌, ◌∙◌, Bool, refl, ap, ℕ, List, [], ◌∷◌, ◌++◌}
use Rattle.std.specs.Prelude.{map as each}
use Rattle.std.specs.List.{flat_map}
use Rattle.disk.specs.declared.file_id.Folder.{Folder}
use Rattle.records.specs.declared.record.Record.{Record}
use Rattle.records.specs.Maps.{Kept}
use Rattle.records.specs.Records.{AreFormed, after, after_all}
use Rattle.records.specs.Bytes.{spelling, body_of}
use Rattle.gated_log.specs.Batches.{Bodies}
use Rattle.gated_log.specs.declared.start.Start.{Start}
use Rattle.cursor_store.specs.declared.told.Told.{Told}
use Rattle.cursor_store.specs.declared.item.Item.TheVariants.{Change}
use Rattle.cursor_store.specs.Behind.{IsNextBase, AreGrown}
use Rattle.records.specs.Floors.{StartFrom}
use Rattle.cursor_store.specs.Items.{AreItems, all_told, told_of}
use Rattle.cursor_store.specs.ItemBytes.{item_spelling, body_of_items, IsItemsBody}

changes_spelling : (records : List Record) → flat_map spelling records ≡ flat_map item_spelling (each Change records)
changes_spelling [] = refl
changes_spelling (r ∷ records) = ap (λ (l : List ℕ). spelling r ++ l) (changes_spelling records)

pub changes_body : (records : List Record) → body_of records ≡ body_of_items (each Change records)
changes_body records = ap (λ (l : List ℕ). 0 ∷ l) (changes_spelling records)

changes_formed : (folder : Folder) (entries : ℕ) (start : Start) (kept : Kept) (records : List Record) → AreFormed entries kept records → StartFrom start.base records → AreItems folder entries (told_of start kept) (each Change records)
changes_formed folder entries start kept [] formed from = tt
changes_formed folder entries start kept (r ∷ records) formed from = ((formed.0, from.0), changes_formed folder entries start (after r kept) records formed.1 from.1)

changes_told : (start : Start) (kept : Kept) (records : List Record) → told_of start (after_all records kept) ≡ all_told (each Change records) (told_of start kept)
changes_told start kept [] = refl
changes_told start kept (r ∷ records) = changes_told start (after r kept) records

-- the body of records of their form
pub records_body : (folder : Folder) (entries : ℕ) (start : Start) (kept : Kept) (records : List Record) → AreFormed entries kept records → StartFrom start.base records
    → IsItemsBody folder entries (told_of start kept) (body_of records) (told_of start (after_all records kept))
records_body folder entries start kept records formed from = record {
  items = each Change records;
  body_is = changes_body records;
  formed = changes_formed folder entries start kept records formed from;
  new_is = changes_told start kept records;
}

-- a body of records is one of items
pub records_grown : (due : Bool) (folder : Folder) (entries : ℕ) (told : Told) (old new base : Bodies) (records : List Record) → IsNextBase due folder entries told old base → new ≡ base ++ body_of records ∷ [] → AreGrown due folder entries told old new (each Change records)
records_grown due folder entries told old new base records next grown = record { base = base; is_base = next; grown = grown ∙ ap (λ (b : List ℕ). base ++ b ∷ []) (changes_body records) }
