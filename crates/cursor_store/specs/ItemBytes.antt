-- The bytes of items. Our own format.
use Rattle.std.specs.Prelude.{◌≡◌, ℕ, List, [], ◌∷◌, ◌++◌, ◌==◌, if◌then◌else◌, drop, Option, Some, None}
use Rattle.std.specs.List.{flat_map}
use Rattle.disk.specs.declared.file_id.Folder.{Folder}
use Rattle.disk.specs.declared.file_id.Folder.TheVariants as version
use Rattle.gated_log.specs.declared.start.Start.{Start}
use Rattle.records.specs.Maps.{Kept}
use Rattle.records.specs.declared.record.Record.{Record}
use Rattle.records.specs.Bytes.{placed, spelling}
use Rattle.records.specs.Reading.{first_position, first_record}
use Rattle.cursor_store.specs.declared.told.Told.{Told}
use Rattle.cursor_store.specs.declared.item.Item.{Item}
use Rattle.cursor_store.specs.declared.item.Item.TheVariants.{Change, Trim}
use Rattle.cursor_store.specs.Items.{IsItem, AreItems, told_after, all_told, untold, told_of}

-- a record, or in version 1 a trim: its kind, the position, and the segment
abbrev pub item_spelling : Item → List ℕ
item_spelling (Change change) = spelling change
item_spelling (Trim start) = 6 ∷ (placed start.base ++ placed start.first)

-- the body of a batch: its kind, and the items
abbrev pub body_of_items : List Item → List ℕ
body_of_items items = 0 ∷ flat_map item_spelling items

-- The body of items of their form, beside a ledger of so many entries and what is told before it, and what they make of that.
pub record IsItemsBody (folder : Folder) (entries : ℕ) (old : Told) (body : List ℕ) (new : Told) : Type 0 where
  pub items : List Item
  pub body_is : body ≡ body_of_items items
  pub formed : AreItems folder entries old items
  pub new_is : new ≡ all_told items old

-- the bodies are of their form, each behind the ones before it, and make that of what is told
abbrev pub MeansItems : Folder → ℕ → Told → List (List ℕ) → Told → Type 0
MeansItems folder entries told [] end = end ≡ told
MeansItems folder entries told (body ∷ bodies) end = (next : Told) × IsItemsBody folder entries told body next × MeansItems folder entries next bodies end

-- behind a header of version 2 that says this start, the bodies make these subscriptions from nothing
abbrev pub Means : ℕ → Start → List (List ℕ) → Kept → Type 0
Means entries start bodies kept = MeansItems version.Two entries (untold start) bodies (told_of start kept)

-- ---- how they are read

abbrev pub with_segment : ℕ → Option ℕ → List ℕ → Option (Item × List ℕ)
with_segment base None bytes = None
with_segment base (Some first) bytes = Some (Trim (record { base = base; first = first }), drop 8 bytes)

abbrev pub with_base : Option ℕ → List ℕ → Option (Item × List ℕ)
with_base None bytes = None
with_base (Some base) bytes = with_segment base (first_position (drop 8 bytes)) (drop 8 bytes)

-- the trim whose position and segment begin these bytes, with what stands behind it
abbrev pub first_trim : List ℕ → Option (Item × List ℕ)
first_trim bytes = with_base (first_position bytes) bytes

abbrev pub as_change : Option (Record × List ℕ) → Option (Item × List ℕ)
as_change None = None
as_change (Some found) = Some (Change found.0, found.1)

-- the first item, with what stands behind it; version 2 has no trims
abbrev pub first_item : Folder → List ℕ → Option (Item × List ℕ)
first_item folder [] = None
first_item version.One (kind ∷ bytes) = if kind == 6 then first_trim bytes else as_change (first_record (kind ∷ bytes))
first_item version.Two (kind ∷ bytes) = as_change (first_record (kind ∷ bytes))

-- no item of its form stands at the beginning of these bytes
abbrev pub HasNoItem : Folder → ℕ → Told → List ℕ → Type 0
HasNoItem folder entries told bytes = (item : Item) (behind : List ℕ) → first_item folder bytes ≡ Some (item, behind) → ¬ IsItem folder entries told item

-- one stands there, with this behind it, and makes that of what is told
pub record HasItem (folder : Folder) (entries : ℕ) (old new : Told) (bytes behind : List ℕ) : Type 0 where
  pub first : Item
  pub is_first : first_item folder bytes ≡ Some (first, behind)
  pub formed : IsItem folder entries old first
  pub told_is : new ≡ told_after first old
