-- What stands in the slot that counts: what was there, or a snapshot, and the batches of items that were appended behind it.
use Rattle.std.specs.Prelude.{◌≡◌, ℕ, ◌+◌, ◌<◌, Bool, true, false, ◌&&◌, nat_le, min, List, [], ◌∷◌, ◌++◌, length, sum_by, map as each}
use Rattle.disk.specs.declared.file_id.Folder.{Folder}
use Rattle.gated_log.specs.Batches.{Bodies}
use Rattle.cursor_store.specs.declared.told.Told.{Told}
use Rattle.cursor_store.specs.declared.item.Item.{Item}
use Rattle.cursor_store.specs.Items.{untold}
use Rattle.cursor_store.specs.ItemBytes.{body_of_items, MeansItems}

-- an append first replaces the slot: so many records were counted, and there is a generation for it
abbrev pub is_due_at : ℕ → Bool → Bool
is_due_at count can = nat_le 4096 count && can

-- the count goes on, from the start where a replace went first
abbrev pub counted_on : Bool → ℕ → ℕ → ℕ
counted_on true was more = min 4096 more
counted_on false was more = min 4096 (was + more)

-- a replace puts bodies there that tell from nothing what was told; else nothing changed
abbrev pub IsNextBase : Bool → Folder → ℕ → Told → Bodies → Bodies → Type 0
IsNextBase true folder entries told old new = MeansItems folder entries (untold told.start) new told
IsNextBase false folder entries told old new = new ≡ old

-- the bodies after an append: that of its items behind the old ones, or behind those of a replace
pub record AreGrown (due : Bool) (folder : Folder) (entries : ℕ) (told : Told) (old new : Bodies) (items : List Item) : Type 0 where
  pub base : Bodies
  pub is_base : IsNextBase due folder entries told old base
  pub grown : new ≡ base ++ body_of_items items ∷ []

-- Behind these bodies, which were found or are a snapshot, stand the batches that were counted: fewer than 4,096 items, and those
-- that came last.
pub record AreBehind (base bodies : Bodies) (count last : ℕ) : Type 0 where
  pub batches : List (List Item)
  pub are : bodies ≡ base ++ each body_of_items batches
  pub counted : count ≡ min 4096 (sum_by length batches)
  pub few : sum_by length batches < 4096 + last

-- what an append leaves: batches behind the old base, or behind a snapshot
pub record StayFew (due : Bool) (folder : Folder) (entries : ℕ) (told : Told) (base new : Bodies) (count last : ℕ) : Type 0 where
  pub next : Bodies
  pub is_next : IsNextBase due folder entries told base next
  pub behind : AreBehind next new count last
