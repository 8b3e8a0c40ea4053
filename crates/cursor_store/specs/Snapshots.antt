-- What a replace writes, and how far it has come.
use Rattle.std.specs.Prelude.{◌≡◌, ℕ, ◌+◌, ◌≤◌, Bool, true, false, List, Option, None, Some, vec_len}
use Rattle.disk.specs.declared.file_id.Folder.TheVariants as version
use Rattle.gated_log.specs.declared.prepared_log.PreparedLog.{PreparedLog}
use Rattle.gated_log.specs.Batches.{Bodies}
use Rattle.gated_log.specs.Wholes.{Builds, IsLogOf}
use Rattle.cursor_store.specs.declared.told.Told.{Told}
use Rattle.cursor_store.specs.declared.item.Item.{Item}
use Rattle.cursor_store.specs.declared.snapshot_writer.SnapshotWriter.{SnapshotWriter}
use Rattle.cursor_store.specs.Items.{FitsLedger, AreItems, all_told, untold}
use Rattle.cursor_store.specs.ItemBytes.{body_of_items, MeansItems}

-- behind a header of version 2 that says this start, bodies that tell this from nothing, beside a ledger of so many entries
pub record IsSnapshot (entries : ℕ) (log : PreparedLog) (told : Told) : Type 0 where
  pub bodies : Bodies
  pub is : IsLogOf log bodies
  pub means : MeansItems version.Two entries (untold told.start) bodies told

-- one where it is due, beside each ledger that it fits; else none
abbrev pub IsSnapshotIf : Bool → Told → Option PreparedLog → Type 0
IsSnapshotIf true told (Some log) = (entries : ℕ) → FitsLedger entries told → IsSnapshot entries log told
IsSnapshotIf true told None = ⊥
IsSnapshotIf false told (Some log) = ⊥
IsSnapshotIf false told None = Unit {0}

-- whole bodies, and items of the one that grows, which tell this from nothing
pub record HasWritten (entries : ℕ) (writer : SnapshotWriter) (told : Told) : Type 0 where
  pub bodies : Bodies
  pub builds : Builds writer.log bodies
  pub before : Told
  pub means : MeansItems version.Two entries (untold told.start) bodies before
  pub items : List Item
  pub body_is : writer.body.items ≡ body_of_items items
  pub formed : AreItems version.Two entries before items
  pub told_is : told ≡ all_told items before

-- so many bytes more fit into the body that grows
abbrev pub HasRoom : SnapshotWriter → ℕ → Type 0
HasRoom writer size = vec_len writer.body + size ≤ 33554432
