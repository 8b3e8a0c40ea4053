-- Two slots, of which one counts.
use Rattle.std.specs.Prelude.{◌≡◌, ◌⊎◌, ℕ, ◌+◌, ◌<◌, ◌≤◌, ◌^◌, List, length}
use Rattle.disk.specs.declared.file_id.TopicId.{TopicId}
use Rattle.disk.specs.declared.file_id.CursorSlot.{CursorSlot}
use Rattle.disk.specs.declared.file_id.CursorSlot.TheVariants.{Zero, One}
use Rattle.disk.specs.declared.file_id.FileId.{FileId}
use Rattle.disk.specs.declared.file_id.FileId.TheVariants.{Catalog, Segment, Slot}
use Rattle.disk.specs.Disk.{Image}
use Rattle.disk.specs.declared.file_id.Folder.{Folder}
use Rattle.gated_log.specs.declared.label.Label.{Label}
use Rattle.gated_log.specs.declared.start.Start.{Start}
use Rattle.gated_log.specs.Labels.{header_size}
use Rattle.gated_log.specs.Batches.{Bodies, IsLog}
use Rattle.gated_log.specs.Headers.{HasOpenHeader, IsOpen}

-- the slots of the topic
abbrev pub SlotsOf : TopicId → FileId → Type 0
SlotsOf topic (Catalog folder) = ⊥
SlotsOf topic (Segment of number) = ⊥
SlotsOf topic (Slot of slot) = of ≡ topic

abbrev pub other_of : CursorSlot → CursorSlot
other_of Zero = One
other_of One = Zero

-- an open header of a lower generation
pub record IsLower (folder : Folder) (generation : ℕ) (file : List ℕ) : Type 0 where
  pub earlier : Label
  pub less : earlier.number < generation
  pub long : header_size folder + 1 ≤ length file
  pub is_open : IsOpen folder earlier file

-- no open header, or one of a lower generation; whatever else stands in the file
abbrev pub Yields : Folder → ℕ → List ℕ → Type 0
Yields folder generation file = (¬ HasOpenHeader folder file) ⊎ IsLower folder generation file

-- a slot stands for these bodies, and the other one yields; no header has the last generation, 2^64 - 1
pub record Counts (folder : Folder) (label : Label) (bodies : Bodies) (file other : List ℕ) : Type 0 where
  pub in_range : label.number + 1 < 2 ^ 64
  pub is : IsLog folder label bodies file
  pub yields : Yields folder label.number other

-- the slots of the topic stand for the bodies of the one that counts, and for where its header says that the ledger begins
pub record Stands (topic : TopicId) (image : Image) (start : Start) (bodies : Bodies) : Type 0 where
  pub slot : CursorSlot
  pub label : Label
  pub starts : label.start ≡ start
  pub counts : Counts topic.folder label bodies (image (Slot topic slot)) (image (Slot topic (other_of slot)))
