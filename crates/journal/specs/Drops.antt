-- Segments that are given back.
use Rattle.std.specs.Prelude.{◌≡◌, ℕ, ◌<◌, ◌≤◌, []}
use Rattle.disk.specs.declared.file_id.TopicId.{TopicId}
use Rattle.disk.specs.declared.file_id.FileId.{FileId}
use Rattle.disk.specs.declared.file_id.FileId.TheVariants.{Segment}
use Rattle.disk.specs.Disk.{Disk, Image}

-- the segments of the topic from one number on and before another one
abbrev pub Dropped : TopicId → ℕ → ℕ → FileId → Type 0
Dropped topic from to f = (k : ℕ) × (from ≤ k) × (k < to) × (f ≡ Segment topic k)

-- reads find nothing in the file, and a crash leaves nothing of it
pub record IsEmpty (file : FileId) (disk : Disk) : Type 0 where
  pub now : disk.seen file ≡ []
  pub left : (c : Image) → disk.may_leave c → c file ≡ []

-- these segments are empty
abbrev pub AreEmpty : TopicId → ℕ → ℕ → Disk → Type 0
AreEmpty topic from to disk = (f : FileId) → Dropped topic from to f → IsEmpty f disk
