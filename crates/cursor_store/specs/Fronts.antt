-- Where the slots of a topic say that its ledger begins, as far as they can be read without the ledger.
use Rattle.std.specs.Prelude.{◌≡◌, ◌⊎◌, ℕ, ◌^◌, List, [], ◌∷◌, ◌++◌, Option, Some, None}
use Rattle.disk.specs.declared.file_id.TopicId.{TopicId}
use Rattle.disk.specs.declared.file_id.CursorSlot.{CursorSlot}
use Rattle.disk.specs.declared.file_id.FileId.TheVariants.{Slot}
use Rattle.disk.specs.declared.file_id.FileId.{FileId}
use Rattle.disk.specs.Disk.{Disk, Image}
use Rattle.disk.specs.Areas.{Agree, folder_of}
use Rattle.gated_log.specs.Head.{IsHead}
use Rattle.gated_log.specs.declared.reader.LogReader.{LogReader}
use Rattle.disk.specs.declared.file_id.Folder.{Folder}
use Rattle.disk.specs.declared.file_id.Folder.TheVariants as version
use Rattle.gated_log.specs.declared.label.Label.{Label}
use Rattle.gated_log.specs.Labels.{IsLabel}
use Rattle.gated_log.specs.Batches.{Bodies, opened, AllFit}
use Rattle.gated_log.specs.Folds.{IsBatch}
use Rattle.gated_log.specs.Reading.{HasRead, reader_id}
use Rattle.two_slot.specs.Counting.{IsCounting, BeginsBy}
use Rattle.two_slot.specs.Heads.{heads_topic}
use Rattle.gated_log.specs.declared.start.Start.{Start}
use Rattle.gated_log.specs.Starts.{untrimmed}
use Rattle.cursor_store.specs.declared.told.Told.{Told}
use Rattle.cursor_store.specs.declared.heads.StoreHeads.{StoreHeads}
use Rattle.cursor_store.specs.Items.{untold}
use Rattle.cursor_store.specs.ItemBytes.{IsItemsBody, MeansItems}

-- At the front of a file of version 1 stand whole batches, whose bodies tell this beside some ledger; and behind them no whole batch whose
-- body goes on so.
pub record HasFront (file : List ℕ) (told : Told) : Type 0 where
  pub label : Label
  pub bodies : Bodies
  pub gate : ℕ
  pub rest : List ℕ
  pub in_range : IsLabel version.One label
  pub fit : AllFit bodies
  pub bytes : file ≡ opened version.One label bodies ++ gate ∷ rest
  pub means : MeansItems version.One (2 ^ 62) (untold label.start) bodies told
  pub longest : (body : List ℕ) (next : Told) → gate ≡ 1 → IsItemsBody version.One (2 ^ 62) told body next → ¬ IsBatch body rest

-- where that front says; a file without one says that nothing was trimmed
abbrev pub BeginsIn : List ℕ → Start → Type 0
BeginsIn file start = ((told : Told) × HasFront file told × (start ≡ told.start)) ⊎ (((told : Told) → ¬ HasFront file told) × (start ≡ untrimmed))

-- in the slot that is read; where the headers are refused nothing was
abbrev pub BeginsAt : Option CursorSlot → TopicId → Image → Start → Type 0
BeginsAt None topic image start = start ≡ untrimmed
BeginsAt (Some slot) topic image start = BeginsIn (image (Slot topic slot)) start

-- where the slots of a topic of version 1 say
pub record FrontBegins (topic : TopicId) (image : Image) (start : Start) : Type 0 where
  pub slot : Option CursorSlot
  pub is_counting : IsCounting topic image slot
  pub begins : BeginsAt slot topic image start

abbrev pub BeginsOf : Folder → TopicId → Image → Start → Type 0
BeginsOf version.One topic image start = FrontBegins topic image start
BeginsOf version.Two topic image start = BeginsBy topic image start

-- where the slots of the topic say: in version 2 the header that counts
abbrev pub Begins : TopicId → Image → Start → Type 0
Begins topic image start = BeginsOf topic.folder topic image start

-- ---- the heads that an opening has read

abbrev pub topic_of_heads : StoreHeads → TopicId
topic_of_heads heads = heads_topic heads.slots

abbrev pub start_of_heads : StoreHeads → Start
start_of_heads heads = heads.start

-- the heads of both slots, and where these say that the ledger begins
pub record HasHeads (heads : StoreHeads) (image : Image) : Type 0 where
  pub zero : IsHead heads.slots.zero image
  pub one : IsHead heads.slots.one image
  pub begins : Begins (topic_of_heads heads) image heads.start

-- a crash leaves these files as reads give them
abbrev pub AreSynced : (FileId → Type 0) → Disk → Type 0
AreSynced area disk = (c : Image) → disk.may_leave c → Agree area disk.seen c

-- ---- how far the front is read

-- behind these bodies stands no whole batch behind an open gate
pub record NoneFollows (folder : Folder) (label : Label) (bodies : Bodies) (file : List ℕ) : Type 0 where
  pub gate : ℕ
  pub rest : List ℕ
  pub bytes : file ≡ opened folder label bodies ++ gate ∷ rest
  pub none : (body : List ℕ) → gate ≡ 1 → ¬ IsBatch body rest

-- the next body, where one follows
abbrev pub IsNextWhole : LogReader → LogReader → Image → Bodies → Option (List ℕ) → Type 0
IsNextWhole old new image bodies None = NoneFollows (folder_of (reader_id old).file) (reader_id old).label bodies (image (reader_id old).file)
IsNextWhole old new image bodies (Some body) = HasRead new image (bodies ++ body ∷ [])
