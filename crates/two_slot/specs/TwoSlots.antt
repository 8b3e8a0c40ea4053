-- What two slots remember of their files.
use Rattle.std.specs.Prelude.{◌≡◌, ℕ, ◌+◌, ◌<◌, ◌≤◌, ◌^◌, Bool, false, List, length}
use Rattle.disk.specs.declared.file_id.TopicId.{TopicId}
use Rattle.disk.specs.declared.file_id.FileId.TheVariants.{Slot}
use Rattle.disk.specs.Disk.{Image}
use Rattle.disk.specs.declared.file_id.Folder.{Folder}
use Rattle.gated_log.specs.declared.label.Label.{Label}
use Rattle.gated_log.specs.declared.start.Start.{Start}
use Rattle.gated_log.specs.Labels.{header_size}
use Rattle.gated_log.specs.Batches.{Bodies}
use Rattle.gated_log.specs.Headers.{HasOpenHeader}
use Rattle.gated_log.specs.Logs.{LogHolds, log_id, log_content}
use Rattle.two_slot.specs.declared.spare.Spare.{Spare}
use Rattle.two_slot.specs.declared.spare.Spare.TheVariants.{Short, Shut, Lower}
use Rattle.two_slot.specs.declared.slots_id.SlotsId.{SlotsId}
use Rattle.two_slot.specs.declared.two_slot.TwoSlot.{TwoSlot}
use Rattle.two_slot.specs.Slots.{other_of, IsLower}

-- the topic whose slots they are
abbrev pub topic_of : TwoSlot → TopicId
topic_of slots = slots.topic

-- an append failed
abbrev pub failed : TwoSlot → Bool
failed slots = slots.failed

-- the generation of the slot that counts
abbrev pub generation_of : TwoSlot → ℕ
generation_of slots = (log_id slots.log).label.number

-- the label of its header
abbrev pub label_of : TwoSlot → Label
label_of slots = (log_id slots.log).label

-- where the ledger begins, as it says
abbrev pub start_of : TwoSlot → Start
start_of slots = (log_id slots.log).label.start

-- which slots they are
abbrev pub slots_id : TwoSlot → SlotsId
slots_id slots = record { topic = slots.topic; start = start_of slots; generation = generation_of slots }

-- the file of the slot that doesn't count, beside this generation
abbrev pub IsSpare : Folder → Spare → ℕ → List ℕ → Type 0
IsSpare folder Short generation file = length file < header_size folder
IsSpare folder Shut generation file = (¬ HasOpenHeader folder file) × (header_size folder ≤ length file)
IsSpare folder Lower generation file = IsLower folder generation file

-- The slots work, and their files hold these bodies just as they remember them.
pub record Holds (slots : TwoSlot) (image : Image) (bodies : Bodies) : Type 0 where
  pub works : slots.failed ≡ false
  pub log : LogHolds slots.log image bodies
  pub in_range : generation_of slots + 1 < 2 ^ 64
  pub spare : IsSpare slots.topic.folder slots.spare (generation_of slots) (image (Slot slots.topic (other_of slots.counts)))

-- the bodies in the file of the slot that counts, as many as it remembers; also after a failure
abbrev pub content : TwoSlot → Image → Bodies
content slots image = log_content slots.log image
