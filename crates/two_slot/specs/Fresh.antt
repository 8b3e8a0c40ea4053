-- Two slots as they are made.
use Rattle.std.specs.Prelude.{◌≡◌}
use Rattle.std.proofs.Common.{subst}
use Rattle.disk.specs.declared.file_id.TopicId.{TopicId}
use Rattle.disk.specs.declared.file_id.CursorSlot.{CursorSlot}
use Rattle.disk.specs.declared.file_id.CursorSlot.TheVariants.{Zero, One}
use Rattle.disk.specs.declared.file_id.FileId.{FileId}
use Rattle.disk.specs.declared.file_id.FileId.TheVariants.{Slot}
use Rattle.disk.specs.Disk.{Image}
use Rattle.disk.specs.Areas.{folder_of}
use Rattle.gated_log.specs.declared.label.Label.{Label}
use Rattle.gated_log.specs.declared.start.Start.{Start}
use Rattle.gated_log.specs.Batches.{Bodies, IsLog}
use Rattle.two_slot.specs.declared.slot_header.SlotHeader.TheVariants.{Closed, Open}
use Rattle.two_slot.specs.declared.spare.Spare.{Spare}
use Rattle.two_slot.specs.declared.spare.Spare.TheVariants.{Shut}
use Rattle.two_slot.specs.declared.two_slot.TwoSlot.{TwoSlot}
use Rattle.two_slot.specs.Slots.{other_of}
use Rattle.two_slot.specs.SlotHeaders.{IsSlotHeader}
use Rattle.two_slot.specs.TwoSlots.{Holds, IsSpare, generation_of, label_of, start_of}
use Rattle.two_slot.specs.One.{log_open, log_long}

-- slot 0 counts, its generation is the first one, and the header of slot 1 is whole and closed
pub record AreFresh (slots : TwoSlot) : Type 0 where
  pub slot_is : slots.counts ≡ Zero
  pub generation_is : generation_of slots ≡ 1
  pub spare_is : slots.spare ≡ Shut

-- the header of slot 0 is open, with generation 1 and this start, and that of slot 1 is closed
pub record HaveFirstHeaders (topic : TopicId) (start : Start) (image : Image) : Type 0 where
  pub zero : IsSlotHeader topic.folder (image (Slot topic Zero)) (Open (record { number = 1; start = start }))
  pub one : IsSlotHeader topic.folder (image (Slot topic One)) Closed

-- fresh slots that hold bodies have such headers
pub fresh_headers : (slots : TwoSlot) (image : Image) (bodies : Bodies) → AreFresh slots → Holds slots image bodies → HaveFirstHeaders slots.topic (start_of slots) image
fresh_headers slots image bodies fresh holds =
    let folder = slots.topic.folder in
    let first : Label = record { number = 1; start = start_of slots } in
    let label : label_of slots ≡ first = (λ i. record { number = fresh.generation_is i; start = start_of slots }) in
    let own : IsLog folder (label_of slots) bodies (image (Slot slots.topic slots.counts)) = subst (λ (file : FileId). IsLog (folder_of file) (label_of slots) bodies (image file)) slots.is_slot holds.log.is in
    let log : IsLog folder (label_of slots) bodies (image (Slot slots.topic Zero)) = subst (λ (s : CursorSlot). IsLog folder (label_of slots) bodies (image (Slot slots.topic s))) fresh.slot_is own in
    let spare : IsSpare folder slots.spare (generation_of slots) (image (Slot slots.topic One)) = subst (λ (s : CursorSlot). IsSpare folder slots.spare (generation_of slots) (image (Slot slots.topic (other_of s)))) fresh.slot_is holds.spare in
    let file = image (Slot slots.topic Zero) in
    record {
      zero = subst (λ (l : Label). IsSlotHeader folder file (Open l)) label (log_long folder (label_of slots) bodies file log, log_open folder (label_of slots) bodies file log, holds.in_range);
      one = subst (λ (s : Spare). IsSpare folder s (generation_of slots) (image (Slot slots.topic One))) fresh.spare_is spare;
    }
