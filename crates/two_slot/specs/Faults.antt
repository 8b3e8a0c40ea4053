-- Why an opening refuses the slots of a topic, whose one log must have a form.
use Rattle.std.specs.Prelude.{◌≡◌, ◌⊎◌, ℕ, List}
use Rattle.disk.specs.declared.file_id.TopicId.{TopicId}
use Rattle.disk.specs.declared.file_id.Folder.{Folder}
use Rattle.disk.specs.declared.file_id.CursorSlot.{CursorSlot}
use Rattle.disk.specs.declared.file_id.CursorSlot.TheVariants.{Zero, One}
use Rattle.disk.specs.declared.file_id.FileId.TheVariants.{Slot}
use Rattle.disk.specs.Disk.{Image}
use Rattle.gated_log.specs.declared.refusal.Refusal.{Refusal}
use Rattle.gated_log.specs.declared.refusal.Refusal.TheVariants.{Version, Damaged}
use Rattle.gated_log.specs.Batches.{IsLog}
use Rattle.gated_log.specs.Folds.{Link, Form, IsFault}
use Rattle.two_slot.specs.declared.slot_header.SlotHeader.{SlotHeader}
use Rattle.two_slot.specs.declared.slot_header.HeaderFault.{HeaderFault}
use Rattle.two_slot.specs.declared.slot_header.HeaderFault.TheVariants.{Damage as HeaderDamage, Version as HeaderVersion}
use Rattle.two_slot.specs.declared.choice.Choice.{Choice}
use Rattle.two_slot.specs.declared.choice.Choice.TheVariants.{Refuse, Read, ReadZero}
use Rattle.two_slot.specs.SlotHeaders.{IsSlotHeader}
use Rattle.two_slot.specs.Choices.{choice}

-- a header's fault stands at its own gate, 0
abbrev pub header_refusal : TopicId → CursorSlot → HeaderFault → Refusal
header_refusal topic slot HeaderDamage = Damaged (Slot topic slot) 0
header_refusal topic slot HeaderVersion = Version

-- the file is a log of the form
abbrev pub IsOf : Folder → Form → List ℕ → Type 0
IsOf folder form file = (log : Link) × form log × IsLog folder log.label log.bodies file

-- The first fault, where the headers say so: that of a header, or of the log that is read, or of slot 1's header behind a good slot 0.
abbrev pub IsFaultBy : Choice → Form → TopicId → Image → Refusal → Type 0
IsFaultBy (Refuse slot fault) form topic image refusal = refusal ≡ header_refusal topic slot fault
IsFaultBy (Read slot spare) form topic image refusal = IsFault form (Slot topic slot) (image (Slot topic slot)) refusal
IsFaultBy (ReadZero fault) form topic image refusal = IsFault form (Slot topic Zero) (image (Slot topic Zero)) refusal ⊎ (IsOf topic.folder form (image (Slot topic Zero)) × (refusal ≡ header_refusal topic One fault))

-- The headers of both slots, and the first fault by them.
pub record IsSlotsFault (form : Form) (topic : TopicId) (image : Image) (refusal : Refusal) : Type 0 where
  pub zero : SlotHeader
  pub one : SlotHeader
  pub zero_is : IsSlotHeader topic.folder (image (Slot topic Zero)) zero
  pub one_is : IsSlotHeader topic.folder (image (Slot topic One)) one
  pub fault : IsFaultBy (choice zero one) form topic image refusal
