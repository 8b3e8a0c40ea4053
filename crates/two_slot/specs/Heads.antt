-- What is known of two slots by their heads.
use Rattle.disk.specs.declared.file_id.TopicId.{TopicId}
use Rattle.disk.specs.declared.file_id.CursorSlot.{CursorSlot}
use Rattle.disk.specs.declared.file_id.CursorSlot.TheVariants.{Zero, One}
use Rattle.disk.specs.Disk.{Disk}
use Rattle.gated_log.specs.declared.head.LogHead.{LogHead}
use Rattle.gated_log.specs.Head.{HasHead}
use Rattle.two_slot.specs.declared.heads.SlotHeads.{SlotHeads}

abbrev pub heads_topic : SlotHeads → TopicId
heads_topic heads = heads.topic

abbrev pub head_in : SlotHeads → CursorSlot → LogHead
head_in heads Zero = heads.zero
head_in heads One = heads.one

-- the heads of the files, and a crash leaves these as they were read
pub record HaveHeads (heads : SlotHeads) (disk : Disk) : Type 0 where
  pub zero : HasHead heads.zero disk
  pub one : HasHead heads.one disk
