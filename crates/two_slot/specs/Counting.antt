-- Which slot is read, as the headers of both say.
use Rattle.std.proofs.Common.{◌≡◌, ℕ, List, Option, Some, None, refl, ap, sym, subst, ◌∙◌}
use Rattle.disk.specs.declared.file_id.TopicId.{TopicId}
use Rattle.disk.specs.declared.file_id.CursorSlot.{CursorSlot}
use Rattle.disk.specs.declared.file_id.CursorSlot.TheVariants.{Zero, One}
use Rattle.disk.specs.declared.file_id.FileId.TheVariants.{Slot}
use Rattle.disk.specs.Disk.{Image}
use Rattle.disk.specs.Areas.{Agree}
use Rattle.gated_log.specs.declared.start.Start.{Start}
use Rattle.gated_log.specs.Batches.{Bodies}
use Rattle.two_slot.specs.declared.slot_header.SlotHeader.{SlotHeader}
use Rattle.two_slot.specs.declared.choice.Choice.{Choice}
use Rattle.two_slot.specs.declared.choice.Choice.TheVariants.{Refuse, Read, ReadZero}
use Rattle.two_slot.specs.Slots.{SlotsOf, Stands}
use Rattle.two_slot.specs.SlotHeaders.{IsSlotHeader}
use Rattle.two_slot.specs.Choices.{choice, start_by}
use Rattle.two_slot.specs.One.{choice_one, header_one}
use Rattle.two_slot.specs.Standing.{counting}

-- the slot that a choice reads
abbrev pub read_by : Choice → Option CursorSlot
read_by (Refuse slot fault) = None
read_by (Read slot spare) = Some slot
read_by (ReadZero fault) = Some Zero

-- the headers of both slots, and the slot that is read by them
pub record IsCounting (topic : TopicId) (image : Image) (slot : Option CursorSlot) : Type 0 where
  pub zero : SlotHeader
  pub one : SlotHeader
  pub zero_is : IsSlotHeader topic.folder (image (Slot topic Zero)) zero
  pub one_is : IsSlotHeader topic.folder (image (Slot topic One)) one
  pub slot_is : slot ≡ read_by (choice zero one)

-- it is one
pub counting_one : (topic : TopicId) (image : Image) (a b : Option CursorSlot) → IsCounting topic image a → IsCounting topic image b → a ≡ b
counting_one topic image a b is is' =
    is.slot_is ∙ ap (λ (c : Choice). read_by c) (choice_one topic image is.zero is.one is'.zero is'.one is.zero_is is.one_is is'.zero_is is'.one_is) ∙ sym is'.slot_is

-- and where the slots stand for bodies, the one that counts
pub counting_stands : (topic : TopicId) (image : Image) (start : Start) (bodies : Bodies) (a : Option CursorSlot) (stands : Stands topic image start bodies) → IsCounting topic image a → a ≡ Some stands.slot
counting_stands topic image start bodies a stands is =
    let read = counting topic image bodies stands.slot stands.label stands.counts in
    counting_one topic image a (Some stands.slot) is (record { zero = read.zero; one = read.one; zero_is = read.zero_is; one_is = read.one_is; slot_is = sym (ap (λ (c : Choice). read_by c) read.choice_is) })

-- the headers of both slots, and where the ledger begins by them
pub record BeginsBy (topic : TopicId) (image : Image) (start : Start) : Type 0 where
  pub zero : SlotHeader
  pub one : SlotHeader
  pub zero_is : IsSlotHeader topic.folder (image (Slot topic Zero)) zero
  pub one_is : IsSlotHeader topic.folder (image (Slot topic One)) one
  pub start_is : start ≡ start_by zero one

-- it is one
pub begins_by_one : (topic : TopicId) (image : Image) (a b : Start) → BeginsBy topic image a → BeginsBy topic image b → a ≡ b
begins_by_one topic image a b is is' =
    let zeros = header_one topic.folder (image (Slot topic Zero)) is.zero is'.zero is.zero_is is'.zero_is in
    let ones = header_one topic.folder (image (Slot topic One)) is.one is'.one is.one_is is'.one_is in
    is.start_is ∙ (λ i. start_by (zeros i) (ones i)) ∙ sym is'.start_is

-- and where the slots stand for something, that start
pub begins_by_stands : (topic : TopicId) (image : Image) (start said : Start) (bodies : Bodies) → Stands topic image start bodies → BeginsBy topic image said → said ≡ start
begins_by_stands topic image start said bodies stands is =
    let read = counting topic image bodies stands.slot stands.label stands.counts in
    begins_by_one topic image said start is (record { zero = read.zero; one = read.one; zero_is = read.zero_is; one_is = read.one_is; start_is = sym (read.starts ∙ stands.starts) })

-- both are known from the slots alone
pub counting_local : (topic : TopicId) (a b : Image) (slot : Option CursorSlot) → Agree (SlotsOf topic) a b → IsCounting topic a slot → IsCounting topic b slot
counting_local topic a b slot same is = record {
  zero = is.zero;
  one = is.one;
  zero_is = subst (λ (l : List ℕ). IsSlotHeader topic.folder l is.zero) (sym (same (Slot topic Zero) refl)) is.zero_is;
  one_is = subst (λ (l : List ℕ). IsSlotHeader topic.folder l is.one) (sym (same (Slot topic One) refl)) is.one_is;
  slot_is = is.slot_is;
}

pub begins_by_local : (topic : TopicId) (a b : Image) (start : Start) → Agree (SlotsOf topic) a b → BeginsBy topic a start → BeginsBy topic b start
begins_by_local topic a b start same is = record {
  zero = is.zero;
  one = is.one;
  zero_is = subst (λ (l : List ℕ). IsSlotHeader topic.folder l is.zero) (sym (same (Slot topic Zero) refl)) is.zero_is;
  one_is = subst (λ (l : List ℕ). IsSlotHeader topic.folder l is.one) (sym (same (Slot topic One) refl)) is.one_is;
  start_is = is.start_is;
}
