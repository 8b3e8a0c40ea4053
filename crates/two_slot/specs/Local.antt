-- Two slots look at their own files alone.
use Rattle.std.proofs.Common.{◌≡◌, inl, inr, ℕ, List, refl, sym, ◌∙◌, subst, arith}
use Rattle.disk.specs.declared.file_id.TopicId.{TopicId}
use Rattle.disk.specs.declared.file_id.FileId.{FileId}
use Rattle.disk.specs.declared.file_id.FileId.TheVariants.{Slot}
use Rattle.disk.specs.Disk.{Image}
use Rattle.disk.specs.Areas.{Agree, folder_of}
use Rattle.disk.specs.declared.file_id.Folder.{Folder}
use Rattle.gated_log.specs.declared.start.Start.{Start}
use Rattle.gated_log.specs.Batches.{Bodies, IsLog}
use Rattle.gated_log.specs.Local.{holds_local_lem as log_local, content_local_lem as log_content_local}
use Rattle.gated_log.specs.Logs.{log_id}
use Rattle.two_slot.specs.declared.spare.Spare.{Spare}
use Rattle.two_slot.specs.declared.spare.Spare.TheVariants.{Short, Shut, Lower}
use Rattle.two_slot.specs.declared.two_slot.TwoSlot.{TwoSlot}
use Rattle.two_slot.specs.Slots.{SlotsOf, other_of, Yields, Stands}
use Rattle.two_slot.specs.TwoSlots.{Holds, IsSpare, content, generation_of, label_of, start_of}

-- the file of the slot that counts is one of theirs
own_file : (slots : TwoSlot) (f : FileId) → f ≡ (log_id slots.log).file → SlotsOf slots.topic f
own_file slots f is = subst (λ (file : FileId). SlotsOf slots.topic file) (sym (is ∙ slots.is_slot)) refl

pub stands_local_lem : (topic : TopicId) (a b : Image) (start : Start) (bodies : Bodies) → Agree (SlotsOf topic) a b → Stands topic a start bodies → Stands topic b start bodies
stands_local_lem topic a b start bodies same is = record {
  slot = is.slot;
  label = is.label;
  starts = is.starts;
  counts = record {
    in_range = is.counts.in_range;
    is = subst (λ (l : List ℕ). IsLog topic.folder is.label bodies l) (sym (same (Slot topic is.slot) refl)) is.counts.is;
    yields = subst (λ (l : List ℕ). Yields topic.folder is.label.number l) (sym (same (Slot topic (other_of is.slot)) refl)) is.counts.yields;
  };
}

pub holds_local_lem : (slots : TwoSlot) (a b : Image) (bodies : Bodies) → Agree (SlotsOf slots.topic) a b → Holds slots a bodies → Holds slots b bodies
holds_local_lem slots a b bodies same holds = record {
  works = holds.works;
  log = log_local slots.log a b bodies (λ f own. same f (own_file slots f own)) holds.log;
  in_range = holds.in_range;
  spare = subst (λ (l : List ℕ). IsSpare slots.topic.folder slots.spare (generation_of slots) l) (sym (same (Slot slots.topic (other_of slots.counts)) refl)) holds.spare;
}

pub content_local_lem : (slots : TwoSlot) (a b : Image) → Agree (SlotsOf slots.topic) a b → content slots b ≡ content slots a
content_local_lem slots a b same = log_content_local slots.log a b (λ f own. same f (own_file slots f own))

-- the slot that doesn't count yields
pub spare_yields : (folder : Folder) (spare : Spare) (generation : ℕ) (file : List ℕ) → IsSpare folder spare generation file → Yields folder generation file
spare_yields folder Short generation file short = inl (λ is_open. absurd (omega (arith, short, is_open.whole)))
spare_yields folder Shut generation file is = inl is.0
spare_yields folder Lower generation file low = inr low

-- slots that hold bodies stand for them
pub holds_stand : (slots : TwoSlot) (image : Image) (bodies : Bodies) → Holds slots image bodies → Stands slots.topic image (start_of slots) bodies
holds_stand slots image bodies holds = record {
  slot = slots.counts;
  label = label_of slots;
  starts = refl;
  counts = record {
    in_range = holds.in_range;
    is = subst (λ (file : FileId). IsLog (folder_of file) (label_of slots) bodies (image file)) slots.is_slot holds.log.is;
    yields = spare_yields slots.topic.folder slots.spare (generation_of slots) (image (Slot slots.topic (other_of slots.counts))) holds.spare;
  };
}
