-- The first fault of a topic's files is known from them alone.
use Rattle.std.proofs.Common.{inl, inr, ⊎_elim, ℕ, ◌+◌, List, [], ◌∷◌, length, refl, sym, subst}
use Rattle.disk.specs.declared.file_id.CursorSlot.TheVariants.{Zero, One as Second}
use Rattle.disk.specs.declared.file_id.FileId.TheVariants.{Segment, Slot}
use Rattle.disk.specs.declared.file_id.TopicId.{TopicId}
use Rattle.disk.specs.Disk.{Image}
use Rattle.disk.specs.Areas.{Agree, FilesOf}
use Rattle.gated_log.specs.declared.refusal.Refusal.{Refusal}
use Rattle.gated_log.specs.declared.start.Start.{Start}
use Rattle.gated_log.specs.Batches.{IsLog}
use Rattle.gated_log.specs.Folds.{Form, IsFault as IsLogFault}
use Rattle.journal.specs.Chains.{Link, SegmentsOf, ClosedStand, closed_batches_of}
use Rattle.journal.specs.Folded.{IsNamedFault, segment_form}
use Rattle.two_slot.specs.declared.choice.Choice.{Choice}
use Rattle.two_slot.specs.declared.choice.Choice.TheVariants.{Refuse, Read, ReadZero}
use Rattle.two_slot.specs.Choices.{choice}
use Rattle.two_slot.specs.Faults.{IsFaultBy, IsOf}
use Rattle.two_slot.specs.SlotHeaders.{IsSlotHeader}
use Rattle.two_slot.specs.Slots.{SlotsOf}
use Rattle.managed_ledger.specs.Folded.{AreLedger, IsFault as IsLedgerFault}
use Rattle.managed_ledger.specs.Settled.{stand_local}
use Rattle.cursor_store.specs.Folded.{IsFault as IsSlotsFault, IsOfItems}
use Rattle.cursor_store.specs.FrontLaws.{begins_local}
use Rattle.topic_stores.specs.Laws.{segment_own, slot_own}
use Rattle.topic_stores.specs.Old.{IsOldFault, old}

closed_local : (topic : TopicId) (from : ℕ) (a b : Image) (links : List Link) → Agree (SegmentsOf topic) a b → ClosedStand topic from a links → ClosedStand topic from b links
closed_local topic from a b [] same is = tt
closed_local topic from a b (link ∷ links) same is =
    (subst (λ (l : List ℕ). IsLog topic.folder link.label (closed_batches_of link) l) (sym (same (Segment topic from) refl)) is.0, closed_local topic (from + 1) a b links same is.1)

segments_local : (topic : TopicId) (start : Start) (a b : Image) (e : Refusal) → Agree (SegmentsOf topic) a b → IsLedgerFault topic start a e → IsLedgerFault topic start b e
segments_local topic start a b e same is =
    let file = Segment topic (start.first + length is.closed) in
    record {
      closed = is.closed;
      stand = closed_local topic start.first a b is.closed same is.stand;
      formed = is.formed;
      fault = subst (λ (l : List ℕ). IsNamedFault (segment_form (AreLedger start.base) is.closed) file l e) (sym (same file refl)) is.fault;
    }

by_local : (chosen : Choice) (form : Form) (topic : TopicId) (a b : Image) (e : Refusal) → Agree (SlotsOf topic) a b → IsFaultBy chosen form topic a e → IsFaultBy chosen form topic b e
by_local (Refuse slot fault) form topic a b e same is = is
by_local (Read slot spare) form topic a b e same is = subst (λ (l : List ℕ). IsLogFault form (Slot topic slot) l e) (sym (same (Slot topic slot) refl)) is
by_local (ReadZero fault) form topic a b e same is =
    let there = sym (same (Slot topic Zero) refl) in
    ⊎_elim (λ bad. inl (subst (λ (l : List ℕ). IsLogFault form (Slot topic Zero) l e) there bad)) (λ good. inr (subst (λ (l : List ℕ). IsOf topic.folder form l) there good.0, good.1)) is

slots_local : (topic : TopicId) (entries : ℕ) (a b : Image) (e : Refusal) → Agree (SlotsOf topic) a b → IsSlotsFault topic entries a e → IsSlotsFault topic entries b e
slots_local topic entries a b e same is = record {
  zero = is.zero;
  one = is.one;
  zero_is = subst (λ (l : List ℕ). IsSlotHeader topic.folder l is.zero) (sym (same (Slot topic Zero) refl)) is.zero_is;
  one_is = subst (λ (l : List ℕ). IsSlotHeader topic.folder l is.one) (sym (same (Slot topic Second) refl)) is.one_is;
  fault = by_local (choice is.zero is.one) (IsOfItems topic.folder entries) topic a b e same is.fault;
}

pub fault_local : (number : ℕ) (a b : Image) (e : Refusal) → Agree (FilesOf (old number)) a b → IsOldFault number a e → IsOldFault number b e
fault_local number a b e same is =
    let t = old number in
    let start = is.0 in
    let slots : Agree (SlotsOf t) a b = λ f own. same f (slot_own t f own) in
    let segments : Agree (SegmentsOf t) a b = λ f own. same f (segment_own t f own) in (
      start,
      begins_local t a b start slots is.1,
      ⊎_elim (λ out. inl out)
          (λ there. inr (
            there.0,
            ⊎_elim
                (λ bad. inl (segments_local t start a b e segments bad))
                (λ rest. inr (rest.0, stand_local t start a b rest.0 segments rest.1, slots_local t _ a b e slots rest.2)) there.1,
          )) is.2,
    )
