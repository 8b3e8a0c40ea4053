-- Two slots stand for one list, and have one first fault.
use Rattle.std.proofs.Common.{◌≡◌, inl, inr, ⊎_elim, ℕ, ◌+◌, ◌≤◌, ◌<◌, ◌^◌, List, [], ◌∷◌, ◌++◌, length, take, drop, refl, sym, ◌∙◌, ap, subst, arith, append_assoc, length-append}
use Rattle.std.specs.Int.{w64, from_le_bytes}
use Rattle.std.proofs.lemmas.Nat.{from_le_bytes-to_le_bytes_8}
use Rattle.disk.specs.declared.file_id.TopicId.{TopicId}
use Rattle.disk.specs.declared.file_id.CursorSlot.{CursorSlot}
use Rattle.disk.specs.declared.file_id.CursorSlot.TheVariants.{Zero, One}
use Rattle.disk.specs.declared.file_id.FileId.TheVariants.{Slot}
use Rattle.disk.specs.Disk.{Image}
use Rattle.disk.specs.declared.file_id.Folder.{Folder}
use Rattle.disk.specs.declared.file_id.Folder.TheVariants as version
use Rattle.gated_log.specs.declared.label.Label.{Label}
use Rattle.gated_log.specs.declared.start.Start.{Start}
use Rattle.gated_log.specs.Labels.{header, header_size, version_of}
use Rattle.gated_log.specs.Batches.{Bodies, batches, opened, IsLog}
use Rattle.gated_log.specs.Headers.{HasOpenHeader, IsHeaderDamaged, IsOtherVersion, IsOpen, number_in}
use Rattle.gated_log.specs.declared.refusal.Refusal.{Refusal}
use Rattle.gated_log.specs.Folds.{Link, Form, grown}
use Rattle.gated_log.specs.One.{version_open, version_not_damaged, label_one, long_header}
use Rattle.gated_log.specs.OneFault.{log_one}
use Rattle.gated_log.specs.OneFault.{fault_one as file_fault_one, log_no_fault}
use Rattle.two_slot.specs.declared.slot_header.SlotHeader.{SlotHeader}
use Rattle.two_slot.specs.declared.slot_header.SlotHeader.TheVariants.{CutShort, Closed, Open, Faulty}
use Rattle.two_slot.specs.declared.slot_header.HeaderFault.{HeaderFault}
use Rattle.two_slot.specs.declared.slot_header.HeaderFault.TheVariants.{Damage as HeaderDamage, Version as HeaderVersion}
use Rattle.two_slot.specs.declared.choice.Choice.{Choice}
use Rattle.two_slot.specs.declared.choice.Choice.TheVariants.{Refuse, Read, ReadZero}
use Rattle.two_slot.specs.Slots.{other_of, Yields, Counts, Stands}
use Rattle.two_slot.specs.SlotHeaders.{IsFaulty, IsSlotHeader}
use Rattle.two_slot.specs.Choices.{choice}
use Rattle.two_slot.specs.Faults.{IsFaultBy, IsSlotsFault}

-- the generation in an open header
pub open_generation : (folder : Folder) (l : Label) (file : List ℕ) → IsOpen folder l file → number_in file ≡ l.number
open_generation version.One l file is = ap (λ (b : List ℕ). from_le_bytes w64 (take 8 (drop 8 b))) is.bytes ∙ from_le_bytes-to_le_bytes_8 l.number is.in_range.0
open_generation version.Two l file is = ap (λ (b : List ℕ). from_le_bytes w64 (take 8 (drop 8 b))) is.bytes ∙ from_le_bytes-to_le_bytes_8 l.number is.in_range.0

pub generation_one : (folder : Folder) (l m : Label) (file : List ℕ) → IsOpen folder l file → IsOpen folder m file → l.number ≡ m.number
generation_one folder l m file is is' = sym (open_generation folder l file is) ∙ open_generation folder m file is'

-- and the whole label
pub label_is_one : (folder : Folder) (l m : Label) (file : List ℕ) → IsOpen folder l file → IsOpen folder m file → l ≡ m
label_is_one folder l m file is is' = (label_one folder l m is.rest is'.rest is.in_range is'.in_range (ap (λ (b : List ℕ). drop 8 b) (sym is.bytes ∙ is'.bytes))).0

pub log_open : (folder : Folder) (l : Label) (bodies : Bodies) (file : List ℕ) → IsLog folder l bodies file → IsOpen folder l file
unfolding opened
log_open folder l bodies file is = record { rest = batches bodies ++ is.gate ∷ is.rest; in_range = is.in_range; bytes = is.bytes ∙ append_assoc (header folder 1 l) (batches bodies) (is.gate ∷ is.rest) }

pub log_long : (folder : Folder) (l : Label) (bodies : Bodies) (file : List ℕ) → IsLog folder l bodies file → header_size folder + 1 ≤ length file
unfolding opened
log_long folder l bodies file is = omega (arith, ap length is.bytes, length-append (header folder 1 l ++ batches bodies) (is.gate ∷ is.rest), length-append (header folder 1 l) (batches bodies), long_header folder l)

pub open_gate : (folder : Folder) (l : Label) (file : List ℕ) → IsOpen folder l file → HasOpenHeader folder file
open_gate folder l file is = record { rest = drop 1 (header folder 1 l) ++ is.rest; bytes = is.bytes; whole = omega (arith, ap length is.bytes, length-append (header folder 1 l) is.rest, long_header folder l) }

-- a slot that yields to a generation has a lower one, where it is a log
lower : (folder : Folder) (l : Label) (m : ℕ) (bodies : Bodies) (file : List ℕ) → IsLog folder l bodies file → Yields folder m file → l.number < m
lower folder l m bodies file is yields = ⊎_elim
    (λ none. absurd (none (open_gate folder l file (log_open folder l bodies file is))))
    (λ low. omega (arith, low.less, generation_one folder l low.earlier file (log_open folder l bodies file is) low.is_open))
    yields

-- the greater generation counts: not both
not_both : (folder : Folder) (g h : Label) (one other : Bodies) (a b : List ℕ) → Counts folder g one a b → Counts folder h other b a → (g ≡ h) × (one ≡ other)
not_both folder g h one other a b first second =
    let up : g.number < h.number = lower folder g h.number one a first.is second.yields in
    let down : h.number < g.number = lower folder h g.number other b second.is first.yields in
    absurd (omega (arith, up, down))

counting_one : (topic : TopicId) (image : Image) (one other : Bodies) (slot slot' : CursorSlot) (g h : Label)
    → Counts topic.folder g one (image (Slot topic slot)) (image (Slot topic (other_of slot))) → Counts topic.folder h other (image (Slot topic slot')) (image (Slot topic (other_of slot'))) → (g ≡ h) × (one ≡ other)
counting_one topic image one other Zero Zero g h is is' = log_one topic.folder g h one other _ is.is is'.is
counting_one topic image one other Zero One g h is is' = not_both topic.folder g h one other _ _ is is'
counting_one topic image one other One Zero g h is is' = not_both topic.folder g h one other _ _ is is'
counting_one topic image one other One One g h is is' = log_one topic.folder g h one other _ is.is is'.is

pub slots_one : (topic : TopicId) (image : Image) (start from : Start) (one other : Bodies) → Stands topic image start one → Stands topic image from other → (start ≡ from) × (one ≡ other)
slots_one topic image start from one other is is' =
    let same = counting_one topic image one other is.slot is'.slot is.label is'.label is.counts is'.counts in
    (sym is.starts ∙ ap (λ (l : Label). l.start) same.0 ∙ is'.starts, same.1)

-- the faults of an open header exclude one another and a good header
pub faulty_open : (folder : Folder) (file : List ℕ) (fault : HeaderFault) → IsFaulty folder file fault → HasOpenHeader folder file
faulty_open folder file HeaderDamage (inl is) = is.0
faulty_open folder file HeaderDamage (inr is) = open_gate folder is.label file is.is_open
faulty_open folder file HeaderVersion is = version_open folder file is

good_not_damaged : (folder : Folder) (n : Label) (file : List ℕ) → header_size folder + 1 ≤ length file → IsOpen folder n file → IsHeaderDamaged folder file → ⊥
good_not_damaged folder n file long is damaged =
    ⊎_elim (λ other. other (ap (λ (l : List ℕ). take 6 (drop 1 l)) is.bytes)) (λ short. absurd (omega (arith, short, long))) damaged.1

good_version : (folder : Folder) (n : Label) (file : List ℕ) → IsOpen folder n file → IsOtherVersion folder file → ⊥
good_version folder n file is other =
    let same = sym other.bytes ∙ is.bytes in
    let version_is : other.version ≡ version_of folder = ap (λ (l : List ℕ). head_of (drop 7 l)) same in
    other.other version_is
  where
    head_of : List ℕ → ℕ
    head_of [] = 0
    head_of (x ∷ xs) = x

good_not_faulty : (folder : Folder) (n : Label) (file : List ℕ) (fault : HeaderFault) → header_size folder + 1 ≤ length file → IsOpen folder n file → n.number + 1 < 2 ^ 64 → IsFaulty folder file fault → ⊥
good_not_faulty folder n file HeaderDamage long is small (inl damaged) = good_not_damaged folder n file long is damaged
good_not_faulty folder n file HeaderDamage long is small (inr last) = absurd (omega (arith, small, last.last, generation_one folder n last.label file is last.is_open))
good_not_faulty folder n file HeaderVersion long is small other = good_version folder n file is other

header_fault_one : (folder : Folder) (file : List ℕ) (one other : HeaderFault) → IsFaulty folder file one → IsFaulty folder file other → one ≡ other
header_fault_one folder file HeaderDamage HeaderDamage is is' = refl
header_fault_one folder file HeaderDamage HeaderVersion (inl is) is' = absurd (version_not_damaged folder file is' is)
header_fault_one folder file HeaderDamage HeaderVersion (inr is) is' = absurd (good_version folder is.label file is.is_open is')
header_fault_one folder file HeaderVersion HeaderDamage is (inl is') = absurd (version_not_damaged folder file is is')
header_fault_one folder file HeaderVersion HeaderDamage is (inr is') = absurd (good_version folder is'.label file is'.is_open is)
header_fault_one folder file HeaderVersion HeaderVersion is is' = refl

short_not_open : (folder : Folder) (file : List ℕ) → length file < header_size folder → HasOpenHeader folder file → ⊥
short_not_open folder file short is = absurd (omega (arith, short, is.whole))

pub header_one : (folder : Folder) (file : List ℕ) (one other : SlotHeader) → IsSlotHeader folder file one → IsSlotHeader folder file other → one ≡ other
header_one folder file CutShort CutShort is is' = refl
header_one folder file CutShort Closed is is' = absurd (omega (arith, is, is'.1))
header_one folder file CutShort (Open n) is is' = absurd (omega (arith, is, is'.0))
header_one folder file CutShort (Faulty n fault) is is' = absurd (short_not_open folder file is (faulty_open folder file fault is'.1))
header_one folder file Closed CutShort is is' = absurd (omega (arith, is', is.1))
header_one folder file Closed Closed is is' = refl
header_one folder file Closed (Open n) is is' = absurd (is.0 (open_gate folder n file is'.1))
header_one folder file Closed (Faulty n fault) is is' = absurd (is.0 (faulty_open folder file fault is'.1))
header_one folder file (Open n) CutShort is is' = absurd (omega (arith, is', is.0))
header_one folder file (Open n) Closed is is' = absurd (is'.0 (open_gate folder n file is.1))
header_one folder file (Open n) (Open m) is is' = ap Open (label_is_one folder n m file is.1 is'.1)
header_one folder file (Open n) (Faulty m fault) is is' = absurd (good_not_faulty folder n file fault is.0 is.1 is.2 is'.1)
header_one folder file (Faulty n fault) CutShort is is' = absurd (short_not_open folder file is' (faulty_open folder file fault is.1))
header_one folder file (Faulty n fault) Closed is is' = absurd (is'.0 (faulty_open folder file fault is.1))
header_one folder file (Faulty n fault) (Open m) is is' = absurd (good_not_faulty folder m file fault is'.0 is'.1 is'.2 is.1)
header_one folder file (Faulty n fault) (Faulty m fault') is is' = let generations = is.0 ∙ sym is'.0 in let faults = header_fault_one folder file fault fault' is.1 is'.1 in (λ i. Faulty (generations i) (faults i))

-- the choice of the headers
pub choice_one : (topic : TopicId) (image : Image) (zero one zero' one' : SlotHeader) → IsSlotHeader topic.folder (image (Slot topic Zero)) zero → IsSlotHeader topic.folder (image (Slot topic One)) one → IsSlotHeader topic.folder (image (Slot topic Zero)) zero' → IsSlotHeader topic.folder (image (Slot topic One)) one'
    → choice zero one ≡ choice zero' one'
choice_one topic image zero one zero' one' a b a' b' = λ i. choice (header_one topic.folder (image (Slot topic Zero)) zero zero' a a' i) (header_one topic.folder (image (Slot topic One)) one one' b b' i)

module _ (form : Form) (less : (log : Link) (body : List ℕ) → form (grown log body) → form log) where
  by_one : (by : Choice) (topic : TopicId) (image : Image) (one other : Refusal) → IsFaultBy by form topic image one → IsFaultBy by form topic image other → one ≡ other
  by_one (Refuse slot fault) topic image one other is is' = is ∙ sym is'
  by_one (Read slot spare) topic image one other is is' = file_fault_one form less (Slot topic slot) (image (Slot topic slot)) one other is is'
  by_one (ReadZero fault) topic image one other (inl is) (inl is') = file_fault_one form less (Slot topic Zero) (image (Slot topic Zero)) one other is is'
  by_one (ReadZero fault) topic image one other (inl is) (inr good) = absurd (log_no_fault form less good.0.0 (Slot topic Zero) (image (Slot topic Zero)) one good.0.1 good.0.2 is)
  by_one (ReadZero fault) topic image one other (inr good) (inl is') = absurd (log_no_fault form less good.0.0 (Slot topic Zero) (image (Slot topic Zero)) other good.0.1 good.0.2 is')
  by_one (ReadZero fault) topic image one other (inr good) (inr good') = good.1 ∙ sym good'.1

  pub slots_fault_one : (topic : TopicId) (image : Image) (one other : Refusal) → IsSlotsFault form topic image one → IsSlotsFault form topic image other → one ≡ other
  slots_fault_one topic image one other is is' =
      let by = choice_one topic image is.zero is.one is'.zero is'.one is.zero_is is.one_is is'.zero_is is'.one_is in
      by_one (choice is'.zero is'.one) topic image one other (subst (λ (c : Choice). IsFaultBy c form topic image one) by is.fault) is'.fault
