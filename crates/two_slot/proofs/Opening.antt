-- Two slots are opened as their headers say.
use Rattle.std.proofs.Common.{◌≡◌, ◌⊎◌, inl, inr, ℕ, ◌+◌, ◌<◌, ◌^◌, Bool, true, false, List, Option, sym, ◌∙◌, ap, subst, arith}
use Rattle.std.specs.Prelude.{nat_lt, if◌then◌else◌}
use Rattle.std.proofs.lemmas.Bool.{cases_lt}
use Rattle.std.proofs.lemmas.Bool.Decides.{nat_tests}
use Rattle.disk.specs.declared.file_id.TopicId.{TopicId}
use Rattle.disk.specs.declared.file_id.CursorSlot.{CursorSlot}
use Rattle.disk.specs.declared.file_id.CursorSlot.TheVariants.{Zero, One}
use Rattle.disk.specs.declared.file_id.FileId.{FileId}
use Rattle.disk.specs.declared.file_id.FileId.TheVariants.{Slot}
use Rattle.disk.specs.Disk.{Disk, Image, Synced, Leaves}
use Rattle.disk.specs.Areas.{folder_of}
use Rattle.gated_log.specs.declared.refusal.Refusal.{Refusal}
use Rattle.gated_log.specs.declared.refusal.Refusal.TheVariants.{Device, NoMemory}
use Rattle.gated_log.specs.declared.label.Label.{Label}
use Rattle.gated_log.specs.declared.start.Start.{Start}
use Rattle.gated_log.specs.Batches.{Bodies, IsLog}
use Rattle.gated_log.specs.Folds.{Form}
use Rattle.gated_log.specs.Head.{IsHead, HasHead, head_file}
use Rattle.gated_log.specs.Headers.{IsOpen}
use Rattle.disk.specs.Contents.{Settled}
use Rattle.gated_log.specs.Logs.{LogHolds, log_id}
use Rattle.two_slot.specs.declared.slot_header.HeaderFault.TheVariants.{Damage as HeaderDamage}
use Rattle.two_slot.specs.declared.slot_header.SlotHeader.{SlotHeader}
use Rattle.two_slot.specs.declared.slot_header.SlotHeader.TheVariants.{CutShort, Closed, Open, Faulty}
use Rattle.two_slot.specs.declared.choice.Choice.{Choice}
use Rattle.two_slot.specs.declared.choice.Choice.TheVariants.{Refuse, Read, ReadZero}
use Rattle.two_slot.specs.declared.heads.SlotHeads.{SlotHeads}
use Rattle.two_slot.specs.declared.spare.Spare.{Spare}
use Rattle.two_slot.specs.declared.spare.Spare.TheVariants.{Lower}
use Rattle.two_slot.specs.declared.two_slot.TwoSlot.{TwoSlot}
use Rattle.two_slot.specs.Slots.{other_of}
use Rattle.two_slot.specs.SlotHeaders.{IsSlotHeader}
use Rattle.two_slot.specs.Choices.{choice, if_open, start_by}
use Rattle.two_slot.specs.Counting.{read_by, IsCounting, BeginsBy}
use Rattle.two_slot.specs.TwoSlots.{Holds, IsSpare, generation_of, label_of}
use Rattle.two_slot.specs.Heads.{HaveHeads, head_in}
use Rattle.two_slot.specs.Faults.{IsFaultBy, IsSlotsFault}
use Rattle.two_slot.specs.One.{generation_one, log_open}

-- the slots of the topic have these headers
pub record HaveHeaders (topic : TopicId) (image : Image) (zero one : SlotHeader) : Type 0 where
  pub zero_is : IsSlotHeader topic.folder (image (Slot topic Zero)) zero
  pub one_is : IsSlotHeader topic.folder (image (Slot topic One)) one

-- these are the headers of both slots, a crash leaves the slots so, and this is what the headers say
pub record Says (topic : TopicId) (disk : Disk) (zero one : SlotHeader) (by : Choice) : Type 0 where
  pub headers : HaveHeaders topic disk.seen zero one
  pub synced : (slot : CursorSlot) → Synced (Slot topic slot) disk
  pub choice_is : by ≡ choice zero one

pub says_of : (heads : SlotHeads) (disk : Disk) (zero one : SlotHeader) (by : Choice) → HaveHeads heads disk → ((image : Image) → IsHead heads.zero image → IsSlotHeader (folder_of (head_file heads.zero)) (image (head_file heads.zero)) zero)
    → ((image : Image) → IsHead heads.one image → IsSlotHeader (folder_of (head_file heads.one)) (image (head_file heads.one)) one) → by ≡ choice zero one → Says heads.topic disk zero one by
says_of heads disk zero one by are zero_of one_of is = record {
  headers = record {
    zero_is = subst (λ (f : FileId). IsSlotHeader (folder_of f) (disk.seen f) zero) heads.zero_is (zero_of disk.seen are.zero.is);
    one_is = subst (λ (f : FileId). IsSlotHeader (folder_of f) (disk.seen f) one) heads.one_is (one_of disk.seen are.one.is);
  };
  synced = each;
  choice_is = is;
}
  where
    each : (slot : CursorSlot) → Synced (Slot heads.topic slot) disk
    each Zero = subst (λ (f : FileId). Synced f disk) heads.zero_is are.zero.synced
    each One = subst (λ (f : FileId). Synced f disk) heads.one_is are.one.synced

-- the first fault is told
pub fault_of : (form : Form) (topic : TopicId) (disk : Disk) (zero one : SlotHeader) (by : Choice) (refusal : Refusal) → Says topic disk zero one by → IsFaultBy by form topic disk.seen refusal → IsSlotsFault form topic disk.seen refusal
fault_of form topic disk zero one by refusal says fault = record {
  zero = zero;
  one = one;
  zero_is = says.headers.zero_is;
  one_is = says.headers.one_is;
  fault = subst (λ (c : Choice). IsFaultBy c form topic disk.seen refusal) says.choice_is fault;
}

-- no memory, the device, or a fault
abbrev pub Told : (Refusal → Type 0) → Refusal → Type 0
Told fault e = (e ≡ NoMemory) ⊎ ((e ≡ Device) ⊎ fault e)

pub told_of : (fault fault' : Refusal → Type 0) (e : Refusal) → (fault e → fault' e) → Told fault e → Told fault' e
told_of fault fault' e by (inl none) = inl none
told_of fault fault' e by (inr (inl device)) = inr (inl device)
told_of fault fault' e by (inr (inr is)) = inr (inr (by is))

-- by the order of two generations
by_order : (P : Choice → Type 0) (h g : ℕ) (x y z : Choice) → (h < g → P x) → (g < h → P y) → (h ≡ g → P z) → P (if nat_lt h g then x else if nat_lt g h then y else z)
by_order P h g x y z less more same = elim (cases_lt h g) [
  | inl low ↦ let t : nat_lt h g ≡ true = grind (arith, nat_tests) in subst (λ (b : Bool). P (if b then x else if nat_lt g h then y else z)) (sym t) (less low)
  | inr high ↦ let t : nat_lt h g ≡ false = grind (arith, nat_tests) in subst (λ (b : Bool). P (if b then x else if nat_lt g h then y else z)) (sym t) (elim (cases_lt g h) [
    | inl low ↦ let u : nat_lt g h ≡ true = grind (arith, nat_tests) in subst (λ (b : Bool). P (if b then y else z)) (sym u) (more low)
    | inr tied ↦ let u : nat_lt g h ≡ false = grind (arith, nat_tests) in subst (λ (b : Bool). P (if b then y else z)) (sym u) (same (omega (arith, high, tied)))
  ])
]

-- the slot that is read has a good header, and so has the other one
abbrev IsRead : TopicId → Image → Choice → Type 0
IsRead topic image (Refuse slot fault) = Unit {0}
IsRead topic image (ReadZero fault) = Unit {0}
IsRead topic image (Read slot spare) = (g : Label) × IsOpen topic.folder g (image (Slot topic slot)) × (g.number + 1 < 2 ^ 64) × IsSpare topic.folder spare g.number (image (Slot topic (other_of slot)))

chosen_open : (topic : TopicId) (image : Image) (g : Label) (one : SlotHeader) → IsSlotHeader topic.folder (image (Slot topic Zero)) (Open g) → IsSlotHeader topic.folder (image (Slot topic One)) one → IsRead topic image (if_open g one)
chosen_open topic image g CutShort is is' = (g, is.1, is.2, is')
chosen_open topic image g Closed is is' = (g, is.1, is.2, is')
chosen_open topic image g (Open h) is is' = by_order (IsRead topic image) h.number g.number (Read Zero Lower) (Read One Lower) (ReadZero HeaderDamage)
    (λ low. (g, is.1, is.2, record { earlier = h; less = low; long = is'.0; is_open = is'.1 }))
    (λ low. (h, is'.1, is'.2, record { earlier = g; less = low; long = is.0; is_open = is.1 }))
    (λ same. tt)
chosen_open topic image g (Faulty h fault) is is' = by_test (nat_lt g.number h)
  where
    by_test : (b : Bool) → IsRead topic image (if b then Refuse One fault else ReadZero fault)
    by_test true = tt
    by_test false = tt

chosen : (topic : TopicId) (image : Image) (zero one : SlotHeader) → HaveHeaders topic image zero one → IsRead topic image (choice zero one)
chosen topic image CutShort CutShort is = tt
chosen topic image CutShort Closed is = tt
chosen topic image CutShort (Open h) is = (h, is.one_is.1, is.one_is.2, is.zero_is)
chosen topic image CutShort (Faulty h fault) is = tt
chosen topic image Closed CutShort is = tt
chosen topic image Closed Closed is = tt
chosen topic image Closed (Open h) is = (h, is.one_is.1, is.one_is.2, is.zero_is)
chosen topic image Closed (Faulty h fault) is = tt
chosen topic image (Open g) one is = chosen_open topic image g one is.zero_is is.one_is
chosen topic image (Faulty g fault) one is = tt

-- the log that is read, and the other slot
read_beside : (topic : TopicId) (disk : Disk) (zero one : SlotHeader) (slot : CursorSlot) (spare : Spare) (n : Label) (bodies : Bodies) → Says topic disk zero one (Read slot spare) → IsLog topic.folder n bodies (disk.seen (Slot topic slot))
    → (n.number + 1 < 2 ^ 64) × IsSpare topic.folder spare n.number (disk.seen (Slot topic (other_of slot)))
read_beside topic disk zero one slot spare n bodies says is =
    let read = subst (λ (by : Choice). IsRead topic disk.seen by) (sym says.choice_is) (chosen topic disk.seen zero one says.headers) in
    let same : read.0.number ≡ n.number = generation_one topic.folder read.0 n (disk.seen (Slot topic slot)) read.1 (log_open topic.folder n bodies (disk.seen (Slot topic slot)) is) in
    subst (λ (g : ℕ). (g + 1 < 2 ^ 64) × IsSpare topic.folder spare g (disk.seen (Slot topic (other_of slot)))) same (read.2, read.3)

-- the slots are read so
pub record AreRead (slots : TwoSlot) (topic : TopicId) (slot : CursorSlot) (spare : Spare) : Type 0 where
  pub topic_is : slots.topic ≡ topic
  pub slot_is : slots.counts ≡ slot
  pub spare_is : slots.spare ≡ spare

held : (slots : TwoSlot) (topic : TopicId) (slot : CursorSlot) (spare : Spare) → AreRead slots topic slot spare → (disk : Disk) (zero one : SlotHeader) → Says topic disk zero one (Read slot spare)
    → (c : Image) (bodies : Bodies) → slots.failed ≡ false → LogHolds slots.log c bodies → ((s : CursorSlot) → c (Slot topic s) ≡ disk.seen (Slot topic s)) → Holds slots c bodies
held slots topic slot spare are disk zero one says c bodies works holds same =
    let file : (log_id slots.log).file ≡ Slot topic slot = slots.is_slot ∙ (λ i. Slot (are.topic_is i) (are.slot_is i)) in
    let own : IsLog topic.folder (label_of slots) bodies (c (Slot topic slot)) = subst (λ (f : FileId). IsLog (folder_of f) (label_of slots) bodies (c f)) file holds.is in
    let log : IsLog topic.folder (label_of slots) bodies (disk.seen (Slot topic slot)) = subst (λ (l : List ℕ). IsLog topic.folder (label_of slots) bodies l) (same slot) own in
    let beside = read_beside topic disk zero one slot spare (label_of slots) bodies says log in
    let other : c (Slot slots.topic (other_of slots.counts)) ≡ disk.seen (Slot topic (other_of slot)) = (λ i. c (Slot (are.topic_is i) (other_of (are.slot_is i)))) ∙ same (other_of slot) in
    record {
      works = works;
      log = holds;
      in_range = beside.0;
      spare = subst (λ (t : TopicId). IsSpare t.folder slots.spare (generation_of slots) (c (Slot slots.topic (other_of slots.counts)))) (sym are.topic_is)
          (subst (λ (k : Spare). IsSpare topic.folder k (generation_of slots) (c (Slot slots.topic (other_of slots.counts)))) (sym are.spare_is)
          (subst (λ (l : List ℕ). IsSpare topic.folder spare (generation_of slots) l) (sym other) beside.1));
    }

-- the value that an opening makes
pub read_settled : (slots : TwoSlot) (topic : TopicId) (slot : CursorSlot) (spare : Spare) → AreRead slots topic slot spare → (d0 d1 : Disk) (zero one : SlotHeader) → Says topic d0 zero one (Read slot spare)
    → (bodies : Bodies) → slots.failed ≡ false → d1.seen ≡ d0.seen → Leaves d0.may_leave d0 d1 → Settled (LogHolds slots.log) d1 bodies → Settled (Holds slots) d1 bodies
read_settled slots topic slot spare are d0 d1 zero one says bodies works same leaves s = record {
  honest = s.honest;
  now = held slots topic slot spare are d0 zero one says d1.seen bodies works s.now (λ k. ap (λ (i : Image). i (Slot topic k)) same);
  left = λ c may. held slots topic slot spare are d0 zero one says c bodies works (s.left c may) (λ k. says.synced k c (leaves.now c may));
}

pub head_there : (heads : SlotHeads) (disk : Disk) (slot : CursorSlot) → HaveHeads heads disk → HasHead (head_in heads slot) disk
head_there heads disk Zero are = are.zero
head_there heads disk One are = are.one

-- the slot that is read
pub counting_by : (heads : SlotHeads) (image : Image) (zero one : SlotHeader) (slot : Option CursorSlot) (by : Choice) → IsHead heads.zero image → IsHead heads.one image
    → ((i : Image) → IsHead heads.zero i → IsSlotHeader (folder_of (head_file heads.zero)) (i (head_file heads.zero)) zero) → ((i : Image) → IsHead heads.one i → IsSlotHeader (folder_of (head_file heads.one)) (i (head_file heads.one)) one) → by ≡ choice zero one → slot ≡ read_by by → IsCounting heads.topic image slot
counting_by heads image zero one slot by is is' zero_of one_of choice_is slot_is = record {
  zero = zero;
  one = one;
  zero_is = subst (λ (f : FileId). IsSlotHeader (folder_of f) (image f) zero) heads.zero_is (zero_of image is);
  one_is = subst (λ (f : FileId). IsSlotHeader (folder_of f) (image f) one) heads.one_is (one_of image is');
  slot_is = slot_is ∙ ap (λ (c : Choice). read_by c) choice_is;
}

-- where the ledger begins
pub begins_by : (heads : SlotHeads) (image : Image) (zero one : SlotHeader) (start : Start) → IsHead heads.zero image → IsHead heads.one image
    → ((i : Image) → IsHead heads.zero i → IsSlotHeader (folder_of (head_file heads.zero)) (i (head_file heads.zero)) zero)
    → ((i : Image) → IsHead heads.one i → IsSlotHeader (folder_of (head_file heads.one)) (i (head_file heads.one)) one)
    → start ≡ start_by zero one → BeginsBy heads.topic image start
begins_by heads image zero one start is is' zero_of one_of start_is = record {
  zero = zero;
  one = one;
  zero_is = subst (λ (f : FileId). IsSlotHeader (folder_of f) (image f) zero) heads.zero_is (zero_of image is);
  one_is = subst (λ (f : FileId). IsSlotHeader (folder_of f) (image f) one) heads.one_is (one_of image is');
  start_is = start_is;
}
