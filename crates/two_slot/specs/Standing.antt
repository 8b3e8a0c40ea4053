-- Slots that stand for bodies have no fault.
use Rattle.std.proofs.Common.{◌≡◌, inl, inr, ℕ, ◌+◌, ◌<◌, ◌^◌, Bool, true, false, List, length, refl, sym, ◌∙◌, subst, arith}
use Rattle.std.specs.Prelude.{nat_lt, if◌then◌else◌}
use Rattle.std.proofs.lemmas.Bool.{cases_lt}
use Rattle.std.proofs.lemmas.Bool.Decides.{nat_tests}
use Rattle.disk.specs.declared.file_id.TopicId.{TopicId}
use Rattle.disk.specs.declared.file_id.CursorSlot.{CursorSlot}
use Rattle.disk.specs.declared.file_id.CursorSlot.TheVariants.{Zero, One}
use Rattle.disk.specs.declared.file_id.FileId.TheVariants.{Slot}
use Rattle.disk.specs.Disk.{Image}
use Rattle.disk.specs.declared.file_id.Folder.{Folder}
use Rattle.gated_log.specs.declared.label.Label.{Label}
use Rattle.gated_log.specs.declared.start.Start.{Start}
use Rattle.gated_log.specs.Labels.{header_size}
use Rattle.gated_log.specs.Batches.{Bodies}
use Rattle.gated_log.specs.declared.refusal.Refusal.{Refusal}
use Rattle.gated_log.specs.Folds.{Link, Form, grown}
use Rattle.gated_log.specs.OneFault.{log_no_fault}
use Rattle.two_slot.specs.declared.slot_header.SlotHeader.{SlotHeader}
use Rattle.two_slot.specs.declared.slot_header.SlotHeader.TheVariants.{CutShort, Closed, Open, Faulty}
use Rattle.two_slot.specs.declared.choice.Choice.{Choice}
use Rattle.two_slot.specs.declared.choice.Choice.TheVariants.{Read}
use Rattle.two_slot.specs.declared.spare.Spare.{Spare}
use Rattle.two_slot.specs.declared.spare.Spare.TheVariants.{Short, Shut, Lower}
use Rattle.two_slot.specs.Slots.{other_of, Yields, Counts, Stands}
use Rattle.two_slot.specs.SlotHeaders.{IsSlotHeader}
use Rattle.two_slot.specs.Choices.{choice, start_by}
use Rattle.two_slot.specs.Faults.{IsFaultBy, IsSlotsFault}
use Rattle.two_slot.specs.One.{log_open, log_long, choice_one}

-- a header that yields to this generation
abbrev IsYielding : ℕ → SlotHeader → Type 0
IsYielding generation CutShort = Unit {0}
IsYielding generation Closed = Unit {0}
IsYielding generation (Open earlier) = earlier.number < generation
IsYielding generation (Faulty other fault) = ⊥

yielding : (folder : Folder) (generation : ℕ) (file : List ℕ) → generation + 1 < 2 ^ 64 → Yields folder generation file → (header : SlotHeader) × IsSlotHeader folder file header × IsYielding generation header
yielding folder generation file small (inl none) = elim (cases_lt (length file) (header_size folder)) [ inl short ↦ (CutShort, short, tt) | inr long ↦ (Closed, (none, long), tt) ]
yielding folder generation file small (inr low) = (Open low.earlier, (low.long, low.is_open, omega (arith, low.less, small)), low.less)

-- one of two, by a test
taken : (x y : Choice) (b : Bool) → b ≡ true → (if b then x else y) ≡ x
taken x y b is = subst (λ (t : Bool). (if t then x else y) ≡ x) (sym is) refl

passed : (x y : Choice) (b : Bool) → b ≡ false → (if b then x else y) ≡ y
passed x y b is = subst (λ (t : Bool). (if t then x else y) ≡ y) (sym is) refl

-- slot 0 counts
zero_read : (g : Label) (one : SlotHeader) → IsYielding g.number one → (spare : Spare) × (choice (Open g) one ≡ Read Zero spare)
zero_read g CutShort yields = (Short, refl)
zero_read g Closed yields = (Shut, refl)
zero_read g (Open h) yields = let t : nat_lt h.number g.number ≡ true = grind (arith, nat_tests) in (Lower, taken (Read Zero Lower) _ (nat_lt h.number g.number) t)
zero_read g (Faulty h fault) yields = absurd yields

-- slot 1 counts
one_read : (g : Label) (zero : SlotHeader) → IsYielding g.number zero → (spare : Spare) × (choice zero (Open g) ≡ Read One spare)
one_read g CutShort yields = (Short, refl)
one_read g Closed yields = (Shut, refl)
one_read g (Open h) yields =
    let t : nat_lt g.number h.number ≡ false = grind (arith, nat_tests) in
    let u : nat_lt h.number g.number ≡ true = grind (arith, nat_tests) in
    (Lower, passed (Read Zero Lower) _ (nat_lt g.number h.number) t ∙ taken (Read One Lower) _ (nat_lt h.number g.number) u)
one_read g (Faulty h fault) yields = absurd yields

-- one of two starts, by a test
start_taken : (x y : Start) (b : Bool) → b ≡ true → (if b then x else y) ≡ x
start_taken x y b is = subst (λ (t : Bool). (if t then x else y) ≡ x) (sym is) refl

start_passed : (x y : Start) (b : Bool) → b ≡ false → (if b then x else y) ≡ y
start_passed x y b is = subst (λ (t : Bool). (if t then x else y) ≡ y) (sym is) refl

-- and the ledger begins as it says
zero_starts : (g : Label) (one : SlotHeader) → IsYielding g.number one → start_by (Open g) one ≡ g.start
zero_starts g CutShort yields = refl
zero_starts g Closed yields = refl
zero_starts g (Open h) yields = let t : nat_lt g.number h.number ≡ false = grind (arith, nat_tests) in start_passed h.start g.start (nat_lt g.number h.number) t
zero_starts g (Faulty h fault) yields = absurd yields

one_starts : (g : Label) (zero : SlotHeader) → IsYielding g.number zero → start_by zero (Open g) ≡ g.start
one_starts g CutShort yields = refl
one_starts g Closed yields = refl
one_starts g (Open h) yields = let t : nat_lt h.number g.number ≡ true = grind (arith, nat_tests) in start_taken g.start h.start (nat_lt h.number g.number) t
one_starts g (Faulty h fault) yields = absurd yields

-- By their headers this slot is read, and the ledger begins there.
pub record AreReadAt (topic : TopicId) (image : Image) (slot : CursorSlot) (start : Start) : Type 0 where
  pub zero : SlotHeader
  pub one : SlotHeader
  pub zero_is : IsSlotHeader topic.folder (image (Slot topic Zero)) zero
  pub one_is : IsSlotHeader topic.folder (image (Slot topic One)) one
  pub spare : Spare
  pub choice_is : choice zero one ≡ Read slot spare
  pub starts : start_by zero one ≡ start

-- slots that stand for bodies
pub counting : (topic : TopicId) (image : Image) (bodies : Bodies) (slot : CursorSlot) (g : Label) → Counts topic.folder g bodies (image (Slot topic slot)) (image (Slot topic (other_of slot))) → AreReadAt topic image slot g.start
counting topic image bodies Zero g is =
    let file = image (Slot topic Zero) in
    let one = yielding topic.folder g.number (image (Slot topic One)) is.in_range is.yields in
    let read = zero_read g one.0 one.2 in
    record { zero = Open g; one = one.0; zero_is = (log_long topic.folder g bodies file is.is, log_open topic.folder g bodies file is.is, is.in_range); one_is = one.1; spare = read.0; choice_is = read.1; starts = zero_starts g one.0 one.2 }
counting topic image bodies One g is =
    let file = image (Slot topic One) in
    let zero = yielding topic.folder g.number (image (Slot topic Zero)) is.in_range is.yields in
    let read = one_read g zero.0 zero.2 in
    record { zero = zero.0; one = Open g; zero_is = zero.1; one_is = (log_long topic.folder g bodies file is.is, log_open topic.folder g bodies file is.is, is.in_range); spare = read.0; choice_is = read.1; starts = one_starts g zero.0 zero.2 }

-- Slots that stand for a log of the form have no fault.
pub slots_no_fault : (form : Form) → ((log : Link) (body : List ℕ) → form (grown log body) → form log) → (topic : TopicId) (image : Image) (start : Start) (bodies : Bodies) (refusal : Refusal) (stands : Stands topic image start bodies)
    → form (record { label = stands.label; bodies = bodies }) → IsSlotsFault form topic image refusal → ⊥
slots_no_fault form less topic image start bodies refusal stands formed is =
    let read = counting topic image bodies stands.slot stands.label stands.counts in
    let by = choice_one topic image is.zero is.one read.zero read.one is.zero_is is.one_is read.zero_is read.one_is ∙ read.choice_is in
    let fault = subst (λ (c : Choice). IsFaultBy c form topic image refusal) by is.fault in
    log_no_fault form less (record { label = stands.label; bodies = bodies }) (Slot topic stands.slot) (image (Slot topic stands.slot)) refusal formed stands.counts.is fault
