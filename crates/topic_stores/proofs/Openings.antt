-- An opening of both stores, from its parts.
use Rattle.std.proofs.Common.{◌≡◌, ◌⊎◌, inl, inr, ⊎_elim, ℕ, Result, Ok, Err, subst, sym, ◌∙◌}
use Rattle.std.specs.Result.{IfOk}
use Rattle.disk.specs.declared.file_id.TopicId.{TopicId}
use Rattle.disk.specs.declared.file_id.FileId.{FileId}
use Rattle.disk.specs.Disk.{Disk, Image, Same, Leaves}
use Rattle.disk.specs.Areas.{Agree, served}
use Rattle.cursor_store.specs.Fronts.{AreSynced}
use Rattle.disk.specs.Contents as contents
use Rattle.disk.specs.Contents.{Steady}
use Rattle.gated_log.specs.declared.start.Start.{Start}
use Rattle.managed_ledger.specs.Entries.{Entries, Ledger, begun_at, end_of}
use Rattle.gated_log.specs.declared.refusal.Refusal.{Refusal}
use Rattle.gated_log.specs.declared.refusal.Refusal.TheVariants.{NoMemory, Device}
use Rattle.topic_stores.specs.Laws.{is_served}
use Rattle.topic_stores.specs.Old.{AreSettledIn}
use Rattle.topic_stores.specs.Views.{EntryView, SubView, InRange, Settled, both, fault, missing_segment}
use Rattle.topic_stores.proofs.Writing.{settled_both}

pub ok_both : {T E : Type 0} (result : Result T E) (P Q R : T → Type 0) → IfOk result P → IfOk result Q → ((x : T) → P x → Q x → R x) → IfOk result R
ok_both (Ok x) P Q R is is' then = then x is is'
ok_both (Err e) P Q R is is' then = tt

-- a store of entries stays settled where the device was only read
pub settled_read : (holds : Image → Ledger → Type 0) (old new : Disk) (l : Ledger) → new.honest → Same old.seen new.seen → Leaves old.may_leave old new → contents.Settled holds old l → contents.Settled holds new l
settled_read holds old new l honest same leaves x = record {
  honest = honest;
  now = subst (λ (i : Image). holds i l) (sym same) x.now;
  left = λ c may. x.left c (leaves.now c may);
}

-- both stores of the topic, once the slots are opened beside the entries
pub opened_in : (t : TopicId) (e : EntryView) (s : SubView) (mid new : Disk) (n : ℕ) (start : Start) (entries : Entries) → e.topic ≡ t → s.topic ≡ t → e.start ≡ start → start ≡ s.start → n ≡ end_of (begun_at start.base entries)
    → contents.Settled e.holds mid (begun_at start.base entries) → new.honest → Same mid.seen new.seen → Leaves mid.may_leave mid new → Steady (s.holds n s.start) s.written new s.kept → AreSettledIn t e s new entries
opened_in t e s mid new n start entries own slots begins said counts x honest same leaves y = record {
  of_entries = own;
  of_slots = slots;
  one_start = begins ∙ said;
  entries = settled_read e.holds mid new (begun_at e.start.base entries) honest same leaves (subst (λ (b : Start). contents.Settled e.holds mid (begun_at b.base entries)) (sym begins) x);
  subscriptions = subst (λ (b : Start). Steady (s.holds (end_of (begun_at b.base entries)) s.start) s.written new s.kept) (sym begins) (subst (λ (m : ℕ). Steady (s.holds m s.start) s.written new s.kept) counts y);
}

-- and in a folder that is served
pub both_opened : (number : ℕ) (e : EntryView) (s : SubView) (disk : Disk) (entries : Entries) → AreSettledIn (served number) e s disk entries → Settled (both e s) disk (begun_at s.start.base entries) s.kept
both_opened number e s disk entries x =
    subst (λ (b : Start). Settled (both e s) disk (begun_at b.base entries) s.kept) x.one_start
    (settled_both e s disk (begun_at e.start.base entries) s.kept (x.of_slots ∙ sym x.of_entries) (is_served e.topic number x.of_entries) x.one_start x.entries x.subscriptions)

-- files that are synced stay so where the device was only read
pub synced_still : (area : FileId → Type 0) (old new : Disk) → Same old.seen new.seen → Leaves old.may_leave old new → AreSynced area old → AreSynced area new
synced_still area old new same leaves synced = λ c may. subst (λ (i : Image). Agree area i c) (sym same) (synced c (leaves.now c may))

-- ---- a fault that is told

module _ (begins : TopicId → Image → Start → Type 0) (es : TopicId → Start → Image → Ledger → Type 0) (ef : TopicId → Start → Image → Refusal → Type 0) (sf : TopicId → ℕ → Image → Refusal → Type 0)
    (t : TopicId) (start : Start) (old new : Image) (same : Same old new) (said : begins t old start) (e : Refusal) where
  abbrev Told : Type 0 → Type 0
  Told X = (e ≡ NoMemory) ⊎ ((e ≡ Device) ⊎ X)

  -- it begins where no ledger does
  pub start_told : (¬ InRange start) → e ≡ missing_segment t start.first → Told (fault begins es ef sf t old e)
  start_told out is = inr (inr (start, said, inl (out, is)))

  pub segments_told : InRange start → Told (ef t start new e) → Told (fault begins es ef sf t old e)
  segments_told low why = ⊎_elim (λ is. inl is) (λ rest. ⊎_elim (λ is. inr (inl is)) (λ bad. inr (inr (start, said, inr (low, inl (subst (λ (i : Image). ef t start i e) same bad))))) rest) why

  pub slots_told : (n : ℕ) (heads : TopicId) (l : Ledger) → InRange start → heads ≡ t → n ≡ end_of l → es t start new l → Told (sf heads n new e) → Told (fault begins es ef sf t old e)
  slots_told n heads l low one counts stands why =
      ⊎_elim (λ is. inl is) (λ rest. ⊎_elim (λ is. inr (inl is))
      (λ bad.
      let there = subst (λ (i : Image). sf t (end_of l) i e) same (subst (λ (m : ℕ). sf t m new e) counts (subst (λ (k : TopicId). sf k n new e) one bad)) in
      inr (inr (start, said, inr (low, inr (l, subst (λ (i : Image). es t start i l) same stands, there))))) rest) why
