-- A body more, and the other slot.
use Rattle.std.proofs.Common.{◌≡◌, ◌≢◌, inl, inr, ⊎_elim, ℕ, ◌+◌, ◌<◌, ◌^◌, List, [], ◌∷◌, ◌++◌, false, refl, sym, ◌∙◌, ap, subst}
use Rattle.disk.specs.declared.file_id.TopicId.{TopicId}
use Rattle.disk.specs.declared.file_id.CursorSlot.{CursorSlot}
use Rattle.disk.specs.declared.file_id.CursorSlot.TheVariants.{Zero, One}
use Rattle.disk.specs.declared.file_id.FileId.{FileId}
use Rattle.disk.specs.declared.file_id.FileId.TheVariants.{Slot}
use Rattle.disk.specs.Disk.{Disk, Image}
use Rattle.disk.specs.declared.file_id.Folder.{Folder}
use Rattle.disk.specs.Areas.{Within, folder_of, widen_within}
use Rattle.gated_log.specs.declared.log.GatedLog.{GatedLog}
use Rattle.gated_log.specs.declared.log_id.LogId.{LogId}
use Rattle.gated_log.specs.Batches.{Bodies, IsLog}
use Rattle.disk.specs.Contents.{Settled, InDoubt, BeforeOrAfter}
use Rattle.gated_log.specs.Logs.{StandsFor, LogHolds, log_id, log_content}
use Rattle.two_slot.specs.declared.spare.Spare.{Spare}
use Rattle.two_slot.specs.declared.two_slot.TwoSlot.{TwoSlot}
use Rattle.two_slot.specs.Slots.{SlotsOf, other_of, Stands}
use Rattle.two_slot.specs.TwoSlots.{Holds, IsSpare, generation_of, label_of, start_of}
use Rattle.two_slot.specs.Local.{spare_yields}

-- two files
pub apart : (topic : TopicId) (slot : CursorSlot) → Slot topic (other_of slot) ≡ Slot topic slot → ⊥
apart topic Zero same = cc
apart topic One same = cc

-- the log's file is one of the slots
pub own : (slots : TwoSlot) (f : FileId) → f ≡ (log_id slots.log).file → SlotsOf slots.topic f
own slots f is = subst (λ (file : FileId). SlotsOf slots.topic file) (sym (is ∙ slots.is_slot)) refl

-- and the other slot isn't
pub away : (slots : TwoSlot) → Slot slots.topic (other_of slots.counts) ≢ (log_id slots.log).file
away slots same = apart slots.topic slots.counts (same ∙ slots.is_slot)

-- the other slot, the same bytes
pub spare_same : (folder : Folder) (spare : Spare) (g h : ℕ) (was is : List ℕ) → h ≡ g → is ≡ was → IsSpare folder spare g was → IsSpare folder spare h is
spare_same folder spare g h was is number bytes before = subst (λ (n : ℕ). IsSpare folder spare n is) (sym number) (subst (λ (l : List ℕ). IsSpare folder spare g l) (sym bytes) before)

-- the log of the slot that counts
pub log_settled : (slots : TwoSlot) (disk : Disk) (bodies : Bodies) → Settled (Holds slots) disk bodies → Settled (LogHolds slots.log) disk bodies
log_settled slots disk bodies s = record { honest = s.honest; now = s.now.log; left = λ c may. (s.left c may).log }

-- the slots stand for these bodies, and begin as they do now
abbrev pub HeldBy : TwoSlot → Image → Bodies → Type 0
HeldBy slots image bodies = Stands slots.topic image (start_of slots) bodies

-- slots whose log stands for bodies
pub log_stands : (slots : TwoSlot) (image : Image) (bodies : Bodies) → generation_of slots + 1 < 2 ^ 64 → IsSpare slots.topic.folder slots.spare (generation_of slots) (image (Slot slots.topic (other_of slots.counts)))
    → StandsFor (log_id slots.log) image bodies → Stands slots.topic image (start_of slots) bodies
log_stands slots image bodies small spare is = record {
  slot = slots.counts;
  label = label_of slots;
  starts = refl;
  counts = record {
    in_range = small;
    is = subst (λ (file : FileId). IsLog (folder_of file) (label_of slots) bodies (image file)) slots.is_slot is;
    yields = spare_yields slots.topic.folder slots.spare (generation_of slots) (image (Slot slots.topic (other_of slots.counts))) spare;
  };
}

-- what a crash leaves of the slots, where the log's file alone is worked on
either : (slots : TwoSlot) (d0 : Disk) (bodies : Bodies) (body : List ℕ) (c : Image) → Settled (Holds slots) d0 bodies → (from : Image) → d0.may_leave from → c (Slot slots.topic (other_of slots.counts)) ≡ from (Slot slots.topic (other_of slots.counts))
    → BeforeOrAfter (StandsFor (log_id slots.log)) bodies (bodies ++ body ∷ []) c → BeforeOrAfter (HeldBy slots) bodies (bodies ++ body ∷ []) c
either slots d0 bodies body c s from left same which =
    let spare = spare_same slots.topic.folder slots.spare (generation_of slots) (generation_of slots) _ (c (Slot slots.topic (other_of slots.counts))) refl same (s.left from left).spare in
    ⊎_elim (λ is. inl (log_stands slots c bodies s.now.in_range spare is)) (λ is. inr (log_stands slots c (bodies ++ body ∷ []) s.now.in_range spare is)) which

pub append_within : (slots : TwoSlot) (d0 d1 : Disk) (bodies : Bodies) (body : List ℕ) → Settled (Holds slots) d0 bodies
    → Within (λ f. f ≡ (log_id slots.log).file) (BeforeOrAfter (StandsFor (log_id slots.log)) bodies (bodies ++ body ∷ [])) d0 d1 → Within (SlotsOf slots.topic) (BeforeOrAfter (HeldBy slots) bodies (bodies ++ body ∷ [])) d0 d1
append_within slots d0 d1 bodies body s w =
    widen_within _ (SlotsOf slots.topic) _ (BeforeOrAfter (HeldBy slots) bodies (bodies ++ body ∷ [])) d0 d1 (own slots) (λ c out. either slots d0 bodies body c s out.from out.left (out.elsewhere _ (away slots)) out.own) w

pub append_doubt : (slots : TwoSlot) (log : GatedLog) (d0 d1 : Disk) (bodies : Bodies) (body : List ℕ) → Settled (Holds slots) d0 bodies
    → Within (λ f. f ≡ (log_id slots.log).file) (BeforeOrAfter (StandsFor (log_id slots.log)) bodies (bodies ++ body ∷ [])) d0 d1
    → InDoubt (log_content log) (StandsFor (log_id slots.log)) d1 bodies (bodies ++ body ∷ []) → InDoubt (log_content log) (HeldBy slots) d1 bodies (bodies ++ body ∷ [])
append_doubt slots log d0 d1 bodies body s w doubt = record {
  honest = doubt.honest;
  now = doubt.now;
  same = doubt.same;
  left = λ c may. let out = w.any_moment.now c may in either slots d0 bodies body c s out.from out.left (out.elsewhere _ (away slots)) out.own;
}

-- the value after a call that worked on the log's file alone
pub append_settled : (slots new : TwoSlot) (d0 d1 : Disk) (bodies more : Bodies) → new.topic ≡ slots.topic → new.counts ≡ slots.counts → new.spare ≡ slots.spare → new.failed ≡ false → log_id new.log ≡ log_id slots.log → Settled (Holds slots) d0 bodies
    → Within (λ f. f ≡ (log_id slots.log).file) (λ c. Unit {0}) d0 d1 → Settled (LogHolds new.log) d1 more → Settled (Holds new) d1 more
append_settled slots new d0 d1 bodies more topics counts spares works ids s w grown =
    let other = Slot slots.topic (other_of slots.counts) in
    let other' = Slot new.topic (other_of new.counts) in
    let others : other' ≡ other = λ i. Slot (topics i) (other_of (counts i)) in
    let small : generation_of new + 1 < 2 ^ 64 = subst (λ (id : LogId). id.label.number + 1 < 2 ^ 64) (sym ids) s.now.in_range in
    let spare : (was is : Image) → is other ≡ was other → IsSpare slots.topic.folder slots.spare (generation_of slots) (was other) → IsSpare new.topic.folder new.spare (generation_of new) (is other') =
    λ was is same before. subst (λ (t : TopicId). IsSpare t.folder new.spare (generation_of new) (is other')) (sym topics) (subst (λ (k : Spare). IsSpare slots.topic.folder k (generation_of new) (is other')) (sym spares)
    (spare_same slots.topic.folder slots.spare (generation_of slots) (generation_of new) (was other) (is other') (ap (λ (id : LogId). id.label.number) ids) (ap is others ∙ same) before)) in
    record {
      honest = grown.honest;
      now = record { works = works; log = grown.now; in_range = small; spare = spare d0.seen d1.seen (w.seen other (away slots)) s.now.spare };
      left = λ c may.
          let out = w.any_moment.now c may in
          record { works = works; log = grown.left c may; in_range = small; spare = spare out.from c (out.elsewhere other (away slots)) (s.left out.from out.left).spare };
    }
