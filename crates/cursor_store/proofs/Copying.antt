-- What a store tells is told by the slots of another topic.
use Rattle.std.proofs.Common.{◌≡◌, ℕ, ◌∙◌, ap, subst}
use Rattle.disk.specs.declared.file_id.TopicId.{TopicId}
use Rattle.disk.specs.Disk.{Disk, Image}
use Rattle.disk.specs.Contents.{Settled}
use Rattle.gated_log.specs.declared.prepared_log.PreparedLog.{PreparedLog}
use Rattle.gated_log.specs.declared.start.Start.{Start}
use Rattle.gated_log.specs.Batches.{Bodies}
use Rattle.two_slot.specs.declared.two_slot.TwoSlot.{TwoSlot}
use Rattle.two_slot.specs.Fresh.{AreFresh, HaveFirstHeaders, fresh_headers}
use Rattle.two_slot.specs.Local.{holds_stand as slots_stand}
use Rattle.two_slot.specs.Slots.{Stands}
use Rattle.two_slot.specs.TwoSlots.{Holds as SlotsHold, start_of as slots_start}
use Rattle.records.specs.Maps.{Kept}
use Rattle.cursor_store.specs.declared.told.Told.{Told}
use Rattle.cursor_store.specs.Cursors.{StandsFor}
use Rattle.cursor_store.specs.Items.{FitsLedger, told_of}
use Rattle.cursor_store.specs.Snapshots.{IsSnapshot}
use Rattle.cursor_store.proofs.Replacing.{IsAnew, anew_stands}

-- a snapshot of what is kept is one of what is told
abbrev pub Makes : PreparedLog → Kept → Type 0
Makes log kept = (entries : ℕ) (start : Start) → FitsLedger entries (told_of start kept) → IsSnapshot entries log (told_of start kept)

pub snapshot_so : (told : Told) (log : PreparedLog) (entries : ℕ) (start : Start) (kept : Kept) → told ≡ told_of start kept → FitsLedger entries (told_of start kept) → Makes log told.kept → IsSnapshot entries log (told_of start kept)
snapshot_so told log entries start kept same fits made = subst (λ (k : Kept). Makes log k) (ap (λ (t : Told). t.kept) same) made entries start fits

-- what a crash leaves of slots that were made so
pub copied : (slots : TwoSlot) (topic : TopicId) (entries : ℕ) (start said : Start) (disk : Disk) (image : Image) (kept : Kept) (anew : Bodies) → slots.topic ≡ topic → IsAnew topic entries start kept anew → said ≡ start
    → Settled (SlotsHold slots) disk anew × (slots_start slots ≡ said) → disk.may_leave image → StandsFor topic entries start image kept
copied slots topic entries start said disk image kept anew topics is same held may =
    anew_stands topic entries start (slots_start slots) image kept anew is (held.1 ∙ same) (subst (λ (t : TopicId). Stands t image (slots_start slots) anew) topics (slots_stand slots image anew (held.0.left image may)))

-- and of their headers
pub headed : (slots : TwoSlot) (topic : TopicId) (said : Start) (disk : Disk) (image : Image) (anew : Bodies) → slots.topic ≡ topic → AreFresh slots
    → Settled (SlotsHold slots) disk anew × (slots_start slots ≡ said) → disk.may_leave image → HaveFirstHeaders topic said image
headed slots topic said disk image anew topics fresh held may =
    subst (λ (t : TopicId). HaveFirstHeaders t said image) topics
    (subst (λ (s : Start). HaveFirstHeaders slots.topic s image) held.1 (fresh_headers slots image anew fresh (held.0.left image may)))
