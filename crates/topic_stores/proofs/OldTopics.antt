-- A topic of a folder of version 1 is copied.
use Rattle.std.proofs.Common.{◌≡◌, ◌≢◌, ℕ, Result, Ok, Err, OnOk, sym, ◌∙◌, ap, subst}
use Rattle.disk.specs.declared.file_id.FileId.{FileId}
use Rattle.disk.specs.declared.file_id.FileId.TheVariants.{Catalog, Segment, Slot}
use Rattle.disk.specs.declared.file_id.Folder.TheVariants.{One, Two}
use Rattle.disk.specs.declared.file_id.TopicId.{TopicId}
use Rattle.disk.specs.Disk.{Disk, Image}
use Rattle.disk.specs.Areas.{Agree, FilesOf, Within}
use Rattle.disk.specs.Contents.{Steady}
use Rattle.gated_log.specs.declared.start.Start.{Start}
use Rattle.journal.specs.Chains.{SegmentsOf}
use Rattle.two_slot.specs.Slots.{SlotsOf}
use Rattle.managed_ledger.specs.Entries.{Ledger, end_of, Stands as EntriesStand}
use Rattle.managed_ledger.specs.Ledgers.{ledger_topic}
use Rattle.managed_ledger.specs.Settled as ledgers
use Rattle.cursor_store.specs.declared.cursor_store.CursorStore.{CursorStore}
use Rattle.cursor_store.specs.Cursors.{Holds, start_of, topic_of, written, StandsFor as SubscriptionsStand}
use Rattle.cursor_store.specs.Laws as cursors
use Rattle.records.specs.Maps.{Kept}
use Rattle.topic_stores.specs.declared.old.OldTopic.{OldTopic}
use Rattle.topic_stores.specs.Laws.{are_apart, stand_one, stand_local}
use Rattle.topic_stores.specs.Old.{AreIn, old}
use Rattle.topic_stores.specs.OldTopics.{AreHeld}
use Rattle.topic_stores.proofs.Writing.{subs_meanwhile}

-- no topic of a folder of version 1 is one of a folder that is served
pub other : (t to : TopicId) → t.folder ≡ One → to.folder ≡ Two → t ≢ to
other t to was now = λ same. let no : One ≡ Two = sym was ∙ ap (λ (id : TopicId). id.folder) same ∙ now in cc

-- the slots of one topic aren't segments of another
pub slots_apart : (t to : TopicId) (f : FileId) → SlotsOf t f → SegmentsOf to f → ⊥
slots_apart t to (Catalog folder) own theirs = own
slots_apart t to (Segment of n) own theirs = own
slots_apart t to (Slot of slot) own theirs = theirs

-- the store of subscriptions stays settled while segments of another topic are written
pub still_steady : (store : CursorStore) (to : TopicId) (old new : Disk) (n : ℕ) (start : Start) (kept : Kept) → new.honest → Within (SegmentsOf to) (λ c. Unit {0}) old new
    → Steady (Holds store n start) (written store) old kept → Steady (Holds store n start) (written store) new kept
still_steady store to old new n start kept honest within x =
    subs_meanwhile (Holds store n start) (written store) (SlotsOf (topic_of store)) (SegmentsOf to) (λ c. Unit {0}) old new kept (λ a b same h. cursors.holds_local store n start a b kept same h) (λ a b same. cursors.written_local store a b same)
    (λ f own theirs. slots_apart (topic_of store) to f own theirs) honest within x

pub on_ok : {T E X Y : Type 0} (result : Result T E) → (X → Y) → OnOk result X → OnOk result Y
on_ok (Ok x) then is = then is
on_ok (Err e) then is = tt

-- the segments stand for the ledger also once the slots are copied, and both stand for all
pub copied : (to : TopicId) (start : Start) (ledger : Ledger) (kept : Kept) (mid new : Disk) → ((c : Image) → mid.may_leave c → EntriesStand to start c ledger) → Within (SlotsOf to) (λ c. Unit {0}) mid new
    → ((c : Image) → new.may_leave c → SubscriptionsStand to (end_of ledger) start c kept) → (c : Image) → new.may_leave c → AreIn to c ledger kept
copied to start ledger kept mid new segments within slots c may =
    let out = within.any_moment.now c may in
    let same : Agree (SegmentsOf to) out.from c = λ f own. out.elsewhere f (λ theirs. are_apart to f own theirs) in
    (start, ledgers.stand_local to start out.from c ledger same (segments out.from out.left), slots c may)

-- ---- what the files of a topic of a folder of any version stand for

pub in_one : (t : TopicId) (c : Image) (one other : Ledger) (k j : Kept) → AreIn t c one k → AreIn t c other j → (one ≡ other) × (k ≡ j)
in_one = stand_one EntriesStand SubscriptionsStand ledgers.stand_one ledgers.stand_base (λ t start image ledger stands. stands.ledger.few) cursors.stands_one cursors.stands_longer cursors.stands_fits

pub in_local : (t : TopicId) (a b : Image) (l : Ledger) (k : Kept) → Agree (FilesOf t) a b → AreIn t a l k → AreIn t b l k
in_local = stand_local SegmentsOf SlotsOf (λ t f own. own) (λ t f own. own) SubscriptionsStand cursors.stands_local EntriesStand ledgers.stand_local

-- those of one that was read for what it holds
pub held_in : (topic : OldTopic) (number : ℕ) (disk : Disk) (ledger : Ledger) (kept : Kept) → AreHeld topic number disk ledger kept → AreIn (old number) disk.seen ledger kept
held_in topic number disk ledger kept held =
    let slots = topic.stores.subscriptions in
    let start = start_of slots in (
      start,
      subst (λ (t : TopicId). EntriesStand t start disk.seen ledger) held.of_entries
          (subst (λ (s : Start). EntriesStand (ledger_topic topic.stores.entries) s disk.seen ledger) held.one_start (ledgers.held_stands topic.stores.entries disk.seen ledger held.entries.now)),
      subst (λ (t : TopicId). SubscriptionsStand t (end_of ledger) start disk.seen kept) held.of_slots (cursors.holds_stand slots (end_of ledger) start disk.seen kept held.subscriptions.settled.now),
    )
