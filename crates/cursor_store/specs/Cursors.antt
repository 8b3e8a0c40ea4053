-- What a store of subscriptions remembers of its slots.
use Rattle.std.specs.Prelude.{◌≡◌, ℕ, ◌-◌, ◌^◌, Bool, nat_lt, List, length}
use Rattle.disk.specs.declared.file_id.Folder.{Folder}
use Rattle.disk.specs.declared.file_id.Folder.TheVariants as version
use Rattle.disk.specs.declared.file_id.TopicId.{TopicId}
use Rattle.disk.specs.Disk.{Image}
use Rattle.gated_log.specs.Batches.{Bodies}
use Rattle.gated_log.specs.Logs.{IsBatchOf}
use Rattle.two_slot.specs.Slots.{Stands}
use Rattle.two_slot.specs.TwoSlots.{Holds as SlotsHold, content as slots_content, topic_of as slots_topic, failed as slots_failed, start_of as slots_start, generation_of}
use Rattle.records.specs.declared.record.Record.{Record}
use Rattle.records.specs.Maps.{Kept}
use Rattle.records.specs.Records.{after_all}
use Rattle.records.specs.Bytes.{body_of}
use Rattle.gated_log.specs.declared.start.Start.{Start}
use Rattle.cursor_store.specs.declared.cursor_store.CursorStore.{CursorStore}
use Rattle.cursor_store.specs.declared.cursor_store.PreparedRecords.{PreparedRecords}
use Rattle.cursor_store.specs.Items.{FitsLedger, untold, told_of}
use Rattle.cursor_store.specs.ItemBytes.{MeansItems}
use Rattle.cursor_store.specs.Behind.{is_due_at}
use Rattle.cursor_store.specs.Snapshots.{IsSnapshotIf}

-- the topic whose subscriptions it has
abbrev pub topic_of : CursorStore → TopicId
topic_of store = slots_topic store.slots

-- an append failed
abbrev pub failed : CursorStore → Bool
failed store = slots_failed store.slots

-- where the ledger begins, as it remembers it
abbrev pub start_of : CursorStore → Start
start_of store = store.told.start

-- the subscriptions that it remembers
abbrev pub content : CursorStore → Kept
content store = store.told.kept

-- the bodies in the slot that counts, as many as it remembers
abbrev pub written : CursorStore → Image → Bodies
written store image = slots_content store.slots image

-- The slots of the topic stand for a header and bodies that tell where its ledger begins, and these subscriptions, beside a ledger of so
-- many entries.
pub record StandsFor (topic : TopicId) (entries : ℕ) (start : Start) (image : Image) (kept : Kept) : Type 0 where
  pub said : Start
  pub bodies : Bodies
  pub stands : Stands topic image said bodies
  pub fits : FitsLedger entries (untold said)
  pub means : MeansItems topic.folder entries (untold said) bodies (told_of start kept)

-- the store works, and its slots hold such bodies just as it remembers them
pub record Holds (store : CursorStore) (entries : ℕ) (start : Start) (image : Image) (kept : Kept) : Type 0 where
  pub bodies : Bodies
  pub slots : SlotsHold store.slots image bodies
  pub fits : FitsLedger entries (untold (slots_start store.slots))
  pub means : MeansItems (topic_of store).folder entries (untold (slots_start store.slots)) bodies (told_of start kept)
  pub same : store.told ≡ told_of start kept

-- how many records were appended since the slots were opened or replaced, but no more than 4,096
abbrev pub counted : CursorStore → ℕ
counted store = store.appended

-- for how many replaces there is a generation: the last one is 2^64 - 2, and none in version 1, whose headers don't say where a ledger
-- begins
abbrev pub replaces_in : Folder → ℕ → ℕ
replaces_in version.One generation = 0
replaces_in version.Two generation = (2 ^ 64 - 2) - generation

abbrev pub replaces_left : CursorStore → ℕ
replaces_left store = replaces_in (topic_of store).folder (generation_of store.slots)

-- there is a generation for a replace
abbrev pub can_replace : CursorStore → Bool
can_replace store = nat_lt 0 (replaces_left store)

-- an append first replaces the slot that counts: 4,096 were appended, and there is a generation for it
abbrev pub is_due : CursorStore → Bool
is_due store = is_due_at (counted store) (can_replace store)

-- the batch of these records, how many they are, and what they make of what is kept; and what goes first, where that is due
pub record IsFor (store : CursorStore) (prepared : PreparedRecords) (records : List Record) : Type 0 where
  pub batch : IsBatchOf prepared.batch (body_of records)
  pub count : prepared.count ≡ length records
  pub kept : prepared.kept ≡ after_all records store.told.kept
  pub snapshot : IsSnapshotIf (is_due store) store.told prepared.snapshot
