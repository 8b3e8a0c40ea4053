-- What a crash leaves of a topic, and what an opening makes of a failed one.
use Rattle.std.specs.Prelude.{◌≡◌, ℕ, ◌<◌, Bool, true, false, Result, Ok, Err}
use Rattle.disk.specs.declared.file_id.FileId.TheVariants.{Segment}
use Rattle.disk.specs.Areas.{served}
use Rattle.disk.specs.Disk.{Image}
use Rattle.gated_log.specs.declared.refusal.Refusal.{Refusal}
use Rattle.gated_log.specs.declared.refusal.Refusal.TheVariants as refusal
use Rattle.managed_ledger.specs.Entries.{Ledger, end_of, lengthened}
use Rattle.records.specs.Maps.{Kept}
use Rattle.records.specs.Records.{after_all}
use Rattle.subscriptions.specs.Marks.{Marks}
use Rattle.topic_stores.specs.Writing as stores
use Rattle.topic_core.specs.Messages.{marks_of}
use Rattle.topic_core.specs.State.{Topic, opened, floor, entries_in_doubt, changes_in_doubt}

-- the ledger with all entries in doubt, and the durable subscriptions with all changes in doubt
abbrev pub longer : Topic → Ledger
longer t = lengthened t.ledger (entries_in_doubt t)

abbrev pub changed : Topic → Kept
changed t = after_all (changes_in_doubt t) t.kept

-- A crash leaves this ledger and these durable subscriptions: the old ones, or the ledger has the entries in doubt too, or
-- both have what is in doubt, and the ledger may be trimmed. Changes come only where the entries came, and a trim only where both did.
abbrev pub IsLeft : Topic → Ledger → Kept → Type 0
IsLeft old ledger kept = stores.IsLeft old.ledger old.kept (entries_in_doubt old) (changes_in_doubt old) (floor old) ledger kept

-- what a crash leaves of a topic: its ledger and its durable subscriptions, just opened
pub record TopicCrash (old new : Topic) : Type 0 where
  pub left : IsLeft old new.ledger new.kept
  pub again : new ≡ opened old.per_ledger new.ledger (marks_of new.ledger) new.kept

-- a failed topic that was opened again: what it owes and what it counted stay
abbrev pub reopened : Topic → Ledger → Marks → Kept → Topic
reopened t ledger marks kept = record (opened t.per_ledger ledger marks kept) { accepted = t.accepted; handed = t.handed; queues = t.queues }

-- the opening of a failed topic: a crash's outcome, or it is refused and the topic stays as it was
abbrev pub ReopenEnds : Topic → Result (Unit {0}) Refusal → Topic → Type 0
ReopenEnds old (Ok done) new = IsLeft old new.ledger new.kept × (new ≡ reopened old new.ledger (marks_of new.ledger) new.kept)
ReopenEnds old (Err refusal.NoMemory) new = new ≡ old
ReopenEnds old (Err refusal.Device) new = new ≡ old
ReopenEnds old (Err (refusal.Damaged file offset)) new = ⊥
ReopenEnds old (Err refusal.NotInitialised) new = ⊥
ReopenEnds old (Err refusal.Version) new = ⊥
ReopenEnds old (Err refusal.TooLarge) new = ⊥

-- of a topic that didn't fail an opening changes nothing
abbrev pub ReopenIn : Bool → Topic → Result (Unit {0}) Refusal → Topic → Type 0
ReopenIn true old result new = ReopenEnds old result new
ReopenIn false old result new = (result ≡ Ok tt) × (new ≡ old)

abbrev pub ReopenStep : Topic → Result (Unit {0}) Refusal → Topic → Type 0
ReopenStep old result new = ReopenIn old.failed old result new

-- files that stand for fewer entries than the topic had committed are told as damage of its first segment
pub record IsShorter (files_stand : ℕ → Image → Ledger → Kept → Type 0) (topic : ℕ) (core : Topic) (files : Image) (why : Refusal) : Type 0 where
  pub ledger : Ledger
  pub kept : Kept
  pub stands : files_stand topic files ledger kept
  pub fewer : end_of ledger < core.committed
  pub told : why ≡ refusal.Damaged (Segment (served topic) 0) 0
