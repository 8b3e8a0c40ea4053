-- A topic of a folder of any version, and of one of version 1.
use Rattle.std.specs.Prelude.{◌≡◌, ℕ}
use Rattle.disk.specs.declared.file_id.Folder.TheVariants.{One}
use Rattle.disk.specs.declared.file_id.TopicId.{TopicId}
use Rattle.disk.specs.Disk.{Disk, Image}
use Rattle.disk.specs.Contents as contents
use Rattle.disk.specs.Contents.{Steady}
use Rattle.gated_log.specs.declared.refusal.Refusal.{Refusal}
use Rattle.managed_ledger.specs.Entries.{Entries, Ledger, begun_at, end_of, Stands as EntriesStand}
use Rattle.managed_ledger.specs.Folded.{IsFault as IsLedgerFault}
use Rattle.cursor_store.specs.Cursors.{StandsFor as SubscriptionsStand}
use Rattle.cursor_store.specs.Folded.{IsFault as IsSlotsFault}
use Rattle.cursor_store.specs.Fronts.{Begins}
use Rattle.records.specs.Maps.{Kept}
use Rattle.topic_stores.specs.Views.{EntryView, SubView, stand, fault}

-- the topic of this number in a folder of version 1
abbrev pub old : ℕ → TopicId
old number = record { folder = One; number = number }

-- both stores of this topic work, and the files have these entries and subscriptions just as they remember them
pub record AreSettledIn (topic : TopicId) (e : EntryView) (s : SubView) (disk : Disk) (list : Entries) : Type 0 where
  pub of_entries : e.topic ≡ topic
  pub of_slots : s.topic ≡ topic
  pub one_start : e.start ≡ s.start
  pub entries : contents.Settled e.holds disk (begun_at e.start.base list)
  pub subscriptions : Steady (s.holds (end_of (begun_at e.start.base list)) s.start) s.written disk s.kept

-- the files of a topic stand for this ledger and this map of subscriptions
abbrev pub AreIn : TopicId → Image → Ledger → Kept → Type 0
AreIn = stand EntriesStand SubscriptionsStand

-- the first fault of the files of a topic of a folder of version 1
abbrev pub IsOldFault : ℕ → Image → Refusal → Type 0
IsOldFault number = fault Begins EntriesStand IsLedgerFault IsSlotsFault (old number)
