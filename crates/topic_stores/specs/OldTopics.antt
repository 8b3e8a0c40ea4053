-- A topic of a folder of version 1 that was read.
use Rattle.std.specs.Prelude.{◌≡◌, ℕ}
use Rattle.disk.specs.Disk.{Disk}
use Rattle.disk.specs.Contents as contents
use Rattle.disk.specs.Contents.{Steady}
use Rattle.managed_ledger.specs.Entries.{Ledger, end_of}
use Rattle.managed_ledger.specs.Ledgers as ledgers
use Rattle.cursor_store.specs.Cursors as cursors
use Rattle.records.specs.Maps.{Kept}
use Rattle.topic_stores.specs.declared.old.OldTopic.{OldTopic}
use Rattle.topic_stores.specs.Old.{old}

-- It is the topic of this number, and its files have this ledger and these subscriptions just as it remembers them, whatever crash comes.
pub record AreHeld (topic : OldTopic) (number : ℕ) (disk : Disk) (ledger : Ledger) (kept : Kept) : Type 0 where
  pub of_entries : ledgers.ledger_topic topic.stores.entries ≡ old number
  pub of_slots : cursors.topic_of topic.stores.subscriptions ≡ old number
  pub one_start : ledgers.start_of topic.stores.entries ≡ cursors.start_of topic.stores.subscriptions
  pub entries : contents.Settled (ledgers.Holds topic.stores.entries) disk ledger
  pub subscriptions : Steady (cursors.Holds topic.stores.subscriptions (end_of ledger) (cursors.start_of topic.stores.subscriptions)) (cursors.written topic.stores.subscriptions) disk kept
