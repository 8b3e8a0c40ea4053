-- What the tests' topics keep.
use Rattle.managed_ledger.specs.Ledgers as ledgers
use Rattle.cursor_store.specs.Cursors as cursors
use Rattle.topic_stores.specs.declared.file_stores.FileStores.{FileStores}
use Rattle.topic_stores.specs.Views.{StoreView, both, entry_view, sub_view}
use Rattle.topic_core.specs.State.{Topic}
use Rattle.topic_core.specs.Standing.{Match, resting}

-- what the store remembers and holds
abbrev pub view_of : FileStores → StoreView
view_of files =
    both (entry_view ledgers.ledger_topic ledgers.start_of ledgers.counts_of (λ ledger. ledger.entries_per_ledger) ledgers.failed ledgers.Holds files.stores.entries)
    (sub_view cursors.topic_of cursors.start_of cursors.content cursors.failed cursors.Holds cursors.written files.stores.subscriptions)

-- Topic and store remember the same, as a flush asks; none is under way.
pub record AreMatched (topic : Topic) (stores : FileStores) : Type 0 where
  pub remembered : Match (resting topic.failed) topic (view_of stores)
