use Rattle.std.proofs.Common.{ap}
use Rattle.disk.specs.declared.file_id.TopicId.{TopicId}
use Rattle.managed_ledger.specs.Entries.{begun_at}
use Rattle.managed_ledger.specs.Ledgers as ledgers
use Rattle.cursor_store.specs.Cursors as cursors
use Rattle.topic_stores.proofs.old.OldTopic.open.Goals as goal

pub invariant_of-result : goal.invariant_of-result
invariant_of-result g c = record {
  old_entries = ap (λ (t : TopicId). t.folder) c.in_ok-stores.ensures.topic;
  old_slots = ap (λ (t : TopicId). t.folder) c.in_ok-stores.ensures.slots_topic;
}

pub returns-clause-opened : goal.returns-clause-opened
returns-clause-opened g c = λ honest.
    let found = c.in_ok-stores.ensures.opened tt in
    let is = found.1 honest in (
      begun_at (ledgers.start_of c.in_ok-stores.stores.entries).base found.0,
      cursors.content c.in_ok-stores.stores.subscriptions,
      record { of_entries = is.of_entries; of_slots = is.of_slots; one_start = is.one_start; entries = is.entries; subscriptions = is.subscriptions },
    )
