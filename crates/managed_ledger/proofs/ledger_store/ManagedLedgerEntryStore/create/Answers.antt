use Rattle.std.proofs.Common.{refl}
use Rattle.managed_ledger.proofs.Appends.{begun_settled}
use Rattle.managed_ledger.proofs.ledger_store.ManagedLedgerEntryStore.create.Goals as goal

pub returns-clause-created : goal.returns-clause-created
returns-clause-created g c = λ honest. begun_settled _ (g.S.Shelf.disk c.create.new.shelf) c.new.ensures.items refl c.new-2.ensures.items (c.in_ok-journal.ensures.created honest)
