use Rattle.managed_ledger.specs.Entries.{AreEntries}
use Rattle.stores_tests.proofs.ledgers.copies.Given as goal

abbrev pub invariant-copies : goal.invariant-copies
invariant-copies l = AreEntries l.copies.items
