use Rattle.managed_ledger.specs.Entries.{AreEntries}
use Rattle.parts_bench.proofs.filled.copies.Given as goal

abbrev pub invariant-loop : goal.invariant-loop
invariant-loop l = AreEntries l.entries.items
