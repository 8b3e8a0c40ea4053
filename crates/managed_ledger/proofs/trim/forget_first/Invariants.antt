use Rattle.std.proofs.Common.{◌≡◌, drop}
use Rattle.managed_ledger.proofs.trim.forget_first.Given as goal

abbrev pub invariant-tables : goal.invariant-tables
invariant-tables l = drop l.left l.tables.items ≡ drop l.fn.count l.fn.tables.items

abbrev pub decreases-tables : goal.decreases-tables
decreases-tables l = l.left
