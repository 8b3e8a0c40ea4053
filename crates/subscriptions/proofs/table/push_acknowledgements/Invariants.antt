use Rattle.std.proofs.Common.{◌≡◌, ◌++◌, take}
use Rattle.std.proofs.Common.{map as each}
use Rattle.records.specs.declared.record.Record.TheVariants.{Acknowledged as acknowledged_change}
use Rattle.subscriptions.proofs.table.push_acknowledgements.Given as goal

abbrev pub invariant-loop-position : goal.invariant-loop-position
invariant-loop-position l = l.changes.items ≡ l.fn.changes.items ++ each (λ p. acknowledged_change l.name p) (take l.position-index l.positions)
