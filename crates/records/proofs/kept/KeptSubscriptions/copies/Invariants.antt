use Rattle.std.proofs.Common.{◌≡◌, ◌++◌}
use Rattle.std.specs.Prelude.{map as each}
use Rattle.records.specs.declared.kept_cursor.KeptCursor.{KeptCursor}
use Rattle.records.specs.Maps.{by_bytes}
use Rattle.records.proofs.kept.KeptSubscriptions.copies.Given as goal

abbrev pub invariant-loop-name : goal.invariant-loop-name
invariant-loop-name l = each (λ (c : KeptCursor). (c.name, c.acked)) l.copies.items ++ by_bytes l.name-iterator ≡ by_bytes l.self-inside.cursors.entries
