use Rattle.std.proofs.Common.{◌≡◌, ◌++◌}
use Rattle.std.specs.Prelude.{map as each}
use Rattle.std.specs.FinMap as map
use Rattle.records.specs.Maps.{by_bytes}
use Rattle.records.specs.Present.{texts}
use Rattle.records.proofs.kept.KeptSubscriptions.names.Given as goal

abbrev pub invariant-loop-name : goal.invariant-loop-name
invariant-loop-name l = texts l.names ++ each (λ e. e.0) (by_bytes l.name-iterator) ≡ map.keys l.self
