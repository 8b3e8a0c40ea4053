use Rattle.records.specs.Maps.{by_bytes}
use Rattle.cursor_store.proofs.Snapshots.{Came}
use Rattle.cursor_store.proofs.snapshot.snapshot_of.Given as goal

abbrev pub invariant-loop-name : goal.invariant-loop-name
invariant-loop-name l = Came l.kept l.writer (by_bytes l.name-iterator)
