use Rattle.std.proofs.Common.{ℕ, ◌+◌, ◌-◌, ◌^◌}
use Rattle.std.specs.FinMap as map
use Rattle.records.specs.Maps.{Kept}
use Rattle.records.specs.Records.{IsNew}
use Rattle.records.specs.Snapshots.{front}
use Rattle.records.specs.Within.{AreBelow}
use Rattle.gated_log.specs.declared.start.Start.{Start}
use Rattle.records.specs.Floors.{HasBelow}
use Rattle.cursor_store.specs.Items.{told_of}
use Rattle.cursor_store.specs.Snapshots.{HasWritten}
use Rattle.cursor_store.proofs.snapshot.add_cursor.Given as goal

abbrev pub invariant-loop-first : goal.invariant-loop-first
invariant-loop-first l = (entries : ℕ) (start : Start) (sofar : Kept) → HasWritten entries l.fn.begun (told_of start sofar) → IsNew sofar l.name → AreBelow entries l.cursor → HasBelow start.base l.cursor → HasWritten entries l.writer (told_of start (map.insert sofar l.name (front l.cursor l.next)))

abbrev pub decreases-loop-first : goal.decreases-loop-first
decreases-loop-first l = 2 ^ 62 + 1 - l.next
