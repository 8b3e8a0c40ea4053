use Rattle.std.proofs.Common.{length, drop}
use Rattle.records.specs.Spelled.{AreBytes}
use Rattle.cursor_store.proofs.ItemReading.{HasApplied}
use Rattle.cursor_store.proofs.read.read_items.Given as goal

abbrev pub invariant-loop-rest : goal.invariant-loop-rest
invariant-loop-rest l = record { applied : HasApplied l.folder l.entries l.fn.told (drop 1 l.body) l.told l.rest; bytes : AreBytes l.rest }

abbrev pub decreases-loop-rest : goal.decreases-loop-rest
decreases-loop-rest l = length l.rest
