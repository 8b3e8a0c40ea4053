use Rattle.std.proofs.Common.{◌≡◌, ◌+◌, ◌++◌, ℕ, List, length}
use Rattle.std.specs.Io.KnownBytes.{Appends}
use Rattle.std.specs.Vec.Iter.{into_iter_items}
use Rattle.disk_mem.specs.Device.{disk_of}
use Rattle.node.specs.Driving.{shelf_in, segments_known, Holds}
use Rattle.replay.specs.Replay.{Moment, Prints}
use Rattle.replay.proofs.working.Replay.work_lines.Given as goal

-- the lines so far were worked, and what they print was written
abbrev pub invariant-loop-line : goal.invariant-loop-line
invariant-loop-line g l = record {
  starts : (goal.iterator-loop-line g).can_next l.line-iterator;
  ends : (goal.iterator-loop-line g).is_finite l.line-iterator;
  all : l.yielded ++ into_iter_items l.line-iterator ≡ l.fn.lines.items;
  line : l.self.line ≡ length l.yielded + 1;
  worked :
      (old : Moment) → (old.device ≡ shelf_in l.fn.self.machine) × Holds disk_of l.fn.self.machine old.life × (old.known ≡ segments_known l.fn.self.machine)
      → (text : List ℕ)
      × (mid : Moment)
      × Prints 2 old l.yielded text mid
      × ((mid.device ≡ shelf_in l.self.machine) × Holds disk_of l.self.machine mid.life × (mid.known ≡ segments_known l.self.machine))
      × Appends (g.W.Sink.contents l.fn.sink) (g.W.Sink.contents l.sink) text;
}
