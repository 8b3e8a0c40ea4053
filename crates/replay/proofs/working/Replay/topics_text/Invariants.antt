use Rattle.std.proofs.Common.{◌≤◌, ◌-◌, ◌^◌, length}
use Rattle.disk_mem.specs.Device.{disk_of}
use Rattle.node.specs.Driving.{Holds, segments_known, shelf_in}
use Rattle.node.specs.Runs.{Life}
use Rattle.replay.proofs.Told.{ToldSoFar}
use Rattle.replay.proofs.working.Replay.topics_text.Given as goal

-- the topics so far were told, and each line has a byte
abbrev pub invariant-loop-text : goal.invariant-loop-text
invariant-loop-text l = record {
  told : (life : Life) → Holds disk_of l.fn.self.machine life → ToldSoFar life.up life.state (disk_of (shelf_in l.fn.self.machine)).seen (segments_known l.fn.self.machine) l.topic l.text.items;
  few : l.topic ≤ length l.text.items;
}

abbrev pub decreases-loop-text : goal.decreases-loop-text
decreases-loop-text l = 2 ^ 64 - l.topic
