use Rattle.std.proofs.Common.{length}
use Rattle.topic_core.specs.Recent.{IsRest}
use Rattle.topic_core.proofs.recent.forget_trimmed.Given as goal

abbrev pub invariant-loop-entries : goal.invariant-loop-entries
invariant-loop-entries l = IsRest l.initial.entries.items l.entries.items

abbrev pub decreases-loop-entries : goal.decreases-loop-entries
decreases-loop-entries l = length l.entries.items
