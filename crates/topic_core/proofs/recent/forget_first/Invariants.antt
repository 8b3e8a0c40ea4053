use Rattle.topic_core.specs.Recent.{IsRest}
use Rattle.topic_core.proofs.recent.forget_first.Given as goal

abbrev pub invariant-loop-left : goal.invariant-loop-left
invariant-loop-left l = IsRest l.initial.entries.items l.entries.items

abbrev pub decreases-loop-left : goal.decreases-loop-left
decreases-loop-left l = l.left
