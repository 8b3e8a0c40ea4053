use Rattle.std.proofs.Common.{◌≡◌, take}
use Rattle.subscriptions.specs.Summaries.{permits_left}
use Rattle.subscriptions.proofs.summary.permits_left.Given as goal

abbrev pub invariant-loop-consumer : goal.invariant-loop-consumer
invariant-loop-consumer g l = l.permits ≡ permits_left (take l.consumer-index l.consumers)
