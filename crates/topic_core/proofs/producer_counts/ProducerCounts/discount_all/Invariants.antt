use Rattle.std.proofs.Common.{take}
use Rattle.topic_core.specs.Counts.{AreFewer, goes}
use Rattle.topic_core.proofs.producer_counts.ProducerCounts.discount_all.Given as goal

abbrev pub invariant-loop-producer : goal.invariant-loop-producer
invariant-loop-producer l = AreFewer (goes l.going) (take l.producer-index l.producers) l.initial.self l.self
