use Rattle.std.proofs.Common.{◌+◌, ◌-◌, ◌^◌, ◌∙◌}
use Rattle.std.specs.Prelude.{min}
use Rattle.subscriptions.proofs.Summed.{left_more}
use Rattle.subscriptions.proofs.summary.permits_left.Goals as goal

pub loop-consumer-preserved : goal.loop-consumer-preserved
loop-consumer-preserved g c =
    c.saturating_add-permits.ensures
    ∙ (λ k. min (c.loop-consumer.invariant k + c.left.ensures k) (2 ^ 64 - 1))
    ∙ left_more c.args.consumers.now c.loop-consumer.consumer-index c.consumer-item.result c.loop-consumer-test.true c.consumer-item.is
