use Rattle.std.proofs.Common.{◌∙◌}
use Rattle.session.proofs.Places.{set_same}
use Rattle.session.proofs.consumers.lower_each.Goals as goal

pub loop-place-preserved : goal.loop-place-preserved
loop-place-preserved c =
    set_same c.loop-place.consumers.items c.loop-place.place c.index_mut-consumer.result.now c.lower.new.self c.index_mut-consumer.ensures.value c.lower.ensures ∙ c.loop-place.invariant
