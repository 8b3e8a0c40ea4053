use Rattle.std.proofs.Common.{◌∙◌}
use Rattle.session.proofs.roll.look_each.Goals as goal

pub loop-place-preserved : goal.loop-place-preserved
loop-place-preserved g c =
    let port = g.met.P.Port in
    let i = c.loop-place.invariant in
    record {
      same = λ s. c.look_at.ensures.same (port.passes_sole _ _ i.passes s) ∙ i.same s;
      passes = port.passes_both _ _ _ i.passes c.look_at.ensures.passes;
    }
