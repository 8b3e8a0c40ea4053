use Rattle.std.proofs.Common.{◌∙◌, sym, ap}
use Rattle.cursor.proofs.Behind.{head, head_filter, behind_test}
use Rattle.cursor.proofs.ranges.range_behind.Goals as goal

pub returns-in-Some : goal.returns-in-Some
returns-in-Some c = ap head (sym c.in-Some.ensures.steps) ∙ ap head (c.range.ensures.between tt) ∙ head_filter c.args.position _ (λ r. behind_test c.args.position r.0) c.args.after.now.entries

pub returns-in-None : goal.returns-in-None
returns-in-None c = ap head (sym c.in-None.ensures.steps.0) ∙ ap head (c.range.ensures.between tt) ∙ head_filter c.args.position _ (λ r. behind_test c.args.position r.0) c.args.after.now.entries
