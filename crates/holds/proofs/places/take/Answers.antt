use Rattle.std.proofs.Common.{◌∙◌, ap, cond, false}
use Rattle.holds.specs.Listing.{is_listed}
use Rattle.holds.proofs.Listed.{at_place}
use Rattle.holds.proofs.places.take.Goals as goal

pub returns-clause-taken : goal.returns-clause-taken
returns-clause-taken c d q = c.remove.ensures.updates.0 (d.session, d.id, q) ∙ ap (λ b. cond b false (is_listed c.args.places.now d q)) (at_place c.args.consumer d c.args.position q)
