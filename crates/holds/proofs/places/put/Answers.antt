use Rattle.std.proofs.Common.{◌∙◌, ap, cond, true}
use Rattle.holds.specs.Listing.{is_listed}
use Rattle.holds.proofs.Listed.{at_place}
use Rattle.holds.proofs.places.put.Goals as goal

pub returns-clause-ok : goal.returns-clause-ok
returns-clause-ok c d q = c.in_ok-insert.ensures.updates.0 (d.session, d.id, q) ∙ ap (λ b. cond b true (is_listed c.args.places.now d q)) (at_place c.args.consumer d c.args.position q)
