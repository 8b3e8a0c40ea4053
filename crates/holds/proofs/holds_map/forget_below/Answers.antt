use Rattle.holds.proofs.holds_map.forget_below.Goals as goal

pub returns-then-position-end-clause-listing : goal.returns-then-position-end-clause-listing
returns-then-position-end-clause-listing c start = c.loop-first.invariant.listing start

pub returns-in_default-clause-listing : goal.returns-in_default-clause-listing
returns-in_default-clause-listing c start = c.loop-first.invariant.listing start
