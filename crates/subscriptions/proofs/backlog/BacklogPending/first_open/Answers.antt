use Rattle.std.proofs.Common.{arith}
use Rattle.subscriptions.proofs.backlog.BacklogPending.first_open.Goals as goal

pub returns-in-Some-clause-some : goal.returns-in-Some-clause-some
returns-in-Some-clause-some c =
    let least = c.args.self.now.found.some c.in-Some.first c.in-Some.is in
    ((omega (arith, c.if-from-first.true), least.0), λ j given. least.1 j given.1)

pub returns-in-Some-clause-fits : goal.returns-in-Some-clause-fits
returns-in-Some-clause-fits c =
    let least = c.args.self.now.found.some c.in-Some.first c.in-Some.is in
    omega (arith, least.0.is_committed, c.args.self.now.fits)
