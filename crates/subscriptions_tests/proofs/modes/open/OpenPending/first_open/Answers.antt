use Rattle.std.proofs.Common.{arith}
use Rattle.subscriptions_tests.proofs.Below.{is_open, is_behind}
use Rattle.subscriptions_tests.proofs.modes.open.OpenPending.first_open.Goals as goal

pub returns-then-open-from-clause-some : goal.returns-then-open-from-clause-some
returns-then-open-from-clause-some c =
    ((omega arith, is_open _ _ _ (omega arith) (omega arith)), λ j h. let b = is_behind _ _ j h.1 in omega arith)

pub returns-then-open-from-clause-fits : goal.returns-then-open-from-clause-fits
returns-then-open-from-clause-fits c = omega arith

pub returns-else-open-from-clause-none : goal.returns-else-open-from-clause-none
returns-else-open-from-clause-none c i low here =
    let b = is_behind _ _ i here in
    let m = here.is_committed in
    absurd (omega arith)
