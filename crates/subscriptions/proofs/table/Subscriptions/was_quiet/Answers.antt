use Rattle.std.proofs.Common.{subst}
use Rattle.subscriptions.specs.Quiet.{IsQuiet}
use Rattle.subscriptions.specs.State.{Subscriptions}
use Rattle.subscriptions.proofs.Noted.{quiet_admits}
use Rattle.subscriptions.proofs.table.Subscriptions.was_quiet.Goals as goal

pub returns-clause-quiet : goal.returns-clause-quiet
returns-clause-quiet g c = λ is.
    subst (λ (t : Subscriptions). IsQuiet c.args.who c.args.committed t.subs) c.self.view_is (c.self.invariant.3.quiet c.args.who c.args.committed (c.is_noted.ensures is))

pub returns-clause-none : goal.returns-clause-none
returns-clause-none g c = λ is id i a.
    quiet_admits c.args.self.now (record { session = c.args.who; id = id }) c.args.committed i
    (subst (λ (t : Subscriptions). IsQuiet c.args.who c.args.committed t.subs) c.self.view_is (c.self.invariant.3.quiet c.args.who c.args.committed (c.is_noted.ensures is))) a
