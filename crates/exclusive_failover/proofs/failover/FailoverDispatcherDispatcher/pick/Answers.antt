use Rattle.std.proofs.Common.{rules}
use Rattle.exclusive_failover.proofs.Picked.{picked}
use Rattle.exclusive_failover.proofs.failover.FailoverDispatcherDispatcher.pick.Goals as goal

pub returns-in-Some-clause-some : goal.returns-in-Some-clause-some
returns-in-Some-clause-some g c =
    picked c.first_open.result (g.P.Pending.backlog c.args.pending.now) _ (c.in-Some.first.now, search rules, search rules) c.first_open.ensures.some
