use Rattle.holds.specs.Backlog.{attached}
use Rattle.key_shared.proofs.From.{none_at_all}
use Rattle.key_shared.proofs.dispatcher.KeySharedDispatcherDispatcher.pick.Goals as goal

pub returns-clause-none : goal.returns-clause-none
returns-clause-none g c = none_at_all c.pick_from.result (attached c.args.consumer c.args.self.now.consumers.items) (g.P.Pending.backlog c.args.pending.now) c.pick_from.ensures.none
