use Rattle.std.proofs.Common.{sym, subst}
use Rattle.key_shared.specs.Ranges.{AreApart}
use Rattle.key_shared.proofs.Apart.{taken_out}
use Rattle.key_shared.proofs.dispatcher.KeySharedDispatcherDispatcher.detach.Goals as goal

pub invariant_of-self : goal.invariant_of-self
invariant_of-self c = record { apart = subst AreApart (sym c.remove.ensures) (taken_out c.args.self.now.consumers.items c.args.consumer c.args.self.now.apart) }
