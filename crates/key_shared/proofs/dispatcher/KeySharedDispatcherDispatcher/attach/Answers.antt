use Rattle.std.proofs.Common.{◌∙◌, sym}
use Rattle.key_shared.proofs.Apart.{attached_or_not}
use Rattle.key_shared.proofs.dispatcher.KeySharedDispatcherDispatcher.attach.Goals as goal

pub invariant_of-self : goal.invariant_of-self
invariant_of-self c =
    let taken = sym c.refusal.ensures ∙ c.in_default.is in
    record { apart = attached_or_not c.push.result c.args.self.now.consumers.items c.push.new.consumers.items c.args.consumer c.args.self.now.apart taken c.push.ensures.added c.push.ensures.unchanged }
