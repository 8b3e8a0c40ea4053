use Rattle.std.proofs.Common.{◌∙◌, ap, sym, refl}
use Rattle.reply_queues.specs.Replies.{make_due}
use Rattle.reply_queues.proofs.Sessions.{sessions_of, sessions-each}
use Rattle.reply_queues.proofs.reply_queues.ReplyQueues.make_due.Goals as goal

pub invariant_of-self : goal.invariant_of-self
invariant_of-self c = (c.self.invariant.0 ∙ sym (sessions-each (λ q. make_due q) (λ q. refl) c.self.inside.queues.items) ∙ ap (λ qs. sessions_of qs) (sym c.make_all_due.ensures), c.self.invariant.1)
