use Rattle.std.proofs.Common.{◌∙◌, ap, sym, refl}
use Rattle.reply_queues.specs.Replies.{hand_on}
use Rattle.reply_queues.proofs.Sessions.{sessions_of, sessions-each}
use Rattle.reply_queues.proofs.reply_queues.ReplyQueues.hand_on.Goals as goal

pub invariant_of-self : goal.invariant_of-self
invariant_of-self c = (c.self.invariant.0 ∙ sym (sessions-each (λ q. hand_on q) (λ q. refl) c.self.inside.queues.items) ∙ ap (λ qs. sessions_of qs) (sym c.hand_on_all.ensures), c.self.invariant.1)
