use Rattle.std.proofs.Common.{◌≡◌}
use Rattle.reply_queues.specs.Replies.{refuse_pending}
use Rattle.reply_queues.proofs.Lists.{firsts}
use Rattle.reply_queues.proofs.reply_queues.refuse_all.Given as goal

abbrev pub invariant-loop-i : goal.invariant-loop-i
invariant-loop-i l = l.queues.items ≡ firsts (λ q. refuse_pending q) l.i l.initial.queues.items
