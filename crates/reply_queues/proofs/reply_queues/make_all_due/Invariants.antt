use Rattle.std.proofs.Common.{◌≡◌}
use Rattle.reply_queues.specs.Replies.{make_due}
use Rattle.reply_queues.proofs.Lists.{firsts}
use Rattle.reply_queues.proofs.reply_queues.make_all_due.Given as goal

abbrev pub invariant-loop-i : goal.invariant-loop-i
invariant-loop-i l = l.queues.items ≡ firsts (λ q. make_due q) l.i l.initial.queues.items
