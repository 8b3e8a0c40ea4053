use Rattle.std.proofs.Common.{◌≡◌}
use Rattle.reply_queues.specs.Replies.{take_back}
use Rattle.reply_queues.proofs.Lists.{firsts}
use Rattle.reply_queues.proofs.reply_queues.take_all_back.Given as goal

abbrev pub invariant-loop-i : goal.invariant-loop-i
invariant-loop-i l = l.queues.items ≡ firsts (λ q. take_back q) l.i l.initial.queues.items
