use Rattle.std.proofs.Common.{◌≡◌}
use Rattle.reply_queues.specs.Replies.{hand_on}
use Rattle.reply_queues.proofs.Lists.{firsts}
use Rattle.reply_queues.proofs.reply_queues.hand_on_all.Given as goal

abbrev pub invariant-loop-i : goal.invariant-loop-i
invariant-loop-i l = l.queues.items ≡ firsts (λ q. hand_on q) l.i l.initial.queues.items
