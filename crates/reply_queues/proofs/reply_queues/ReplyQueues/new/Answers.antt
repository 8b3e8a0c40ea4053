use Rattle.std.proofs.Common.{refl}
use Rattle.reply_queues.proofs.Distinct.{distinct-none}
use Rattle.reply_queues.proofs.reply_queues.ReplyQueues.new.Goals as goal

pub invariant_of-result : goal.invariant_of-result
invariant_of-result c = (rw (c.new.ensures.items, c.new-2.ensures.items) refl, rw c.new.ensures.items distinct-none)
