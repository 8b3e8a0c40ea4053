use Rattle.std.proofs.Common.{◌∙◌, arith}
use Rattle.reply_queues.specs.Replies.{make_due}
use Rattle.reply_queues.proofs.Lists.{firsts-next, firsts-all}
use Rattle.reply_queues.proofs.reply_queues.make_all_due.Goals as goal

pub loop-i-preserved : goal.loop-i-preserved
loop-i-preserved c = firsts-next (λ q. make_due q) c.loop-i.i _ _ c.index_mut-queue.result.now _ c.loop-i.invariant c.index_mut-queue.ensures.value c.make_due.ensures

pub returns : goal.returns
returns c = c.loop-i.invariant ∙ firsts-all (λ q. make_due q) c.loop-i.i _ (omega arith)
