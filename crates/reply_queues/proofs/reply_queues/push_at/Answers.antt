use Rattle.reply_queues.proofs.Sessions.{pushed-at}
use Rattle.reply_queues.proofs.reply_queues.push_at.Goals as goal

pub returns-clause-ok : goal.returns-clause-ok
returns-clause-ok c = λ who found.
    pushed-at who c.args.reply c.args.queues.now.items c.args.place c.index_mut-queue.result.now c.push.new.self c.push.result found c.index_mut-queue.ensures.value c.push.ensures.ok
