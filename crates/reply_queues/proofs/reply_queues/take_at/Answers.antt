use Rattle.reply_queues.proofs.Places.{takes_none, takes_first, is_place}
use Rattle.reply_queues.proofs.reply_queues.take_at.Goals as goal

pub returns-clause-none : goal.returns-clause-none
returns-clause-none c = λ who found.
    let qs = c.args.queues.now.items in
    let q = c.index_mut-queue.result.now in
    takes_none who qs c.args.place q c.take_due.new.self c.take_due.result (is_place who qs c.args.place q found) c.index_mut-queue.ensures.value c.take_due.ensures.reply c.take_due.ensures.rest

pub returns-clause-some : goal.returns-clause-some
returns-clause-some c = λ who found.
    let qs = c.args.queues.now.items in
    let q = c.index_mut-queue.result.now in
    takes_first who qs c.args.place q c.take_due.new.self c.take_due.result (is_place who qs c.args.place q found) c.index_mut-queue.ensures.value c.take_due.ensures.reply c.take_due.ensures.rest
