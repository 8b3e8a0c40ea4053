use Rattle.std.proofs.Common.{sym, ◌%◌, slice_index_or}
use Rattle.reply_queues.proofs.Distinct.{place-here}
use Rattle.reply_queues.proofs.reply_queues.place_of.Goals as goal

pub returns-then-is_at : goal.returns-then-is_at
returns-then-is_at c =
    let at = c.is_at.ensures c.if-is_at.true in
    sym (place-here c.args.sessions.now c.args.who (slice_index_or c.args.hints.now (c.args.who % 64) 0) 0 c.requires at.0 at.1)
