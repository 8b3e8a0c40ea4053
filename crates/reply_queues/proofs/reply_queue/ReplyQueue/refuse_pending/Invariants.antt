use Rattle.std.proofs.Common.{◌≡◌, ◌≤◌, length}
use Rattle.reply_queues.specs.Replies.{refused}
use Rattle.reply_queues.proofs.Lists.{firsts_behind}
use Rattle.reply_queues.proofs.reply_queue.ReplyQueue.refuse_pending.Given as goal

abbrev pub invariant-loop-i : goal.invariant-loop-i
invariant-loop-i l =
    (l.self-inside.replies.items ≡ firsts_behind (λ r. refused r) l.initial.self-inside.due l.i l.initial.self-inside.replies.items)
    × (length l.self-inside.replies.items ≡ length l.initial.self-inside.replies.items)
    × (l.self-inside.session ≡ l.initial.self-inside.session)
    × (l.self-inside.due ≡ l.initial.self-inside.due)
    × (l.initial.self-inside.due ≤ l.i)
