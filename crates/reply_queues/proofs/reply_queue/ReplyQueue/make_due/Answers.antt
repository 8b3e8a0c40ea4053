use Rattle.std.proofs.Common.{◌∙◌, ap, take, drop, List, ◌++◌, ◌+◌}
use Rattle.std.proofs.Math.Seq.{take-add}
use Rattle.commands.specs.declared.reply.Reply.{Reply}
use Rattle.reply_queues.specs.Replies.{SessionReplies, make_due}
use Rattle.reply_queues.proofs.Lists.{drop-add}
use Rattle.reply_queues.proofs.reply_queue.ReplyQueue.make_due.Goals as goal

pub returns : goal.returns
returns c =
    let i = c.self.inside in
    ap (λ (d : List Reply). let x : SessionReplies = record { session = i.session; due = d; pending = drop (i.due + i.handed_on) i.replies.items; handed_on = 0 } in x) (take-add i.due i.handed_on i.replies.items)
    ∙ ap (λ (p : List Reply). let x : SessionReplies = record { session = i.session; due = take i.due i.replies.items ++ take i.handed_on (drop i.due i.replies.items); pending = p; handed_on = 0 } in x) (drop-add i.due i.handed_on i.replies.items)
    ∙ ap make_due c.self.view_is
