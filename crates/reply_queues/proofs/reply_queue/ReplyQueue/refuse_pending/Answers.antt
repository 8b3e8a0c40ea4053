use Rattle.std.proofs.Common.{◌≡◌, ◌∙◌, ◌≤◌, ◌++◌, [], length, take, drop, map, ap, arith, rules}
use Rattle.std.proofs.lemmas.List.{take_all, drop_all, length-set}
use Rattle.reply_queues.specs.Replies.{SessionReplies, refused, refuse_pending}
use Rattle.reply_queues.proofs.Lists.{behind-next, behind-all}
use Rattle.reply_queues.proofs.reply_queue.ReplyQueue.refuse_pending.Goals as goal

pub loop-i-preserved : goal.loop-i-preserved
loop-i-preserved c =
    let o = c.self.inside.replies.items in
    let i = c.loop-i.invariant in
    let fits : c.self.inside.due ≤ length o = omega (arith, c.self.invariant) in (
      behind-next (λ r. refused r) c.self.inside.due c.loop-i.i o c.loop-i.self-inside.replies.items c.index_mut-reply.result.now c.refuse.new.reply i.4 fits i.0 c.index_mut-reply.ensures.value c.refuse.ensures,
      length-set c.loop-i.self-inside.replies.items c.loop-i.i c.refuse.new.reply ∙ i.1,
      i.2,
      i.3,
      omega (arith, i.4),
    )

pub returns : goal.returns
returns c =
    let o = c.self.inside.replies.items in
    let d = c.self.inside.due in
    let i = c.loop-i.invariant in
    let n = c.len-self-inside.result in
    let is : n ≡ length c.loop-i.self-inside.replies.items = search rules in
    let end_is : c.len-i-end.result ≡ length o = search rules in
    let at_end : length o ≤ c.loop-i.i = omega (arith, end_is, c.loop-i-test.false) in
    let items : c.loop-i.self-inside.replies.items ≡ take d o ++ map (λ r. refused r) (drop d o) = i.0 ∙ behind-all (λ r. refused r) d c.loop-i.i o at_end in
    let all : take n c.loop-i.self-inside.replies.items ≡ take d o ++ map (λ r. refused r) (drop d o) = take_all n c.loop-i.self-inside.replies.items (omega (arith, is)) ∙ items in
    let none : drop n c.loop-i.self-inside.replies.items ≡ [] = drop_all n c.loop-i.self-inside.replies.items (omega (arith, is)) in
    ap (λ s. let a : SessionReplies = record { session = s; due = take n c.loop-i.self-inside.replies.items; pending = drop n c.loop-i.self-inside.replies.items; handed_on = 0 } in a) i.2
    ∙ ap (λ x. let a : SessionReplies = record { session = c.self.inside.session; due = x; pending = drop n c.loop-i.self-inside.replies.items; handed_on = 0 } in a) all
    ∙ ap (λ x. let a : SessionReplies = record { session = c.self.inside.session; due = take d o ++ map (λ r. refused r) (drop d o); pending = x; handed_on = 0 } in a) none
    ∙ ap (λ (q : SessionReplies). refuse_pending q) c.self.view_is
