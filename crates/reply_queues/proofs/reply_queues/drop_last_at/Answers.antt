use Rattle.std.proofs.Common.{◌≡◌, ◌∙◌, ap, subst, List, set, get_or}
use Rattle.reply_queues.specs.Replies.{SessionReplies}
use Rattle.reply_queues.proofs.Places.{IsPlace, is_place, undone}
use Rattle.reply_queues.proofs.Sessions.{sessions-set}
use Rattle.reply_queues.proofs.reply_queues.drop_last_at.Goals as goal

pub returns-clause-undone : goal.returns-clause-undone
returns-clause-undone c = λ who reply before found fits any is.
    let qs = c.args.queues.now.items in
    let q = c.index_mut-queue.result.now in
    let new = c.drop_last.new.self in
    let place : IsPlace who qs c.args.place q = is_place who qs c.args.place q found in
    ap (λ xs. set xs c.args.place new) is
    ∙ undone who reply q new c.drop_last.ensures.undone before c.args.place fits any
    (subst (λ (xs : List SessionReplies). IsPlace who xs c.args.place q) is place)
    (subst (λ (xs : List SessionReplies). q ≡ get_or xs c.args.place q) is c.index_mut-queue.ensures.value)

pub returns-clause-sessions : goal.returns-clause-sessions
returns-clause-sessions c = sessions-set c.args.queues.now.items c.args.place c.index_mut-queue.result.now c.drop_last.new.self c.index_mut-queue.ensures.value c.drop_last.ensures.session
