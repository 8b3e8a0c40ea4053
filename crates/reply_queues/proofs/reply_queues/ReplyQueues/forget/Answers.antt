use Rattle.std.proofs.Common.{◌≡◌, ◌∙◌, ap, sym, rules, filter, not, nat_eq}
use Rattle.std.proofs.lemmas.Fn.{filter_same}
use Rattle.reply_queues.proofs.Distinct.{distinct-without}
use Rattle.reply_queues.proofs.Sessions.{sessions_of, sessions-without}
use Rattle.reply_queues.proofs.reply_queues.ReplyQueues.forget.Goals as goal

pub invariant_of-self : goal.invariant_of-self
invariant_of-self c =
    let left : c.retain.new.self.items ≡ filter (λ s. not (nat_eq s c.args.who)) c.self.inside.sessions.items = filter_same _ _ _ (λ x b f' k. search rules) _ _ c.retain.ensures.filtered in
    (left ∙ ap (λ ss. filter (λ s. not (nat_eq s c.args.who)) ss) c.self.invariant.0 ∙ sessions-without c.args.who c.self.inside.queues.items ∙ ap (λ qs. sessions_of qs) (sym c.forget_queues.ensures), rw left (distinct-without (λ s. not (nat_eq s c.args.who)) c.self.inside.sessions.items c.self.invariant.1))
