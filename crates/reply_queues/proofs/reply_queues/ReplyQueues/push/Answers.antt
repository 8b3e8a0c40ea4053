use Rattle.std.proofs.Common.{◌≡◌, ◌∙◌, ap, sym, rules, [], ◌∷◌, ◌++◌, not, Some, None}
use Rattle.std.specs.List.{position}
use Rattle.reply_queues.specs.Replies.{is_for}
use Rattle.reply_queues.proofs.Places.{queued-none, no_place}
use Rattle.reply_queues.proofs.Sessions.{sessions_of, found-place, found-any, sessions-queued, one-more}
use Rattle.reply_queues.proofs.reply_queues.ReplyQueues.push.Goals as goal

pub returns-in_default-clause-ok : goal.returns-in_default-clause-ok
returns-in_default-clause-ok c =
    let qs = c.self.inside.queues.items in
    let found : c.place_of.result ≡ position (is_for c.args.who) qs = found-place c.args.who c.self.inside.sessions.items qs c.place_of.result c.self.invariant.0 (search rules) in
    let none : c.place_of.result ≡ None = search rules in
    let items : c.push.new.self.items ≡ qs ++ c.in_ok-queue.queue ∷ [] = search rules in
    let made : c.in_ok-queue.queue ≡ record { session = c.args.who; due = []; pending = c.args.reply ∷ []; handed_on = 0 } = search rules in
    rw (← c.self.view_is) (items ∙ ap (λ q. qs ++ q ∷ []) made ∙ sym (queued-none c.args.who c.args.reply qs (no_place c.args.who qs None (sym none ∙ found))))

pub returns-in_default-clause-made : goal.returns-in_default-clause-made
returns-in_default-clause-made c =
    let qs = c.self.inside.queues.items in
    let found : c.place_of.result ≡ position (is_for c.args.who) qs = found-place c.args.who c.self.inside.sessions.items qs c.place_of.result c.self.invariant.0 (search rules) in
    let none : c.place_of.result ≡ None = search rules in
    rw (← c.self.view_is) (ap (λ b. not b) (sym (no_place c.args.who qs None (sym none ∙ found))))

pub invariant_of-self-in_default : goal.invariant_of-self-in_default
invariant_of-self-in_default c =
    let ss = c.self.inside.sessions.items in
    let qs = c.self.inside.queues.items in
    let found : c.place_of.result ≡ position (is_for c.args.who) qs = found-place c.args.who ss qs c.place_of.result c.self.invariant.0 (search rules) in
    let none : c.place_of.result ≡ None = search rules in
    let more : c.push_reserved.new.self.items ≡ ss ++ c.args.who ∷ [] = search rules in
    let items : c.push.new.self.items ≡ qs ++ c.in_ok-queue.queue ∷ [] = search rules in
    let its : c.in_ok-queue.queue.session ≡ c.args.who = search rules in
    rw (more, items) (one-more ss qs c.in_ok-queue.queue c.args.who c.self.invariant its (no_place c.args.who qs None (sym none ∙ found)))

pub invariant_of-self-2 : goal.invariant_of-self-2
invariant_of-self-2 c =
    let qs = c.self.inside.queues.items in
    let found : c.place_of.result ≡ position (is_for c.args.who) qs = found-place c.args.who c.self.inside.sessions.items qs c.place_of.result c.self.invariant.0 (search rules) in
    let some : c.place_of.result ≡ Some c.in-Some.place = search rules in
    let at : position (is_for c.args.who) qs ≡ Some c.in-Some.place = sym found ∙ some in
    (c.self.invariant.0 ∙ sym (sessions-queued c.args.who c.args.reply qs (found-any c.args.who qs c.in-Some.place at)) ∙ ap (λ xs. sessions_of xs) (sym (c.in_ok-push_at.ensures.ok c.args.who at)), c.self.invariant.1)

pub returns-clause-ok : goal.returns-clause-ok
returns-clause-ok c =
    let qs = c.self.inside.queues.items in
    let found : c.place_of.result ≡ position (is_for c.args.who) qs = found-place c.args.who c.self.inside.sessions.items qs c.place_of.result c.self.invariant.0 (search rules) in
    let some : c.place_of.result ≡ Some c.in-Some.place = search rules in
    rw (← c.self.view_is) (c.in_ok-push_at.ensures.ok c.args.who (sym found ∙ some))

pub returns-clause-made : goal.returns-clause-made
returns-clause-made c =
    let qs = c.self.inside.queues.items in
    let found : c.place_of.result ≡ position (is_for c.args.who) qs = found-place c.args.who c.self.inside.sessions.items qs c.place_of.result c.self.invariant.0 (search rules) in
    let some : c.place_of.result ≡ Some c.in-Some.place = search rules in
    rw (← c.self.view_is) (ap (λ b. not b) (sym (found-any c.args.who qs c.in-Some.place (sym found ∙ some))))
