use Rattle.std.proofs.Common.{◌≡◌, ◌∙◌, sym, refl, rules, Some, None}
use Rattle.std.specs.List.{position}
use Rattle.reply_queues.specs.Replies.{is_for}
use Rattle.reply_queues.proofs.Places.{no_place, due_to-none}
use Rattle.reply_queues.proofs.Sessions.{found-place, taken-sessions}
use Rattle.reply_queues.proofs.reply_queues.ReplyQueues.take.Goals as goal

pub returns-in_err-place-clause-none : goal.returns-in_err-place-clause-none
returns-in_err-place-clause-none c =
    let qs = c.self.inside.queues.items in
    let found : c.place_of.result ≡ position (is_for c.args.who) qs = found-place c.args.who c.self.inside.sessions.items qs c.place_of.result c.self.invariant.0 (search rules) in
    let none : c.place_of.result ≡ None = search rules in
    rw (c.from_residual.ensures, ← c.self.view_is) (due_to-none c.args.who qs (no_place c.args.who qs None (sym none ∙ found)), refl)

pub invariant_of-self-2 : goal.invariant_of-self-2
invariant_of-self-2 c =
    let qs = c.self.inside.queues.items in
    let found : c.place_of.result ≡ position (is_for c.args.who) qs = found-place c.args.who c.self.inside.sessions.items qs c.place_of.result c.self.invariant.0 (search rules) in
    let at : position (is_for c.args.who) qs ≡ Some c.in_ok-place.place = sym found ∙ c.in_ok-place.was in
    (c.self.invariant.0 ∙ taken-sessions c.args.who qs c.take_at.new.queues.items c.take_at.result (c.take_at.ensures.none c.args.who at) (c.take_at.ensures.some c.args.who at), c.self.invariant.1)

pub returns-clause-none : goal.returns-clause-none
returns-clause-none c =
    let qs = c.self.inside.queues.items in
    let found : c.place_of.result ≡ position (is_for c.args.who) qs = found-place c.args.who c.self.inside.sessions.items qs c.place_of.result c.self.invariant.0 (search rules) in
    rw (← c.self.view_is) (c.take_at.ensures.none c.args.who (sym found ∙ c.in_ok-place.was))

pub returns-clause-some : goal.returns-clause-some
returns-clause-some c =
    let qs = c.self.inside.queues.items in
    let found : c.place_of.result ≡ position (is_for c.args.who) qs = found-place c.args.who c.self.inside.sessions.items qs c.place_of.result c.self.invariant.0 (search rules) in
    rw (← c.self.view_is) (c.take_at.ensures.some c.args.who (sym found ∙ c.in_ok-place.was))
