use Rattle.std.proofs.Common.{◌≡◌, ◌∙◌, ◌-◌, ap, sym, rules, true, false, take, length, Some, None}
use Rattle.std.specs.Prelude.{vec_len}
use Rattle.std.specs.List.{position, list_any}
use Rattle.std.proofs.lemmas.Bool.{true≢false}
use Rattle.reply_queues.specs.Replies.{is_for}
use Rattle.reply_queues.proofs.Distinct.{distinct-front}
use Rattle.reply_queues.proofs.Places.{made, queued-none, queued-any, no_place, without_last}
use Rattle.reply_queues.proofs.Sessions.{found-place, sessions-front, not-true, not-false}
use Rattle.reply_queues.proofs.reply_queues.ReplyQueues.drop_last.Goals as goal

pub invariant_of-self : goal.invariant_of-self
invariant_of-self c =
    let numbers : vec_len c.self.inside.sessions ≡ length c.self.inside.sessions.items = search rules in
    let queues : vec_len c.self.inside.queues ≡ length c.self.inside.queues.items = search rules in (
      sessions-front (vec_len c.self.inside.sessions) (vec_len c.self.inside.queues) c.self.inside.sessions.items c.pop-then-made.new.self.items c.self.inside.queues.items c.pop.new.self.items
          numbers queues c.self.invariant.0 c.pop-then-made.ensures.rest c.pop.ensures.rest,
      rw c.pop-then-made.ensures.rest (distinct-front (vec_len c.self.inside.sessions - 1) c.self.inside.sessions.items c.self.invariant.1),
    )

pub returns-then-made : goal.returns-then-made
returns-then-made c = λ reply before fits had is.
    let made_it : c.args.made ≡ true = c.if-made.true in
    let none : list_any (is_for c.args.who) before ≡ false = not-true (list_any (is_for c.args.who) before) (sym made_it ∙ had) in
    let items = (c.self.view_is ∙ is) ∙ queued-none c.args.who reply before none in
    let len : vec_len c.self.inside.queues ≡ length c.self.inside.queues.items = search rules in
    c.pop.ensures.rest ∙ ap (λ n. take (n - 1) c.self.inside.queues.items) len ∙ ap (λ xs. take (length xs - 1) xs) items
    ∙ without_last before (made c.args.who reply)

pub returns-in_default : goal.returns-in_default
returns-in_default c = λ reply before fits had is.
    let qs = c.self.inside.queues.items in
    let found : c.place_of.result ≡ position (is_for c.args.who) qs = found-place c.args.who c.self.inside.sessions.items qs c.place_of.result c.self.invariant.0 (search rules) in
    let none : c.place_of.result ≡ None = search rules in
    absurd (true≢false (sym (queued-any c.args.who reply before) ∙ ap (λ xs. list_any (is_for c.args.who) xs) (sym (c.self.view_is ∙ is)) ∙ no_place c.args.who qs None (sym none ∙ found)))

pub invariant_of-self-2 : goal.invariant_of-self-2
invariant_of-self-2 c = (c.self.invariant.0 ∙ sym c.drop_last_at.ensures.sessions, c.self.invariant.1)

pub returns : goal.returns
returns c = λ reply before fits had is.
    let qs = c.self.inside.queues.items in
    let made_not : c.args.made ≡ false = c.if-made.false in
    let any : list_any (is_for c.args.who) before ≡ true = not-false (list_any (is_for c.args.who) before) (sym made_not ∙ had) in
    let found : c.place_of.result ≡ position (is_for c.args.who) qs = found-place c.args.who c.self.inside.sessions.items qs c.place_of.result c.self.invariant.0 (search rules) in
    let some : c.place_of.result ≡ Some c.in-Some.place = search rules in
    c.drop_last_at.ensures.undone c.args.who reply before (sym found ∙ some) fits any (c.self.view_is ∙ is)
