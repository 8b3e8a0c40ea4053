use Rattle.std.proofs.Common.{◌≡◌, ◌≤◌, ℕ, List, length, Some, None, ap, sym, ◌∙◌, subst, set, arith, rules}
use Rattle.std.specs.Prelude.{slice_index}
use Rattle.std.specs.List.{position}
use Rattle.subscriptions.specs.State.{Subscription, Subscriptions}
use Rattle.subscriptions.specs.Steps.{is_on, Admits, learnt, learnt_on, IsLearnt, sent, sent_before, sent_on}
use Rattle.subscriptions.proofs.Found.{admits_none, admitted, before_at}
use Rattle.holds.specs.Backlog.{IsOpenAt}
use Rattle.subscriptions.proofs.Sound.{opens_of}
use Rattle.subscriptions.proofs.Limits.{admitted_low}
use Rattle.subscriptions.proofs.Places.{changes}
use Rattle.subscriptions.proofs.Learning.{kept_sent, sends_at}
use Rattle.subscriptions.proofs.table.Subscriptions.send.Goals as goal

pub unreachable-requires : goal.unreachable-requires
unreachable-requires g c =
    let t : Subscriptions = record { subs = c.self.inside.subs.items; changes = c.self.inside.changes.items; slots = c.self.inside.marks.slots; messages = c.self.inside.marks.messages } in
    let at : position (is_on c.args.key) c.self.inside.subs.items ≡ None = search rules in
    admits_none t c.args.key c.args.committed c.args.position at (subst (λ (x : Subscriptions). Admits x c.args.key c.args.committed c.args.position) (sym c.self.view_is) c.requires.admitted)

pub messages-messages-requires : goal.messages-messages-requires
messages-messages-requires g c =
    let t : Subscriptions = record { subs = c.self.inside.subs.items; changes = c.self.inside.changes.items; slots = c.self.inside.marks.slots; messages = c.self.inside.marks.messages } in
    let low = admitted_low t c.args.key c.args.committed c.args.position (subst (λ (x : Subscriptions). Admits x c.args.key c.args.committed c.args.position) (sym c.self.view_is) c.requires.admitted) in
    let known = subst (λ (x : Subscriptions). c.args.committed ≤ length x.messages) (sym c.self.view_is) c.requires.known in
    omega (arith, low, known)

pub send-requires-clause-permit : goal.send-requires-clause-permit
send-requires-clause-permit g c =
    let t : Subscriptions = record { subs = c.self.inside.subs.items; changes = c.self.inside.changes.items; slots = c.self.inside.marks.slots; messages = c.self.inside.marks.messages } in
    let at : position (is_on c.args.key) c.self.inside.subs.items ≡ Some c.in-Some.place = search rules in
    (admitted t c.args.key c.args.committed c.args.position c.in-Some.place c.index_mut-sub.result.now at c.index_mut-sub.ensures.value
    (subst (λ (x : Subscriptions). Admits x c.args.key c.args.committed c.args.position) (sym c.self.view_is) c.requires.admitted)).permit

pub send-requires-clause-is_open : goal.send-requires-clause-is_open
send-requires-clause-is_open g c =
    let t : Subscriptions = record { subs = c.self.inside.subs.items; changes = c.self.inside.changes.items; slots = c.self.inside.marks.slots; messages = c.self.inside.marks.messages } in
    let s : Subscription = c.index_mut-sub.result.now in
    let at : position (is_on c.args.key) c.self.inside.subs.items ≡ Some c.in-Some.place = search rules in
    opens_of s.mode c.args.key s t.slots (IsOpenAt c.args.committed s.acked s.deliveries) c.args.position
    (admitted t c.args.key c.args.committed c.args.position c.in-Some.place s at c.index_mut-sub.ensures.value
    (subst (λ (x : Subscriptions). Admits x c.args.key c.args.committed c.args.position) (sym c.self.view_is) c.requires.admitted)).served

pub invariant_of-self-2 : goal.invariant_of-self-2
invariant_of-self-2 g c =
    let t : Subscriptions = record { subs = c.self.inside.subs.items; changes = c.self.inside.changes.items; slots = c.self.inside.marks.slots; messages = c.self.inside.marks.messages } in
    let at : position (is_on c.args.key) c.self.inside.subs.items ≡ Some c.in-Some.place = search rules in
    let learnt_so = subst (λ (m : ℕ). IsLearnt (λ n. learnt_on c.args.key n (sent_on c.args.key m c.args.position c.index_mut-sub.result.now)) c.send.new.self) c.messages-messages.ensures.count c.in_ok-before.ensures.ok in
    kept_sent t c.args.key c.args.position c.in-Some.place c.index_mut-sub.result.now c.send.new.self c.self.inside.hints.items c.self.inside.directory c.self.inside.quiet c.forget.new.self c.forget.ensures at
    c.index_mut-sub.ensures.value learnt_so c.self.invariant

pub returns-clause-ok : goal.returns-clause-ok
returns-clause-ok g c =
    let t : Subscriptions = record { subs = c.self.inside.subs.items; changes = c.self.inside.changes.items; slots = c.self.inside.marks.slots; messages = c.self.inside.marks.messages } in
    let at : position (is_on c.args.key) c.self.inside.subs.items ≡ Some c.in-Some.place = search rules in
    let new : Subscriptions = record t { subs = set t.subs c.in-Some.place c.send.new.self } in
    let learnt_so = subst (λ (m : ℕ). IsLearnt (λ n. learnt_on c.args.key n (sent_on c.args.key m c.args.position c.index_mut-sub.result.now)) c.send.new.self) c.messages-messages.ensures.count c.in_ok-before.ensures.ok in
    subst (λ (x : Subscriptions). IsLearnt (learnt (sent x c.args.key c.args.position) c.args.key) new) c.self.view_is (sends_at t c.args.key c.args.position c.in-Some.place c.index_mut-sub.result.now c.send.new.self at c.index_mut-sub.ensures.value learnt_so)

pub returns-clause-exact : goal.returns-clause-exact
returns-clause-exact g c = λ e.
    let t : Subscriptions = record { subs = c.self.inside.subs.items; changes = c.self.inside.changes.items; slots = c.self.inside.marks.slots; messages = c.self.inside.marks.messages } in
    let at : position (is_on c.args.key) c.self.inside.subs.items ≡ Some c.in-Some.place = search rules in
    ap (λ (subs : List Subscription). let new : Subscriptions = record t { subs = subs } in new)
    (changes (is_on c.args.key) (sent_on c.args.key (slice_index t.messages c.args.position) c.args.position) t.subs c.in-Some.place c.index_mut-sub.result.now c.send.new.self at c.index_mut-sub.ensures.value
    (c.in_ok-before.ensures.exact e ∙ ap (λ (m : ℕ). sent_on c.args.key m c.args.position c.index_mut-sub.result.now) c.messages-messages.ensures.count))
    ∙ ap (λ (x : Subscriptions). sent x c.args.key c.args.position) c.self.view_is

pub returns-clause-before : goal.returns-clause-before
returns-clause-before g c =
    let t : Subscriptions = record { subs = c.self.inside.subs.items; changes = c.self.inside.changes.items; slots = c.self.inside.marks.slots; messages = c.self.inside.marks.messages } in
    let at : position (is_on c.args.key) c.self.inside.subs.items ≡ Some c.in-Some.place = search rules in
    before_at t c.args.key c.args.position c.in-Some.place c.index_mut-sub.result.now c.in_ok-before.before at c.index_mut-sub.ensures.value c.in_ok-before.ensures.before
    ∙ ap (λ (x : Subscriptions). sent_before x c.args.key c.args.position) c.self.view_is
