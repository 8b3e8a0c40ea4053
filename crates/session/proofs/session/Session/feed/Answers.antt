use Rattle.std.proofs.Common.{◌≡◌, ◌∙◌, [], inl, inr, refl, sym, ap, subst, Some, None, Ok, Err}
use Rattle.session.specs.Client.{Client, play}
use Rattle.session.specs.Working.{feed_result, names_in, AreAskedIn, FeedStep}
use Rattle.session.proofs.Plays.{feed_made, ends_made}
use Rattle.session.proofs.Causes.{frames_caused}
use Rattle.session.proofs.session.Session.feed.Goals as goal

pub returns-in-None-clause-step : goal.returns-in-None-clause-step
returns-in-None-clause-step g c = λ s.
    let port = g.met.P.Port in
    let names = names_in c.feed-read.new.frames.items in
    let Fails : Type 0 = g.P.Port.fails c.args.port.now c.leave_if_ended.new.port in
    let caused : g.P.Port.fails c.args.port.now c.work_all.new.port → Fails = port.fails_within names c.args.port.now c.args.port.now c.work_all.new.port c.leave_if_ended.new.port
    (port.passes_works names _ _ (port.passes_nothing _)) c.work_all.ensures.works (port.passes_works names _ _ c.leave_if_ended.ensures.passes) in
    let e : c.end_if.new.self.fault ≡ None = sym c.leave_if_ended.ensures.fault ∙ c.in-None.is in
    let P : Client → Type 0 = λ v. FeedStep Fails (play v (g.P.Port.broker c.args.port.now) c.args.out.now.items) c.args.bytes.now (Ok tt)
    (play c.end_if.new.self (g.P.Port.broker c.leave_if_ended.new.port) c.work_all.new.out.items) in
    subst P c.self.view_is (feed_made Fails _ _ _ _ c.feed-read.new.frames.items c.feed-read.result c.feed-read.new.self
    (play c.work_all.new.self (g.P.Port.broker c.work_all.new.port) c.work_all.new.out.items) _ _
    c.in_default.is (rw c.new-frames.ensures.items at c.feed-read.ensures) (frames_caused (g.P.Port.fails c.args.port.now c.work_all.new.port) Fails caused _ _ _ (c.work_all.ensures.step s))
    (ends_made _ _ _ _ _ _ c.end_if.ensures (c.leave_if_ended.ensures.left (g.met.P.Port.works_sole names _ _ c.work_all.ensures.works s)))
    (sym (ap feed_result e)))

pub returns-in-Some-leave_if_ended-clause-step : goal.returns-in-Some-leave_if_ended-clause-step
returns-in-Some-leave_if_ended-clause-step g c = λ s.
    let port = g.met.P.Port in
    let names = names_in c.feed-read.new.frames.items in
    let Fails : Type 0 = g.P.Port.fails c.args.port.now c.leave_if_ended.new.port in
    let caused : g.P.Port.fails c.args.port.now c.work_all.new.port → Fails = port.fails_within names c.args.port.now c.args.port.now c.work_all.new.port c.leave_if_ended.new.port
    (port.passes_works names _ _ (port.passes_nothing _)) c.work_all.ensures.works (port.passes_works names _ _ c.leave_if_ended.ensures.passes) in
    let e : c.end_if.new.self.fault ≡ Some c.in-Some-leave_if_ended.why = sym c.leave_if_ended.ensures.fault ∙ c.in-Some-leave_if_ended.is in
    let P : Client → Type 0 = λ v. FeedStep Fails (play v (g.P.Port.broker c.args.port.now) c.args.out.now.items) c.args.bytes.now (Err c.in-Some-leave_if_ended.why)
    (play c.end_if.new.self (g.P.Port.broker c.leave_if_ended.new.port) c.work_all.new.out.items) in
    subst P c.self.view_is (feed_made Fails _ _ _ _ c.feed-read.new.frames.items c.feed-read.result c.feed-read.new.self
    (play c.work_all.new.self (g.P.Port.broker c.work_all.new.port) c.work_all.new.out.items) _ _
    c.in_default.is (rw c.new-frames.ensures.items at c.feed-read.ensures) (frames_caused (g.P.Port.fails c.args.port.now c.work_all.new.port) Fails caused _ _ _ (c.work_all.ensures.step s))
    (ends_made _ _ _ _ _ _ c.end_if.ensures (c.leave_if_ended.ensures.left (g.met.P.Port.works_sole names _ _ c.work_all.ensures.works s)))
    (sym (ap feed_result e)))

pub returns-in-Some-clause-works : goal.returns-in-Some-clause-works
returns-in-Some-clause-works g c = record { names = []; asked = inl refl; holds = g.met.P.Port.passes_works [] _ _ (g.met.P.Port.passes_nothing _) }

pub returns-in-None-clause-works : goal.returns-in-None-clause-works
returns-in-None-clause-works g c =
    let port = g.met.P.Port in
    let names = names_in c.feed-read.new.frames.items in
    let asked = subst (λ (v : Client). AreAskedIn v c.args.bytes.now names) c.self.view_is (inr (c.feed-read.new.frames.items, c.feed-read.result, c.feed-read.new.self, (rw c.new-frames.ensures.items at c.feed-read.ensures), refl)) in
    record { names = names; asked = asked; holds = port.works_both names _ _ _ c.work_all.ensures.works (port.passes_works names _ _ c.leave_if_ended.ensures.passes) }

pub returns-in-Some-leave_if_ended-clause-works : goal.returns-in-Some-leave_if_ended-clause-works
returns-in-Some-leave_if_ended-clause-works g c =
    let port = g.met.P.Port in
    let names = names_in c.feed-read.new.frames.items in
    let asked = subst (λ (v : Client). AreAskedIn v c.args.bytes.now names) c.self.view_is (inr (c.feed-read.new.frames.items, c.feed-read.result, c.feed-read.new.self, (rw c.new-frames.ensures.items at c.feed-read.ensures), refl)) in
    record { names = names; asked = asked; holds = port.works_both names _ _ _ c.work_all.ensures.works (port.passes_works names _ _ c.leave_if_ended.ensures.passes) }
