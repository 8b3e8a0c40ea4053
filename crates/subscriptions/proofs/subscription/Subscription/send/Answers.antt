use Rattle.std.proofs.Common.{◌≡◌, true, sym, subst, ap}
use Rattle.std.specs.List.{find}
use Rattle.holds.specs.Backlog.{IsOpenAt}
use Rattle.subscriptions.specs.State.{Subscription}
use Rattle.subscriptions.specs.Steps.{is_consumer, has_permit, learnt_on, sent_on}
use Rattle.subscriptions.specs.Held.{subscription_of}
use Rattle.subscriptions.proofs.Sound.{sound_sent, sound_learnt}
use Rattle.subscriptions.proofs.subscription.Subscription.send.Goals as goal

pub invariant_of-self-2 : goal.invariant_of-self-2
invariant_of-self-2 g c =
    let l = c.take.ensures.learnt in
    let s = subscription_of c.self.inside in
    let permit = subst (λ (s : Subscription). has_permit (find (is_consumer c.args.key) s.consumers) ≡ true) (sym c.self.view_is) c.requires.permit in
    let is_open = subst (λ (s : Subscription). IsOpenAt c.args.committed s.acked s.deliveries c.args.position) (sym c.self.view_is) c.requires.is_open in
    rw (c.in_ok-hold.ensures.acked, c.in_ok-hold.ensures.ok, l.same)
    (sound_learnt c.args.key l.seen (sent_on c.args.key c.args.messages c.args.position s) l.bound (sound_sent c.args.key c.args.committed c.args.messages c.args.position s c.requires.few permit is_open c.self.invariant))

pub returns-clause-ok : goal.returns-clause-ok
returns-clause-ok g c =
    let l = c.take.ensures.learnt in record {
      seen = l.seen;
      bound = l.bound;
      same = rw (c.in_ok-hold.ensures.acked, c.in_ok-hold.ensures.ok, l.same) (ap (λ (x : Subscription). learnt_on c.args.key l.seen (sent_on c.args.key c.args.messages c.args.position x)) c.self.view_is);
    }

pub returns-clause-exact : goal.returns-clause-exact
returns-clause-exact g c = λ e. rw (c.in_ok-hold.ensures.acked, c.in_ok-hold.ensures.ok, c.take.ensures.exact e) (ap (λ (x : Subscription). sent_on c.args.key c.args.messages c.args.position x) c.self.view_is)
