use Rattle.std.proofs.Common.{sym, subst}
use Rattle.topic_core.specs.State.{Topic}
use Rattle.topic_core.specs.Dispatch.{Admits}
use Rattle.topic_core.specs.Standing.{GoesOn}
use Rattle.topic_core.proofs.Standings.{given-goes_on}
use Rattle.topic_core.specs.Held.{core_of}
use Rattle.topic_core.proofs.Subscribing.{sound-sent, receipts-subs}
use Rattle.topic_core.proofs.Learning.{with_subs, given}
use Rattle.topic_core.proofs.topic.TopicCore.give.Goals as goal

pub invariant_of-self-2 : goal.invariant_of-self-2
invariant_of-self-2 g c =
    let t = core_of c.self.inside in
    let admitted : Admits t c.args.key c.args.position = subst (λ (x : Topic). Admits x c.args.key c.args.position) (sym c.self.view_is) c.requires.admitted in (
      c.self.invariant.0,
      sound-sent t c.args.key c.args.position c.send.result c.send.new.self admitted.admitted c.send.ensures.ok c.send.ensures.err c.self.invariant.1,
      receipts-subs t c.send.new.self c.self.invariant.2,
      c.self.invariant.3,
    )

pub returns-clause-ok : goal.returns-clause-ok
returns-clause-ok g c =
    given g.G.Gauge.exact (core_of c.self.inside) c.args.self.now c.args.key c.args.position c.send.new.self c.self.view_is c.requires.admitted c.in_ok-redelivery_count.ensures.ok
    (λ exact. c.in_ok-redelivery_count.ensures.exact exact)

pub returns-clause-goes_on : goal.returns-clause-goes_on
returns-clause-goes_on g c =
    let t = core_of c.self.inside in
    subst (λ (x : Topic). GoesOn x (with_subs t c.send.new.self)) c.self.view_is (given-goes_on t c.args.key c.args.position c.send.new.self c.in_ok-redelivery_count.ensures.ok)
