use Rattle.topic_core.specs.Held.{core_of}
use Rattle.topic_core.proofs.Standings.{is_learnt-goes_on, same_goes_on}
use Rattle.topic_core.proofs.Subscribing.{sound-is_learnt, receipts-subs}
use Rattle.topic_core.proofs.Learning.{with_subs, other_counts, still_same, learnt_of, looks_of, nothing_learnt}
use Rattle.topic_core.proofs.topic.TopicCore.pick.Goals as goal

pub invariant_of-self : goal.invariant_of-self
invariant_of-self g c =
    let t = core_of c.self.inside in (
      c.self.invariant.0,
      sound-is_learnt t c.key_of.result c.pick.new.self c.pick.ensures.looked.learnt c.self.invariant.1,
      receipts-subs t c.pick.new.self c.self.invariant.2,
      c.self.invariant.3,
    )

pub returns-clause-learnt : goal.returns-clause-learnt
returns-clause-learnt g c = learnt_of (core_of c.self.inside) c.args.self.now c.args.who c.args.consumer_id c.key_of.result c.pick.new.self c.self.view_is c.key_of.ensures c.pick.ensures.looked.learnt

pub returns-clause-looked : goal.returns-clause-looked
returns-clause-looked g c = λ _.
    looks_of g.G.Gauge.exact (core_of c.self.inside) c.args.self.now c.args.who c.args.consumer_id c.key_of.result c.pick.new.self c.self.view_is c.key_of.ensures c.pick.ensures.looked

pub returns-clause-exact : goal.returns-clause-exact
returns-clause-exact g c = λ exact. still_same (core_of c.self.inside) c.args.self.now c.pick.new.self c.self.view_is (c.pick.ensures.exact exact)

pub returns-clause-goes_on : goal.returns-clause-goes_on
returns-clause-goes_on g c =
    let t = core_of c.self.inside in
    is_learnt-goes_on c.args.self.now (with_subs t c.pick.new.self) c.args.who c.args.consumer_id (learnt_of t c.args.self.now c.args.who c.args.consumer_id c.key_of.result c.pick.new.self c.self.view_is c.key_of.ensures c.pick.ensures.looked.learnt)

pub returns-clause-counts : goal.returns-clause-counts
returns-clause-counts g c = other_counts (core_of c.self.inside) c.args.self.now c.pick.new.self c.self.view_is

pub returns-then-is_failed-clause-learnt : goal.returns-then-is_failed-clause-learnt
returns-then-is_failed-clause-learnt g c = nothing_learnt c.args.self.now c.args.who c.args.consumer_id

pub returns-then-is_failed-clause-goes_on : goal.returns-then-is_failed-clause-goes_on
returns-then-is_failed-clause-goes_on g c = same_goes_on c.args.self.now
