use Rattle.topic_core.specs.Held.{core_of}
use Rattle.topic_core.proofs.Standings.{is_learnt-goes_on}
use Rattle.topic_core.proofs.Subscribing.{sound-is_learnt, receipts-subs}
use Rattle.topic_core.proofs.Learning.{with_subs, other_counts, still_same, learnt_of, looks_of}
use Rattle.topic_core.proofs.topic.TopicCore.look.Goals as goal

pub invariant_of-self : goal.invariant_of-self
invariant_of-self g c =
    let t = core_of c.self.inside in (
      c.self.invariant.0,
      sound-is_learnt t c.key_of.result c.look.new.self c.look.ensures.looked.learnt c.self.invariant.1,
      receipts-subs t c.look.new.self c.self.invariant.2,
      c.self.invariant.3,
    )

pub returns-clause-looked : goal.returns-clause-looked
returns-clause-looked g c =
    looks_of g.G.Gauge.exact (core_of c.self.inside) c.args.self.now c.args.who c.args.consumer_id c.key_of.result c.look.new.self c.self.view_is c.key_of.ensures c.look.ensures.looked

pub returns-clause-exact : goal.returns-clause-exact
returns-clause-exact g c = λ exact. still_same (core_of c.self.inside) c.args.self.now c.look.new.self c.self.view_is (c.look.ensures.exact exact)

pub returns-clause-goes_on : goal.returns-clause-goes_on
returns-clause-goes_on g c =
    let t = core_of c.self.inside in
    is_learnt-goes_on c.args.self.now (with_subs t c.look.new.self) c.args.who c.args.consumer_id (learnt_of t c.args.self.now c.args.who c.args.consumer_id c.key_of.result c.look.new.self c.self.view_is c.key_of.ensures c.look.ensures.looked.learnt)

pub returns-clause-counts : goal.returns-clause-counts
returns-clause-counts g c = other_counts (core_of c.self.inside) c.args.self.now c.look.new.self c.self.view_is
