use Rattle.topic_core.specs.Held.{core_of}
use Rattle.topic_core.proofs.Standings.{looked-goes_on}
use Rattle.topic_core.proofs.Subscribing.{sound-looked, receipts-subs}
use Rattle.topic_core.proofs.Learning.{with_subs, other_counts, still_same, looked_of, none_looked}
use Rattle.topic_core.proofs.topic.TopicCore.is_quiet.Goals as goal

pub invariant_of-self : goal.invariant_of-self
invariant_of-self g c =
    let t = core_of c.self.inside in (
      c.self.invariant.0,
      sound-looked t c.args.who c.is_quiet.new.self c.is_quiet.ensures.learnt c.self.invariant.1,
      receipts-subs t c.is_quiet.new.self c.self.invariant.2,
      c.self.invariant.3,
    )

pub returns-clause-learnt : goal.returns-clause-learnt
returns-clause-learnt g c = looked_of (core_of c.self.inside) c.args.self.now c.args.who c.is_quiet.new.self c.self.view_is c.is_quiet.ensures.learnt

pub returns-clause-exact : goal.returns-clause-exact
returns-clause-exact g c = λ exact. still_same (core_of c.self.inside) c.args.self.now c.is_quiet.new.self c.self.view_is (c.is_quiet.ensures.exact exact)

pub returns-clause-goes_on : goal.returns-clause-goes_on
returns-clause-goes_on g c =
    let t = core_of c.self.inside in
    looked-goes_on c.args.self.now (with_subs t c.is_quiet.new.self) c.args.who (looked_of t c.args.self.now c.args.who c.is_quiet.new.self c.self.view_is c.is_quiet.ensures.learnt)

pub returns-clause-counts : goal.returns-clause-counts
returns-clause-counts g c = other_counts (core_of c.self.inside) c.args.self.now c.is_quiet.new.self c.self.view_is

pub returns-then-self-clause-learnt : goal.returns-then-self-clause-learnt
returns-then-self-clause-learnt g c = none_looked c.args.self.now c.args.who
