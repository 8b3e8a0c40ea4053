use Rattle.std.proofs.Common.{◌<◌, length, refl, ◌∙◌, sym, arith}
use Rattle.std.proofs.lemmas.List.{length-set}
use Rattle.std.proofs.lemmas.Option.{slice_get_read}
use Rattle.catalog.specs.Catalogs.{per_ledger}
use Rattle.session.specs.Broker.{topic_at}
use Rattle.node.specs.Opening.{TellsOn}
use Rattle.node.specs.Standing.{broker_of}
use Rattle.node.proofs.Frames.{keep_numbers, topic_was, topic_now, of_number, of_number_within, stand_then, names_then, newest_then, settled_then, work_leaves, beyond_leaves}
use Rattle.node.proofs.Opening.{unknown_on, tells_at}
use Rattle.node.proofs.Knowing.{work_knows, know_same}
use Rattle.node.proofs.Working as working
use Rattle.node.proofs.node.Node.on_topic.Goals as goal

pub invariant_of-self : goal.invariant_of-self
invariant_of-self g c =
    let n = c.args.self.now in
    let t = n.topics in
    let k = c.args.topic in
    let low : k < length t.held.items = omega (arith, c.if-topic-count.false, c.count.ensures) in
    let h = c.index_mut.result.now in
    let was = slice_get_read t.held.items (length t.held.items) k h refl low c.index_mut.ensures.value in
    let next = c.work-verdict.new.self in
    record {
      numbered = keep_numbers (broker_of t) t.held.items k h next was (per_ledger t.catalog) t.numbered c.work-verdict.ensures.numbered;
      named = t.named ∙ sym (length-set t.held.items k next);
      doubted = t.doubted;
    }

pub returns-clause-step : goal.returns-clause-step
returns-clause-step g c =
    let n = c.args.self.now in
    let t = n.topics in
    let k = c.args.topic in
    let low : k < length t.held.items = omega (arith, c.if-topic-count.false, c.count.ensures) in
    let h = c.index_mut.result.now in
    let was = slice_get_read t.held.items (length t.held.items) k h refl low c.index_mut.ensures.value in
    let next = c.work-verdict.new.self in
    let e = c.work-verdict.ensures in
    λ s. rw c.only-2.ensures
    (working.worked (broker_of t) t.held.items k h next was low n.sessions.items n.used (g.S.Shelf.disk t.shelf).faults c.args.event (g.S.Shelf.disk c.work-verdict.new.shelf).faults e.faults c.work-verdict.result (e.step (s.each k h was)))

pub returns-clause-stands : goal.returns-clause-stands
returns-clause-stands g c =
    let n = c.args.self.now in
    let t = n.topics in
    let k = c.args.topic in
    let low : k < length t.held.items = omega (arith, c.if-topic-count.false, c.count.ensures) in
    let h = c.index_mut.result.now in
    let was = slice_get_read t.held.items (length t.held.items) k h refl low c.index_mut.ensures.value in
    let next = c.work-verdict.new.self in
    let disk = g.S.Shelf.disk in
    let d1 = disk c.work-verdict.new.shelf in
    let e = c.work-verdict.ensures in
    λ s.
    let here = e.stands (s.each k h was) in
    let within = of_number_within t k h was _ _ _ (e.within (s.each k h was)).2 in
    record {
      honest = here.honest;
      each = stand_then disk g.met.T.TopicStore.laws g.met.T.TopicStore.stands_local t k low h next was _ d1 within here s;
      newest = newest_then disk g.met.T.TopicStore.laws g.met.T.TopicStore.stands_local t k low h next was _ d1 within s;
      names = names_then disk g.met.T.TopicStore.laws g.met.T.TopicStore.stands_local t k low h next was _ d1 within s;
      settled = settled_then disk g.met.T.TopicStore.laws g.met.T.TopicStore.stands_local t k low h next was _ d1 within here.honest s;
    }

pub returns-clause-any_moment : goal.returns-clause-any_moment
returns-clause-any_moment g c =
    let n = c.args.self.now in
    let t = n.topics in
    let k = c.args.topic in
    let low : k < length t.held.items = omega (arith, c.if-topic-count.false, c.count.ensures) in
    let h = c.index_mut.result.now in
    let was = slice_get_read t.held.items (length t.held.items) k h refl low c.index_mut.ensures.value in
    let next = c.work-verdict.new.self in
    let disk = g.S.Shelf.disk in
    λ s. work_leaves disk g.met.T.TopicStore.laws g.met.T.TopicStore.stands_local t k low h next was c.args.self.now.sessions.items c.args.event (disk c.work-verdict.new.shelf) (c.work-verdict.ensures.within (s.each k h was)) s

pub returns-then-topic-count-clause-any_moment : goal.returns-then-topic-count-clause-any_moment
returns-then-topic-count-clause-any_moment g c =
    let t = c.args.self.now.topics in
    λ s. beyond_leaves g.S.Shelf.disk t c.args.topic (λ low. omega (arith, low, c.if-topic-count.true, c.count.ensures)) c.args.self.now.sessions.items c.args.event s

pub returns-clause-tells : goal.returns-clause-tells
returns-clause-tells g c =
    let n = c.args.self.now in
    let t = n.topics in
    let k = c.args.topic in
    let low : k < length t.held.items = omega (arith, c.if-topic-count.false, c.count.ensures) in
    let h = c.index_mut.result.now in
    let was = slice_get_read t.held.items (length t.held.items) k h refl low c.index_mut.ensures.value in
    let next = c.work-verdict.new.self in
    let d0 = g.S.Shelf.disk t.shelf in
    let d1 = g.S.Shelf.disk c.work-verdict.new.shelf in
    let stands = g.T.TopicStore.stands in
    let faulty = g.T.TopicStore.faulty in
    rw c.only-2.ensures
    (tells_at stands faulty c.args.event k h.core next.core _ _ (topic_was (broker_of t) t.held.items k h next was) (topic_now (broker_of t) t.held.items k h next was) d0 d1 c.work-verdict.result
    (of_number t k h was (λ i. TellsOn stands faulty c.args.event i h.core next.core d0 d1 c.work-verdict.result) c.work-verdict.ensures.tells))

pub returns-then-topic-count-clause-tells : goal.returns-then-topic-count-clause-tells
returns-then-topic-count-clause-tells g c =
    let t = c.args.self.now.topics in
    let d = g.S.Shelf.disk t.shelf in
    let at = topic_at (broker_of t) c.args.topic in
    rw c.only.ensures (unknown_on g.T.TopicStore.stands g.T.TopicStore.faulty c.args.event c.args.topic at at d d)

pub returns-clause-known : goal.returns-clause-known
returns-clause-known g c =
    let t = c.args.self.now.topics in
    let k = c.args.topic in
    let low : k < length t.held.items = omega (arith, c.if-topic-count.false, c.count.ensures) in
    let h = c.index_mut.result.now in
    let was = slice_get_read t.held.items (length t.held.items) k h refl low c.index_mut.ensures.value in
    work_knows t _ k h c.work-verdict.new.self was refl c.work-verdict.ensures.known

pub returns-then-topic-count-clause-known : goal.returns-then-topic-count-clause-known
returns-then-topic-count-clause-known g c = know_same c.args.self.now.topics c.args.self.now.topics (λ number low. refl)
