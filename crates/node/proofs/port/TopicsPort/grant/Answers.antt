use Rattle.std.proofs.Common.{length, refl, ap, sym, ◌∙◌}
use Rattle.std.proofs.lemmas.List.{length-set}
use Rattle.std.proofs.lemmas.Option.{slice_get_read}
use Rattle.catalog.specs.Catalogs.{per_ledger}
use Rattle.node.specs.Standing.{broker_of}
use Rattle.node.specs.Passing.{passes_core}
use Rattle.node.proofs.Frames.{keep_numbers, topic_was, topic_now, becomes}
use Rattle.node.proofs.Ports.{grants}
use Rattle.node.proofs.port.TopicsPort.grant.Goals as goal

pub invariant_of-self : goal.invariant_of-self
invariant_of-self g c =
    let t = c.args.self.now in
    let h = c.index_mut.result.now in
    let was = slice_get_read t.held.items (length t.held.items) c.args.topic h refl c.requires c.index_mut.ensures.value in
    let e = c.grant.ensures in
    record {
      numbered = keep_numbers (broker_of t) t.held.items c.args.topic h c.grant.new.self was (per_ledger t.catalog) t.numbered (ap (λ s. (g.T.TopicStore.view s).topic) e.rest.0, e.goes_on.per_ledger);
      named = t.named ∙ sym (length-set t.held.items c.args.topic c.grant.new.self);
      doubted = t.doubted;
    }

pub returns-clause-passes : goal.returns-clause-passes
returns-clause-passes g c =
    let t = c.args.self.now in
    let h = c.index_mut.result.now in
    let was = slice_get_read t.held.items (length t.held.items) c.args.topic h refl c.requires c.index_mut.ensures.value in
    let e = c.grant.ensures in
    passes_core g.S.Shelf.disk t _ c.args.topic h c.grant.new.self was refl refl refl refl e.rest.0 e.rest.1 e.goes_on refl

pub returns-clause-step : goal.returns-clause-step
returns-clause-step g c = λ stands.
    let t = c.args.self.now in
    let k = c.args.topic in
    let h = c.index_mut.result.now in
    let next = c.grant.new.self in
    let was = slice_get_read t.held.items (length t.held.items) k h refl c.requires c.index_mut.ensures.value in
    grants _ _ k h.core next.core (topic_was (broker_of t) t.held.items k h next was) (topic_now (broker_of t) t.held.items k h next was) (becomes (broker_of t) t.held.items k h next was) c.args.who c.args.consumer_id c.args.permits c.grant.result c.grant.ensures.step
