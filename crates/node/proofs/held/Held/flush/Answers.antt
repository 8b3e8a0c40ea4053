use Rattle.std.proofs.Common.{length, ap, subst}
use Rattle.topic_core.specs.Flush.{has_no_flush}
use Rattle.topic_core.specs.Standing.{Match, Standing}
use Rattle.node.specs.Standing.{phase_in}
use Rattle.node.proofs.Steps.{flush_within}
use Rattle.node.proofs.UnderWay.{flush_keeps}
use Rattle.node.proofs.Knowing.{flush_knows}
use Rattle.node.proofs.held.Held.flush.Goals as goal

pub flush-requires : goal.flush-requires
flush-requires g c = let h = c.args.self.now in record { matched = (phase_in h, h.matched) }

pub invariant_of-self : goal.invariant_of-self
invariant_of-self g c =
    let h = c.args.self.now in
    let e = c.flush.ensures in
    let new = c.flush.new.self in
    let kept = flush_keeps h.core new h.flight c.flush.result h.under_way e.step in
    record {
      matched = subst (λ p. Match p new (g.T.TopicStore.view c.flush.new.stores)) kept.phase (e.matched (phase_in h) h.matched);
      under_way = kept.under_way;
    }

pub returns-clause-stands : goal.returns-clause-stands
returns-clause-stands g c =
    let h = c.args.self.now in
    let e = c.flush.ensures in
    let new = c.flush.new.self in
    let kept = flush_keeps h.core new h.flight c.flush.result h.under_way e.step in
    λ s. subst (λ p. Standing g.T.TopicStore.stands p new (g.T.TopicStore.view c.flush.new.stores) (g.S.Shelf.disk c.flush.new.shelf)) kept.phase (e.standing (phase_in h) s)

pub returns-clause-within : goal.returns-clause-within
returns-clause-within g c =
    let h = c.args.self.now in
    let v = g.T.TopicStore.view h.stores in
    let e = c.flush.ensures in
    λ s. flush_within g.S.Shelf.disk (g.T.TopicStore.stands v.topic) h.core v.topic c.args.shelf.now c.flush.new.shelf s.left h.core.failed (has_no_flush h.core)
    (λ works some. e.within (phase_in h) s works some) (λ failed. (e.refused failed).0) (λ idle. (e.idle idle).0)

pub returns-clause-known : goal.returns-clause-known
returns-clause-known g c =
    let h = c.args.self.now in
    let e = c.flush.ensures in
    let view = g.T.TopicStore.view in
    flush_knows h.core c.flush.new.self h.flight (length (view h.stores).counts) (length (view c.flush.new.stores).counts) h.under_way
    (λ idle. ap (λ s. length (view s).counts) (e.idle idle).1) (λ failed. ap (λ s. length (view s).counts) (e.refused failed).1) e.known
