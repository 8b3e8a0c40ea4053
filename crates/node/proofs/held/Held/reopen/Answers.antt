use Rattle.std.proofs.Common.{length, ap, subst}
use Rattle.std.proofs.lemmas.Result.{on_ok_weaker}
use Rattle.topic_core.specs.State.{Topic}
use Rattle.topic_core.specs.Standing.{Standing}
use Rattle.node.specs.Standing.{phase_in}
use Rattle.node.proofs.Opening.{reopen_tells}
use Rattle.node.proofs.UnderWay.{reopen_keeps}
use Rattle.node.proofs.Knowing.{reopen_knows}
use Rattle.node.proofs.held.Held.reopen.Goals as goal

pub returns-clause-stands : goal.returns-clause-stands
returns-clause-stands g c =
    let h = c.args.self.now in
    let e = c.reopen.ensures in
    let new = c.reopen.new.self in
    λ s. subst (λ p. Standing g.T.TopicStore.stands p new (g.T.TopicStore.view c.reopen.new.stores) (g.S.Shelf.disk c.reopen.new.shelf)) (reopen_keeps h.core new h.flight h.under_way e.works).phase (e.standing (phase_in h) s)

pub returns-clause-tells : goal.returns-clause-tells
returns-clause-tells g c =
    let h = c.args.self.now in
    let e = c.reopen.ensures in
    reopen_tells g.T.TopicStore.stands g.T.TopicStore.faulty (g.T.TopicStore.view h.stores).topic h.core c.reopen.new.self (g.S.Shelf.disk c.args.shelf.now) (g.S.Shelf.disk c.reopen.new.shelf) c.reopen.result e.cause e.found e.told

pub returns-clause-known : goal.returns-clause-known
returns-clause-known g c =
    let h = c.args.self.now in
    let e = c.reopen.ensures in
    let new = c.reopen.new.self in
    let view = g.T.TopicStore.view in
    reopen_knows c.reopen.result h.core new h.flight (length (view h.stores).counts) (length (view c.reopen.new.stores).counts) h.under_way
    (λ works. ap (λ s. length (view s).counts) (e.stores works)) (λ bad. ap (λ s. length (view s).counts) (e.refused bad).1)
    (λ failed. on_ok_weaker c.reopen.result (λ same. ap (λ (t : Topic). t.failed) same) (e.again failed))
