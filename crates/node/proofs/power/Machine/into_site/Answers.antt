use Rattle.std.proofs.Common.{sym, subst, ap, ◌∙◌}
use Rattle.node.specs.Standing.{AtRest}
use Rattle.node.specs.Driving.{Holds}
use Rattle.node.specs.Runs.{Life}
use Rattle.node.specs.declared.power.Machine.TheVariants as machine
use Rattle.node.proofs.Restarts.{node_rests}
use Rattle.node.proofs.power.Machine.into_site.Goals as goal

pub returns-in-Up-clause-at_rest : goal.returns-in-Up-clause-at_rest
returns-in-Up-clause-at_rest g c = λ life holds.
    let disk = g.S.Shelf.disk in
    let h : Holds disk (machine.Up c.in-Up.node) life = subst (λ m. Holds disk m life) c.in-Up.is holds in
    let e = c.into_site.ensures in (
      rw e.shelf (subst (λ (l : Life). AtRest g.T.TopicStore.stands l.state (disk c.in-Up.node.topics.shelf)) (sym h.1) (node_rests disk c.in-Up.node h.0)),
      e.url ∙ ap (λ (l : Life). l.state.broker.service_url) (sym h.1),
    )

pub returns-in-Down-clause-at_rest : goal.returns-in-Down-clause-at_rest
returns-in-Down-clause-at_rest g c = λ life holds.
    let h = subst (λ m. Holds {store = g.T.TopicStore} g.S.Shelf.disk m life) c.in-Down.is holds in
    (h.0, h.2)
