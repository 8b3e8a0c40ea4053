use Rattle.std.proofs.Common.{◌≡◌, ◌<◌, Some, length, slice_get, refl, sym, ap, subst, ◌∙◌, arith, rules}
use Rattle.std.proofs.lemmas.Option.{slice_get_read, same_Some}
use Rattle.subscriptions.specs.Statuses.{AreStatuses}
use Rattle.managed_ledger.specs.Entries.{end_of}
use Rattle.topic_core.specs.State.{Topic}
use Rattle.session.specs.Broker.{fresh, topic_at}
use Rattle.catalog.specs.Catalogs.{remembered, per_ledger}
use Rattle.node.specs.Standing.{state_of, broker_of, phase_in}
use Rattle.node.specs.Driving.{StatusIn}
use Rattle.node.specs.Lists.{at_map}
use Rattle.node.specs.declared.held.Held.{Held}
use Rattle.node.proofs.Frames.{there}
use Rattle.node.proofs.Segments.{tells_segments}
use Rattle.node.proofs.node.Node.status.Goals as goal

pub returns-clause-status : goal.returns-clause-status
returns-clause-status g c = λ stands.
    let t = c.args.self.now.topics in
    let k = c.args.topic in
    let low : k < length t.held.items = omega (arith, c.if-topic-count.false, c.count.ensures) in
    let h = c.index.result.now in
    let was = slice_get_read t.held.items (length t.held.items) k h refl low c.index.ensures in
    let state = state_of g.S.Shelf.disk c.args.self.now in
    let at : topic_at (broker_of t) k ≡ h.core = at_map (λ (x : Held _ _). x.core) t.held.items k h (fresh (per_ledger t.catalog)) was in
    let e = c.in_ok-status.ensures in
    let name : slice_get (remembered t.catalog) k ≡ Some c.in_ok-status.status.name = search rules in
    subst (λ o. StatusIn o state (Some c.in_ok-status.status)) (sym (there t k low)) (
      e.number,
      name,
      e.entries ∙ sym (stands.each k h was).counted ∙ ap (λ (u : Topic). end_of u.ledger) (sym at),
      e.base ∙ ap (λ (u : Topic). u.ledger.base) (sym at),
      subst (λ (u : Topic). AreStatuses u.subs.subs c.in_ok-status.status.subscriptions.items) (sym at) e.subscriptions,
    )

pub returns-clause-files : goal.returns-clause-files
returns-clause-files g c = λ stands x is.
    let t = c.args.self.now.topics in
    let k = c.args.topic in
    let low : k < length t.held.items = omega (arith, c.if-topic-count.false, c.count.ensures) in
    let h = c.index.result.now in
    let was = slice_get_read t.held.items (length t.held.items) k h refl low c.index.ensures in
    let one : h ≡ x = same_Some h x (sym was ∙ is) in
    let view = g.T.TopicStore.view in
    tells_segments g.T.TopicStore.stands g.T.TopicStore.laid (phase_in x) x.core (view x.stores) (g.S.Shelf.disk t.shelf) c.in_ok-status.status.segments k
    (λ files ledger kept holds. g.met.T.TopicStore.holds_laid x.stores files ledger kept holds) (t.numbered k x is).0
    (c.in_ok-status.ensures.segments ∙ ap (λ (y : Held _ _). length (view y.stores).counts) one) (stands.each k x is)
