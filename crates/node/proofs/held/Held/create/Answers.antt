use Rattle.std.proofs.Common.{◌≡◌, [], refl, sym, ap, subst, ◌∙◌}
use Rattle.std.specs.FinMap as map
use Rattle.managed_ledger.specs.Entries.{whole}
use Rattle.topic_core.specs.Messages.{marks_of}
use Rattle.topic_core.specs.State.{Topic, opened}
use Rattle.topic_stores.specs.Views.{Settled}
use Rattle.node.proofs.Opening.{opened_standing, rests_so}
use Rattle.node.proofs.held.Held.create.Goals as goal

pub returns-clause-stands : goal.returns-clause-stands
returns-clause-stands g c = λ honest.
    let e = c.in_ok-core.ensures in
    let n = c.args.per_ledger in
    let core = c.in_ok-core.core in
    let store = c.in_ok-core.stores in
    let v = g.T.TopicStore.view store in
    let d = g.S.Shelf.disk c.create.new.shelf in
    let stands = g.T.TopicStore.stands in
    let is = e.fresh in
    let none = (e.matched.remembers).kept in
    let kept_none = none ∙ ap (λ (t : Topic). t.kept) is in
    rests_so c.at_rest.result core store d c.at_rest.ensures
    (opened_standing stands n core v (subst (λ k. core ≡ opened n core.ledger (marks_of core.ledger) k) (sym kept_none) (subst (λ (t : Topic). t ≡ opened n t.ledger (marks_of t.ledger) map.empty) (sym is) refl)) d (g.met.T.TopicStore.laws store) g.met.T.TopicStore.stands_below
    (subst (λ (t : Topic). Settled v d t.ledger v.kept) (sym is) (subst (λ k. Settled v d (whole []) k) (sym kept_none) (e.settled honest))) e.matched)
