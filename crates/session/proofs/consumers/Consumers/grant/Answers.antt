use Rattle.std.proofs.Common.{◌≡◌, ◌∙◌, ◌<◌, List, Some, None, position, sym, ap, subst}
use Rattle.session.specs.Broker.{GrantAt}
use Rattle.session.specs.declared.entry.Entry.{Entry}
use Rattle.session.specs.Table.{has_id, topic_of}
use Rattle.session.proofs.Places.{set_same}
use Rattle.session.proofs.Searched.{is_somewhere, stands}
use Rattle.session.proofs.consumers.Consumers.grant.Goals as goal

pub unreachable-requires : goal.unreachable-requires
unreachable-requires g c =
    let xs = c.self.inside.entries.items in
    let at : position (has_id c.args.id) xs ≡ None = ap (λ (ys : List Entry). position (has_id c.args.id) ys) (sym c.as_slice.ensures.value) ∙ sym c.place_among.ensures.place ∙ c.in_default.is in
    is_somewhere xs c.args.id c.args.topic (ap (λ (ys : List Entry). topic_of ys c.args.id) c.self.view_is ∙ c.requires.known) at

pub grant-requires : goal.grant-requires
grant-requires g c =
    let xs = c.self.inside.entries.items in
    let x : Entry = c.index_mut-consumer.result.now in
    let at : position (has_id c.args.id) xs ≡ Some c.in-Some.place = ap (λ (ys : List Entry). position (has_id c.args.id) ys) (sym c.as_slice.ensures.value) ∙ sym c.place_among.ensures.place ∙ c.in-Some.is in
    let is = stands xs c.args.id c.args.topic c.in-Some.place x (ap (λ (ys : List Entry). topic_of ys c.args.id) c.self.view_is ∙ c.requires.known) at c.index_mut-consumer.ensures.value in
    subst (λ (e : Entry). e.topic < g.P.Port.count c.args.port.now) (sym is) c.requires.there

pub invariant_of-self : goal.invariant_of-self
invariant_of-self g c = rw (set_same c.self.inside.entries.items c.in-Some.place c.index_mut-consumer.result.now c.grant.new.self c.index_mut-consumer.ensures.value c.grant.ensures.same) c.self.invariant

pub returns-clause-step : goal.returns-clause-step
returns-clause-step g c = λ s.
    let xs = c.self.inside.entries.items in
    let x : Entry = c.index_mut-consumer.result.now in
    let at : position (has_id c.args.id) xs ≡ Some c.in-Some.place = ap (λ (ys : List Entry). position (has_id c.args.id) ys) (sym c.as_slice.ensures.value) ∙ sym c.place_among.ensures.place ∙ c.in-Some.is in
    let is = stands xs c.args.id c.args.topic c.in-Some.place x (ap (λ (ys : List Entry). topic_of ys c.args.id) c.self.view_is ∙ c.requires.known) at c.index_mut-consumer.ensures.value in
    subst (λ (e : Entry). GrantAt (g.P.Port.broker c.args.port.now) e.topic c.args.who e.id c.args.permits c.grant.result (g.P.Port.broker c.grant.new.port)) is (c.grant.ensures.step s)
