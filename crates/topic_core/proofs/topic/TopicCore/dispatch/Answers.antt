use Rattle.std.proofs.Common.{◌≡◌, Err, subst, rules}
use Rattle.gated_log.specs.declared.read_error.ReadError.TheVariants.{NoMemory}
use Rattle.topic_core.specs.State.{Topic}
use Rattle.topic_core.specs.Soundness.{IsSound}
use Rattle.topic_core.proofs.Floors.{admitted_above}
use Rattle.topic_core.proofs.Standings.{standing_goes_on}
use Rattle.topic_core.proofs.Learning.{admitted_within, refused_dispatch, refused_give, found_sent, whole_entry}
use Rattle.topic_core.proofs.topic.TopicCore.dispatch.Goals as goal

pub returns-in_err-entry-clause-step : goal.returns-in_err-entry-clause-step
returns-in_err-entry-clause-step g c = λ phase h.
    let t = c.pick.new.self in
    let stands = standing_goes_on g.T.TopicStore.stands phase c.args.self.now t (g.T.TopicStore.view c.args.stores.now) (g.S.Shelf.disk c.args.shelf.now) c.pick.ensures.goes_on h in
    let within = admitted_within t _ c.in-Some.position c.in-Some.ensures.some in
    let sound = subst (λ (k : Topic). IsSound k) c.self.view_is c.self.invariant.1 in
    let above = admitted_above t stands.matched.kept sound.trims stands.acknowledged sound.subs.limits _ c.in-Some.position c.in-Some.ensures.some in
    let is : c.from_residual.result ≡ Err c.in_err-entry.field-0.0 = search rules in
    (t, c.pick.ensures.learnt, c.pick.ensures.exact, refused_dispatch t c.args.who c.args.consumer_id c.from_residual.result c.in_err-entry.field-0.0 is (c.in_err-entry.ensures.refused phase t stands above within))

pub returns-in_err-outgoing-clause-step : goal.returns-in_err-outgoing-clause-step
returns-in_err-outgoing-clause-step g c = λ phase h.
    let t = c.pick.new.self in
    let is : c.from_residual-in_err-outgoing.result ≡ Err NoMemory = search rules in
    (t, c.pick.ensures.learnt, c.pick.ensures.exact, refused_give t c.give.new.self c.args.who c.args.consumer_id c.from_residual-in_err-outgoing.result is c.in_err-outgoing.ensures.err)

pub returns-clause-step : goal.returns-clause-step
returns-clause-step g c = λ phase h.
    let t = c.pick.new.self in
    let stands = standing_goes_on g.T.TopicStore.stands phase c.args.self.now t (g.T.TopicStore.view c.args.stores.now) (g.S.Shelf.disk c.args.shelf.now) c.pick.ensures.goes_on h in
    let within = admitted_within t _ c.in-Some.position c.in-Some.ensures.some in
    let sound = subst (λ (k : Topic). IsSound k) c.self.view_is c.self.invariant.1 in
    let above = admitted_above t stands.matched.kept sound.trims stands.acknowledged sound.subs.limits _ c.in-Some.position c.in-Some.ensures.some in
    let read = c.in_ok-entry.ensures.entry phase t stands above within in
    found_sent g.G.Gauge.exact c.args.self.now t c.give.new.self c.args.who c.args.consumer_id c.key_of.result c.in-Some.position c.in_ok-outgoing.outgoing c.key_of.ensures c.pick.ensures.learnt
    c.pick.ensures.exact c.in-Some.ensures.some c.in_ok-outgoing.ensures.reply (whole_entry t.ledger c.in-Some.position _ _ read c.in_ok-outgoing.ensures.entry) c.in_ok-outgoing.ensures.ok
