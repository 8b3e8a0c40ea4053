use Rattle.std.proofs.Common.{◌≡◌, inl, inr, ⊎_elim, Err, refl, rules, sym, ap, subst, Some, ◌∙◌}
use Rattle.std.specs.Prelude.{IfSome, IfErr}
use Rattle.managed_ledger.specs.Entries.{Ledger, end_of, entry_at}
use Rattle.gated_log.specs.declared.read_error.ReadError.TheVariants.{NoMemory}
use Rattle.topic_core.specs.Steps.{key_of}
use Rattle.topic_core.specs.Dispatch.{IsReadOf, IsRefusedFor}
use Rattle.topic_core.proofs.Learning.{refused_at_hand, found_sent, whole_entry}
use Rattle.topic_core.proofs.topic.TopicCore.dispatch_at_hand.Goals as goal

pub returns-in_err-entry-clause-step : goal.returns-in_err-entry-clause-step
returns-in_err-entry-clause-step g c = λ counted read.
    let t = c.pick.new.self in
    let on = c.pick.ensures.goes_on in
    let read_of = subst (λ (ledger : Ledger). IfSome c.args.read (IsReadOf ledger)) (sym on.ledger) read in
    let is : c.from_residual.result ≡ Err c.in_err-entry.field-0.0 = search rules in
    (t, c.pick.ensures.learnt, c.pick.ensures.exact, refused_at_hand t t (key_of c.args.who c.args.consumer_id) c.from_residual.result c.in_err-entry.field-0.0 is (c.in_err-entry.ensures.refused read_of) refl)

pub returns-in_err-outgoing-clause-step : goal.returns-in_err-outgoing-clause-step
returns-in_err-outgoing-clause-step g c = λ counted read.
    let t = c.pick.new.self in
    let is : c.from_residual-in_err-outgoing.result ≡ Err NoMemory = search rules in
    (t, c.pick.ensures.learnt, c.pick.ensures.exact, refused_at_hand t c.give.new.self (key_of c.args.who c.args.consumer_id) c.from_residual-in_err-outgoing.result NoMemory is (inl refl) c.in_err-outgoing.ensures.err)

pub returns-clause-step : goal.returns-clause-step
returns-clause-step g c = λ counted read.
    let t = c.pick.new.self in
    let on = c.pick.ensures.goes_on in
    let same : end_of t.ledger ≡ t.committed = ap (λ (ledger : Ledger). end_of ledger) on.ledger ∙ counted ∙ sym on.committed in
    let read_of = subst (λ (ledger : Ledger). IfSome c.args.read (IsReadOf ledger)) (sym on.ledger) read in
    let entry = subst (λ o. IfSome o (λ entry. entry_at t.ledger c.in-Some.position ≡ Some entry)) c.in-Some-2.is (c.in_ok-entry.ensures.entry same read_of) in
    found_sent g.G.Gauge.exact c.args.self.now t c.give.new.self c.args.who c.args.consumer_id c.key_of.result c.in-Some.position c.in_ok-outgoing.outgoing c.key_of.ensures
    c.pick.ensures.learnt c.pick.ensures.exact c.in-Some.ensures.some c.in_ok-outgoing.ensures.reply (whole_entry t.ledger c.in-Some.position _ _ entry c.in_ok-outgoing.ensures.entry) c.in_ok-outgoing.ensures.ok

pub returns-in_err-entry-clause-cause : goal.returns-in_err-entry-clause-cause
returns-in_err-entry-clause-cause g c =
    let t = c.pick.new.self in
    let key = key_of c.args.who c.args.consumer_id in
    let is : c.from_residual.result ≡ Err c.in_err-entry.field-0.0 = search rules in
    subst (λ r. IfErr r (λ e. IsRefusedFor t key e c.args.read)) (sym is) (⊎_elim inl (λ refused. inr (c.in-Some.position, c.in-Some.ensures.some, refused)) c.in_err-entry.ensures.cause)
