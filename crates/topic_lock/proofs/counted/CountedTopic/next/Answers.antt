use Rattle.std.proofs.Common.{◌≡◌, Option, IfSome, sym, subst, ◌∙◌}
use Rattle.std.specs.Prelude.{MatchResult, IfErr}
use Rattle.topic_core.specs.declared.read_at.ReadAt.{ReadAt}
use Rattle.topic_core.specs.Steps.{key_of}
use Rattle.topic_core.specs.Dispatch.{Admits, DispatchStep, IsReadOf, IsRefusedFor}
use Rattle.topic_lock.specs.Hearing.{own_read}
use Rattle.topic_lock.proofs.Hearing.{given, nothing_told, refusal_told}
use Rattle.topic_lock.proofs.counted.CountedTopic.next.Goals as goal

pub returns-in-Ok-clause-step : goal.returns-in-Ok-clause-step
returns-in-Ok-clause-step g c = λ counted read.
    let who = c.args.who in
    let id = c.args.consumer_id in
    let new = c.dispatch_at_hand-at_hand.new.self in
    let own = subst (λ (o : Option ReadAt). IfSome o (IsReadOf c.args.self.now.core.ledger)) (sym c.own_read.ensures) read in
    let s = c.dispatch_at_hand-at_hand.ensures.step counted own in
    (s.0, s.1, subst (λ r. MatchResult r (λ said. DispatchStep s.0 who id said new) (λ position. (new ≡ s.0) × Admits s.0 (key_of who id) position)) (sym c.sent_of.ensures ∙ c.in-Ok.is) (given s.0 who id c.dispatch_at_hand-at_hand.result new s.3))

pub returns-in-Err-clause-step : goal.returns-in-Err-clause-step
returns-in-Err-clause-step g c = λ counted read.
    let who = c.args.who in
    let id = c.args.consumer_id in
    let new = c.dispatch_at_hand-at_hand.new.self in
    let own = subst (λ (o : Option ReadAt). IfSome o (IsReadOf c.args.self.now.core.ledger)) (sym c.own_read.ensures) read in
    let s = c.dispatch_at_hand-at_hand.ensures.step counted own in
    (s.0, s.1, subst (λ r. MatchResult r (λ said. DispatchStep s.0 who id said new) (λ position. (new ≡ s.0) × Admits s.0 (key_of who id) position)) (sym c.sent_of.ensures ∙ c.in-Err.is) (given s.0 who id c.dispatch_at_hand-at_hand.result new s.3))

pub returns-in-Ok-clause-looked : goal.returns-in-Ok-clause-looked
returns-in-Ok-clause-looked g c = λ none works.
    c.dispatch_at_hand-at_hand.ensures.looked (nothing_told c.dispatch_at_hand-at_hand.result _ (sym c.sent_of.ensures ∙ c.in-Ok.is) none) works

pub returns-in-Ok-clause-cause : goal.returns-in-Ok-clause-cause
returns-in-Ok-clause-cause g c =
    let topic = c.dispatch_at_hand-at_hand.new.self in
    let key = key_of c.args.who c.args.consumer_id in
    let cause = subst (λ (o : Option ReadAt). IfErr c.dispatch_at_hand-at_hand.result (λ e. IsRefusedFor topic key e o)) c.own_read.ensures c.dispatch_at_hand-at_hand.ensures.cause in
    refusal_told c.dispatch_at_hand-at_hand.result _ (λ e. IsRefusedFor topic key e (own_read c.args.self.now.number c.args.read)) (sym c.sent_of.ensures ∙ c.in-Ok.is) cause
