use Rattle.std.proofs.Common.{◌≤◌, inl, refl, Ok, length, sym, subst, ap, ◌∙◌, arith}
use Rattle.std.specs.Prelude.{IfSome, IfOk}
use Rattle.std.proofs.lemmas.Bool.{true≢false}
use Rattle.managed_ledger.specs.Entries.{lengthened, trimmed}
use Rattle.records.specs.Records.{after_all}
use Rattle.topic_stores.specs.Views.{Settled}
use Rattle.topic_core.specs.State.{Topic, entries_of}
use Rattle.topic_core.specs.Flush.{handed_on, TakeStep, FinishStep}
use Rattle.topic_core.specs.Soundness.{IsSound, HasFloor}
use Rattle.topic_core.specs.Standing.{Before, phase_then, IsFor, Match, Standing}
use Rattle.topic_core.proofs.Floors.{handed_on_floor}
use Rattle.topic_core.proofs.Flushing.{begun}
use Rattle.topic_core.proofs.Standings.{begins_before, match_handed_on, standing_handed_on, batch_fits, written_match, written_standing, within_is, finish_match, finish_standing, rests, flush_step, flush_unchanged, refused_within, known_behind, untaken_works}
use Rattle.topic_core.proofs.topic.TopicCore.flush.Goals as goal

pub write-written-requires : goal.write-written-requires
write-written-requires g c =
    let t = c.args.self.now in
    let stands = g.T.TopicStore.stands in
    let v = g.T.TopicStore.view c.args.stores.now in
    let batch = c.in-Some.batch in
    let taken = subst (λ o. TakeStep t (Ok o) c.take_batch.new.self) c.in-Some.is c.in_ok-batch.ensures.step in
    let works = taken.0 in
    let some = taken.1 in
    let none = begun t some in
    let on = handed_on t batch.trim in
    let is_for : IsFor on batch = subst (λ (k : Topic). IsFor k batch) taken.2 (subst (λ o. IfSome o (λ b. IsFor c.take_batch.new.self b)) c.in-Some.is c.in_ok-batch.ensures.batch) in
    let fits : entries_of on.doubt ≤ length on.waiting = omega arith in
    let m = c.requires.matched in
    let now : Match Before t v = subst (λ p. Match p t v) (begins_before stands m.0 t v works none m.1) m.1 in
    record { fits = batch_fits stands on batch is_for fits v (match_handed_on stands t batch.trim v now) }

pub returns-clause-matched : goal.returns-clause-matched
returns-clause-matched g c =
    let t = c.args.self.now in
    let stands = g.T.TopicStore.stands in
    let v = g.T.TopicStore.view c.args.stores.now in
    let w = g.T.TopicStore.view c.write-written.new.self in
    let batch = c.in-Some.batch in
    let taken = subst (λ o. TakeStep t (Ok o) c.take_batch.new.self) c.in-Some.is c.in_ok-batch.ensures.step in
    let works = taken.0 in
    let some = taken.1 in
    let none = begun t some in
    let on = handed_on t batch.trim in
    let is_for : IsFor on batch = subst (λ (k : Topic). IsFor k batch) taken.2 (subst (λ o. IfSome o (λ b. IsFor c.take_batch.new.self b)) c.in-Some.is c.in_ok-batch.ensures.batch) in
    let fits : entries_of on.doubt ≤ length on.waiting = omega arith in
    let written = c.write-written.result in
    let t2 = c.finish.new.self in
    let f = subst (λ (k : Topic). FinishStep k written c.finish.result t2) taken.2 (c.finish.ensures.step (subst (λ o. IfSome o (λ b. IsFor c.take_batch.new.self b)) c.in-Some.is c.in_ok-batch.ensures.batch).awaited) in
    λ phase m.
    let p = begins_before stands phase t v works none m in
    let now : Match Before t v = subst (λ q. Match q t v) p m in
    let after = written_match stands on batch is_for fits v w written (match_handed_on stands t batch.trim v now) c.write-written.ensures.remembers in
    let end = finish_match stands on works w written c.finish.result t2 f after in
    subst (λ q. Match (phase_then t.failed t2.failed q) t2 w) (sym p) (subst (λ b. Match (phase_then b t2.failed Before) t2 w) (sym works) (subst (λ q. Match q t2 w) (rests t2.failed) end))

pub returns-clause-step : goal.returns-clause-step
returns-clause-step g c =
    let t = c.args.self.now in
    let taken = subst (λ o. TakeStep t (Ok o) c.take_batch.new.self) c.in-Some.is c.in_ok-batch.ensures.step in
    let works = taken.0 in
    let some = taken.1 in
    let sound = subst (λ (k : Topic). IsSound k) c.self.view_is c.self.invariant.1 in
    let written = c.write-written.result in
    let t2 = c.finish.new.self in
    let f = subst (λ (k : Topic). FinishStep k written c.finish.result t2) taken.2 (c.finish.ensures.step (subst (λ o. IfSome o (λ b. IsFor c.take_batch.new.self b)) c.in-Some.is c.in_ok-batch.ensures.batch).awaited) in
    flush_step t sound works some c.in-Some.batch.trim taken.5 written c.finish.result t2 f

pub returns-clause-standing : goal.returns-clause-standing
returns-clause-standing g c =
    let t = c.args.self.now in
    let stands = g.T.TopicStore.stands in
    let v = g.T.TopicStore.view c.args.stores.now in
    let w = g.T.TopicStore.view c.write-written.new.self in
    let d0 = g.S.Shelf.disk c.args.shelf.now in
    let d1 = g.S.Shelf.disk c.write-written.new.shelf in
    let batch = c.in-Some.batch in
    let taken = subst (λ o. TakeStep t (Ok o) c.take_batch.new.self) c.in-Some.is c.in_ok-batch.ensures.step in
    let works = taken.0 in
    let some = taken.1 in
    let none = begun t some in
    let on = handed_on t batch.trim in
    let is_for : IsFor on batch = subst (λ (k : Topic). IsFor k batch) taken.2 (subst (λ o. IfSome o (λ b. IsFor c.take_batch.new.self b)) c.in-Some.is c.in_ok-batch.ensures.batch) in
    let fits : entries_of on.doubt ≤ length on.waiting = omega arith in
    let written = c.write-written.result in
    let t2 = c.finish.new.self in
    let f = subst (λ (k : Topic). FinishStep k written c.finish.result t2) taken.2 (c.finish.ensures.step (subst (λ o. IfSome o (λ b. IsFor c.take_batch.new.self b)) c.in-Some.is c.in_ok-batch.ensures.batch).awaited) in
    λ phase h.
    let p = begins_before stands phase t v works none h.matched in
    let now : Standing stands Before t v d0 = subst (λ q. Standing stands q t v d0) p h in
    let floored = subst (λ (k : Topic). HasFloor k) c.self.view_is c.self.invariant.1.trims in
    let ready = standing_handed_on stands t batch.trim v d0 (g.met.T.TopicStore.laws c.args.stores.now) floored taken.5 now in
    let after = written_standing stands on batch is_for fits v w d0 d1 c.write-written.ensures.topic written ready c.write-written.ensures.kept c.write-written.ensures.remembers
    (λ base is. subst (λ r. IfOk r (λ b. Settled w d1 (trimmed b (lengthened t.ledger batch.entries.items)) (after_all batch.changes.items t.kept))) is (c.write-written.ensures.written t.ledger t.kept now.holds))
    (λ is. c.write-written.ensures.unwritten t.ledger t.kept now.holds is) (c.write-written.ensures.within t.ledger t.kept now.holds) in
    let end = finish_standing stands on works w d1 (g.met.T.TopicStore.laws c.write-written.new.self) fits (handed_on_floor t batch.trim taken.5 floored) written c.finish.result t2 f after in
    subst (λ q. Standing stands (phase_then t.failed t2.failed q) t2 w d1) (sym p) (subst (λ b. Standing stands (phase_then b t2.failed Before) t2 w d1) (sym works) (subst (λ q. Standing stands q t2 w d1) (rests t2.failed) end))

pub returns-clause-within : goal.returns-clause-within
returns-clause-within g c =
    let t = c.args.self.now in
    let stands = g.T.TopicStore.stands in
    let v = g.T.TopicStore.view c.args.stores.now in
    let w = g.T.TopicStore.view c.write-written.new.self in
    let d0 = g.S.Shelf.disk c.args.shelf.now in
    let d1 = g.S.Shelf.disk c.write-written.new.shelf in
    let batch = c.in-Some.batch in
    let taken = subst (λ o. TakeStep t (Ok o) c.take_batch.new.self) c.in-Some.is c.in_ok-batch.ensures.step in
    let works = taken.0 in
    let some = taken.1 in
    let none = begun t some in
    let on = handed_on t batch.trim in
    let is_for : IsFor on batch = subst (λ (k : Topic). IsFor k batch) taken.2 (subst (λ o. IfSome o (λ b. IsFor c.take_batch.new.self b)) c.in-Some.is c.in_ok-batch.ensures.batch) in
    let fits : entries_of on.doubt ≤ length on.waiting = omega arith in
    λ phase h _ _.
    let p = begins_before stands phase t v works none h.matched in
    let now : Standing stands Before t v d0 = subst (λ q. Standing stands q t v d0) p h in
    (batch.trim, taken.5, within_is stands on batch is_for fits v w d0 d1 c.write-written.ensures.topic (c.write-written.ensures.within t.ledger t.kept now.holds))

pub returns-clause-no_memory : goal.returns-clause-no_memory
returns-clause-no_memory g c =
    let t = c.args.self.now in
    let taken = subst (λ o. TakeStep t (Ok o) c.take_batch.new.self) c.in-Some.is c.in_ok-batch.ensures.step in
    let works = taken.0 in
    let some = taken.1 in
    let sound = subst (λ (k : Topic). IsSound k) c.self.view_is c.self.invariant.1 in
    let written = c.write-written.result in
    let t2 = c.finish.new.self in
    let f = subst (λ (k : Topic). FinishStep k written c.finish.result t2) taken.2 (c.finish.ensures.step (subst (λ o. IfSome o (λ b. IsFor c.take_batch.new.self b)) c.in-Some.is c.in_ok-batch.ensures.batch).awaited) in
    λ r. let x = flush_unchanged t sound works some c.in-Some.batch.trim taken.5 written c.finish.result t2 f r in
    (c.write-written.ensures.no_memory x.0, x.1)

pub returns-in_err-batch-clause-within : goal.returns-in_err-batch-clause-within
returns-in_err-batch-clause-within g c =
    let t = c.args.self.now in
    let floored = subst (λ (k : Topic). HasFloor k) c.self.view_is c.self.invariant.1.trims in
    λ phase h works some. (t.ledger.base, inl refl, refused_within g.T.TopicStore.stands phase t (g.T.TopicStore.view c.args.stores.now) (g.S.Shelf.disk c.args.shelf.now) (begun t some) floored h)

pub returns-clause-known : goal.returns-clause-known
returns-clause-known g c = λ works fails.
    let t = c.args.self.now in
    let v = g.T.TopicStore.view c.args.stores.now in
    let w = g.T.TopicStore.view c.write-written.new.self in
    let batch = c.in-Some.batch in
    let taken = subst (λ o. TakeStep t (Ok o) c.take_batch.new.self) c.in-Some.is c.in_ok-batch.ensures.step in
    let on = handed_on t batch.trim in
    let written = c.write-written.result in
    let t2 = c.finish.new.self in
    let f = subst (λ (k : Topic). FinishStep k written c.finish.result t2) taken.2 (c.finish.ensures.step (subst (λ o. IfSome o (λ b. IsFor c.take_batch.new.self b)) c.in-Some.is c.in_ok-batch.ensures.batch).awaited) in
    known_behind on v w batch written c.finish.result t2 taken.0 f c.write-written.ensures.remembers fails

pub returns-in_default-clause-known : goal.returns-in_default-clause-known
returns-in_default-clause-known g c = λ works fails.
    let t = c.args.self.now in
    let taken = subst (λ o. TakeStep t (Ok o) c.take_batch.new.self) c.in_default.is c.in_ok-batch.ensures.step in
    absurd (true≢false (sym fails ∙ ap (λ (k : Topic). k.failed) taken.2 ∙ works))

pub returns-in_err-batch-clause-known : goal.returns-in_err-batch-clause-known
returns-in_err-batch-clause-known g c = λ works fails. absurd (untaken_works c.args.self.now c.in_err-batch.field-0.0 c.take_batch.new.self c.in_err-batch.ensures.step works fails)
