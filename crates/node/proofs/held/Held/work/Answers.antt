use Rattle.std.proofs.Common.{◌≡◌, ℕ, Some, length, inl, inr, refl, ap, subst, ◌∙◌}
use Rattle.std.specs.Prelude.{IfSome, Result}
use Rattle.topic_stores.specs.declared.error.WriteError.{WriteError}
use Rattle.node.specs.Flights.{stage_of}
use Rattle.node.specs.Parts.{FinishesPart}
use Rattle.node.specs.State.{Taken, Written}
use Rattle.node.proofs.Frames.{take_stands, finish_stands, held_same, same_spot}
use Rattle.node.specs.Standing.{phase_in}
use Rattle.node.proofs.Knowing.{knows_same}
use Rattle.node.proofs.Steps.{untouched}
use Rattle.node.proofs.held.Held.work.Goals as goal

pub returns-in-Flush-clause-step : goal.returns-in-Flush-clause-step
returns-in-Flush-clause-step g c =
    let e = c.flush-flushed.ensures in
    λ _. rw c.in-Flush.is (inl (record { result = c.flush-flushed.result; step = e.step; ends = c.verdict_of_flush.ensures; stage = e.stage; cause = e.cause }))

pub returns-in-Take-clause-step : goal.returns-in-Take-clause-step
returns-in-Take-clause-step g c =
    let part = c.take-taken.ensures.step in
    λ _. rw c.in-Take.is (inl (record { result = part.taken; step = part.step; ends = c.verdict_of_flush-in-Take.ensures ∙ part.told; stage = part.stage }))

pub returns-in-Take-clause-stands : goal.returns-in-Take-clause-stands
returns-in-Take-clause-stands g c =
    let e = c.take-taken.ensures in
    λ s. take_stands g.met.T.TopicStore.laws c.args.self.now c.take-taken.new.self (g.S.Shelf.disk c.args.shelf.now) c.take-taken.result c.show_sound.ensures.trims e.stores e.step s

pub returns-in-Take-clause-within : goal.returns-in-Take-clause-within
returns-in-Take-clause-within g c =
    let h = c.args.self.now in
    let topic = (g.T.TopicStore.view h.stores).topic in
    λ s. rw c.in-Take.is (h.core.ledger.base, inl refl, untouched g.S.Shelf.disk (g.T.TopicStore.stands topic) h.core topic c.args.shelf.now c.args.shelf.now s.left refl)

pub returns-in-Some-clause-step : goal.returns-in-Some-clause-step
returns-in-Some-clause-step g c =
    let h = c.args.self.now in
    let next = c.write.new.self in
    let e = c.write.ensures in
    let stages = subst (λ r. IfSome r (λ (ended : Result ℕ WriteError). (stage_of h.flight ≡ Taken) × (stage_of next.flight ≡ Written ended))) c.in-Some.is e.written in
    λ _. rw c.in-Write.is (inl (record {
      was = stages.0;
      result = c.in-Some.written;
      same = e.core;
      ends = c.verdict_of_flush-in-Some.ensures;
      stage = stages.1;
      cause = λ failed. e.cause (c.in-Some.is ∙ ap (λ r. Some r) failed);
    }))

pub returns-in-None-clause-step : goal.returns-in-None-clause-step
returns-in-None-clause-step g c =
    let e = c.write.ensures in
    let same = e.same c.in-None.is in
    λ _. rw c.in-Write.is (inr (e.unknown c.in-None.is, refl, same_spot c.args.self.now c.write.new.self _ _ e.core same.0 (ap (λ s. (g.S.Shelf.disk s).faults) same.1)))

pub returns-in-Some-finish-clause-step : goal.returns-in-Some-finish-clause-step
returns-in-Some-finish-clause-step g c =
    let h = c.args.self.now in
    let next = c.finish.new.self in
    let part = subst (λ r. IfSome r (λ ended. FinishesPart h.core (stage_of h.flight) ended next.core (stage_of next.flight))) c.in-Some-finish.is c.finish.ensures.finished in
    λ _. rw c.in-Finish.is (inl (record {
      written = part.written;
      was = part.was;
      handed_on = part.handed_on;
      result = c.in-Some-finish.finished;
      step = part.step;
      ends = c.verdict_of_flush-in-Some-finish.ensures;
      stage = part.stage;
    }))

pub returns-in-Some-finish-clause-stands : goal.returns-in-Some-finish-clause-stands
returns-in-Some-finish-clause-stands g c =
    let h = c.args.self.now in
    let next = c.finish.new.self in
    let e = c.finish.ensures in
    let part = subst (λ r. IfSome r (λ ended. FinishesPart h.core (stage_of h.flight) ended next.core (stage_of next.flight))) c.in-Some-finish.is e.finished in
    λ s. finish_stands g.met.T.TopicStore.laws h next (g.S.Shelf.disk c.args.shelf.now) c.in-Some-finish.finished c.show_sound.ensures.trims e.stores part s

pub returns-in-Some-finish-clause-within : goal.returns-in-Some-finish-clause-within
returns-in-Some-finish-clause-within g c =
    let h = c.args.self.now in
    let topic = (g.T.TopicStore.view h.stores).topic in
    λ s. rw c.in-Finish.is (h.core.ledger.base, inl refl, untouched g.S.Shelf.disk (g.T.TopicStore.stands topic) h.core topic c.args.shelf.now c.args.shelf.now s.left refl)

pub returns-in-None-finish-clause-step : goal.returns-in-None-finish-clause-step
returns-in-None-finish-clause-step g c =
    let e = c.finish.ensures in
    let same = e.same c.in-None-finish.is in
    λ _. rw c.in-Finish.is (inr (e.unknown c.in-None-finish.is, refl, same_spot c.args.self.now c.finish.new.self _ _ same.0 same.1 refl))

pub returns-in-None-finish-clause-stands : goal.returns-in-None-finish-clause-stands
returns-in-None-finish-clause-stands g c =
    let e = c.finish.ensures in
    let same = e.same c.in-None-finish.is in
    λ s. held_same c.args.self.now c.finish.new.self (g.S.Shelf.disk c.args.shelf.now) e.stores same.0 same.1 s

pub returns-in-None-finish-clause-within : goal.returns-in-None-finish-clause-within
returns-in-None-finish-clause-within g c =
    let h = c.args.self.now in
    let topic = (g.T.TopicStore.view h.stores).topic in
    λ s. rw c.in-Finish.is (h.core.ledger.base, inl refl, untouched g.S.Shelf.disk (g.T.TopicStore.stands topic) h.core topic c.args.shelf.now c.args.shelf.now s.left refl)

pub returns-in-Reopen-clause-step : goal.returns-in-Reopen-clause-step
returns-in-Reopen-clause-step g c =
    let e = c.reopen-reopened.ensures in
    λ s. rw c.in-Reopen.is (inl (record { result = c.reopen-reopened.result; step = e.step s; ends = c.verdict_for.ensures; stage = e.stage; cause = e.cause }))

pub returns-in-Reopen-clause-tells : goal.returns-in-Reopen-clause-tells
returns-in-Reopen-clause-tells g c = rw (c.in-Reopen.is, c.verdict_for.ensures) c.reopen-reopened.ensures.tells

-- but of a whole flush an event trims nothing
pub returns-in-Some-clause-within : goal.returns-in-Some-clause-within
returns-in-Some-clause-within g c = λ s. rw c.in-Write.is (c.args.self.now.core.ledger.base, inl refl, c.write.ensures.within s)

pub returns-in-None-clause-within : goal.returns-in-None-clause-within
returns-in-None-clause-within g c = λ s. rw c.in-Write.is (c.args.self.now.core.ledger.base, inl refl, c.write.ensures.within s)

pub returns-in-Reopen-clause-within : goal.returns-in-Reopen-clause-within
returns-in-Reopen-clause-within g c = λ s. rw c.in-Reopen.is (c.args.self.now.core.ledger.base, inl refl, c.reopen-reopened.ensures.within s)

-- what its store knows
pub returns-in-Take-clause-known : goal.returns-in-Take-clause-known
returns-in-Take-clause-known g c =
    let h = c.args.self.now in
    let next = c.take-taken.new.self in
    let view = g.T.TopicStore.view in
    knows_same (phase_in h) (phase_in next) (length (view h.stores).counts) (length (view next.stores).counts) (ap (λ s. length (view s).counts) c.take-taken.ensures.stores)

pub returns-in-Some-finish-clause-known : goal.returns-in-Some-finish-clause-known
returns-in-Some-finish-clause-known g c =
    let h = c.args.self.now in
    let next = c.finish.new.self in
    let view = g.T.TopicStore.view in
    knows_same (phase_in h) (phase_in next) (length (view h.stores).counts) (length (view next.stores).counts) (ap (λ s. length (view s).counts) c.finish.ensures.stores)

pub returns-in-None-finish-clause-known : goal.returns-in-None-finish-clause-known
returns-in-None-finish-clause-known g c =
    let h = c.args.self.now in
    let next = c.finish.new.self in
    let view = g.T.TopicStore.view in
    knows_same (phase_in h) (phase_in next) (length (view h.stores).counts) (length (view next.stores).counts) (ap (λ s. length (view s).counts) c.finish.ensures.stores)
