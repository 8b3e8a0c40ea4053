-- What each event makes of a topic that has failed, or is going to: the device had failed more often by then.
use Rattle.std.proofs.Common.{◌≡◌, ◌≢◌, ◌∙◌, ⊎_elim, ℕ, ◌<◌, ◌≤◌, Bool, true, false, Option, Some, None, is_some, Result, Ok, Err, List, [], ◌∷◌, get_or-set_same, refl, sym, ap, subst, arith, length}
use Rattle.std.proofs.lemmas.List.{get_or-set_other}
use Rattle.std.specs.List.{AllByRecursion}
use Rattle.topic_stores.specs.declared.batch.Batch.{Batch}
use Rattle.topic_stores.specs.declared.error.WriteError.{WriteError}
use Rattle.topic_stores.specs.declared.error.WriteError.TheVariants.{Device, NoMemory}
use Rattle.topic_core.specs.State.{Topic}
use Rattle.topic_core.specs.Flush.{has_no_flush, TakeStep, FinishStep, FlushIn}
use Rattle.session.specs.Broker.{Broker, fresh, topic_at}
use Rattle.node.specs.State.{State, Stage, Resting, Taken, Written, stage_at, stage_after}
use Rattle.node.specs.Steps.{Spot, spot_at, WorksAt, WorksOn}
use Rattle.node.specs.Lists.{same_or_not}
use Rattle.node.specs.Moves.{Handed, Move, Command, Tell, Lose, Grant, Deliver, Miss, Leave, MoveStep, Moves, is_of_session}
use Rattle.node.specs.Telling.{Talk}
use Rattle.node.specs.declared.event.Output.{Output}
use Rattle.node.specs.declared.event.TopicEvent.{TopicEvent}
use Rattle.node.specs.declared.event.TopicEvent.TheVariants as event
use Rattle.node.specs.declared.event.Verdict.{Verdict}
use Rattle.node.proofs.Commands.{Awaits, by_command, granted_topic, sent_topic}
use Rattle.node.proofs.Endings.{reopen_cases, Reopened}

-- ---- what sessions do

-- they leave a topic's failure and what it has handed on
pub record Alike (t u : Topic) : Type 0 where
  pub failed : u.failed ≡ t.failed
  pub doubt : u.doubt ≡ t.doubt

pub alike : (t u : Topic) → u ≡ t → Alike t u
alike t u is = record { failed = ap (λ (x : Topic). x.failed) is; doubt = ap (λ (x : Topic). x.doubt) is }

awaiting : (who : ℕ) (t u : Topic) → Awaits who t u → Alike t u
awaiting who t u a = record { failed = a.failed; doubt = a.doubt }

not_own : false ≡ true → ⊥
not_own is = cc

own_move : (t : Topic) (m : Move) (u : Topic) → is_of_session m ≡ true → MoveStep t m u → Alike t u
own_move t (Command who c a) u own s = by_command t who (λ c a u. Alike t u) (λ c a u none awaits. awaiting who t u awaits)
    (λ send u works is. record { failed = ap (λ (x : Topic). x.failed) is; doubt = ap (λ (x : Topic). x.doubt) is }) c a u s
own_move t (Tell h) u own s = record { failed = ap (λ (x : Topic). x.failed) s.taken; doubt = ap (λ (x : Topic). x.doubt) s.taken }
own_move t (Lose h) u own s = record { failed = ap (λ (x : Topic). x.failed) s.taken; doubt = ap (λ (x : Topic). x.doubt) s.taken }
own_move t (Grant who id permits result) u own s = awaiting who t u (granted_topic result t who id permits u s)
own_move t (Deliver id h) u own s = awaiting h.session t u (sent_topic h.session t _ s.0 u s.1.sent)
own_move t (Miss id h) u own s = awaiting h.session t u (sent_topic h.session t _ s.0 u s.1.sent)
own_move t (Leave who) u own s = record { failed = ap (λ (x : Topic). x.failed) s; doubt = ap (λ (x : Topic). x.doubt) s }
own_move t _ u own s = absurd (not_own own)

own_moves : (t : Topic) (moves : List Move) (u : Topic) → Moves t moves u → AllByRecursion (λ m. is_of_session m ≡ true) moves → Alike t u
own_moves t [] u steps own = alike t u steps
own_moves t (m ∷ ms) v steps own =
    let first = own_move t m steps.0 own.0 steps.1 in
    let then = own_moves steps.0 ms v steps.2 own.1 in
    record { failed = then.failed ∙ first.failed; doubt = then.doubt ∙ first.doubt }

pub talked : (t : Topic) (told : List Handed) (asked : List Move) (u : Topic) → Talk t told asked u → Alike t u
talked t told asked u talk = own_moves t talk.course.moves u talk.course.steps talk.own

-- ---- one topic

pub no_some : {X : Type 0} (o : Option X) → o ≡ None → is_some o ≡ true → ⊥
no_some None is some = cc
no_some (Some x) is some = cc

pub both_ways : (b : Bool) → b ≡ false → b ≡ true → ⊥
both_ways b isnt is = cc

resting_isnt : Resting ≡ Written (Err Device) → ⊥
resting_isnt is = cc

taken_isnt : Taken ≡ Written (Err Device) → ⊥
taken_isnt is = cc

written_ok : (base : ℕ) → Written (Ok base) ≡ Written (Err Device) → ⊥
written_ok base is = cc

written_full : Written (Err NoMemory) ≡ Written (Err Device) → ⊥
written_full is = cc

module _ (base : ℕ) where
  -- where it has failed, or is going to, the device had failed more often by then
  pub record Caused (p : Spot) : Type 0 where
    pub later : base ≤ p.faults
    pub failed : p.topic.failed ≡ true → base < p.faults
    pub going_to : p.stage ≡ Written (Err Device) → is_some p.topic.doubt ≡ true → base < p.faults

  -- a topic that works, of whose flush no write is lost
  pub calm_now : (p : Spot) → base ≤ p.faults → p.topic.failed ≡ false → (p.stage ≡ Written (Err Device) → is_some p.topic.doubt ≡ false) → Caused p
  calm_now p later works sure = record { later = later; failed = λ is. absurd (both_ways p.topic.failed works is); going_to = λ at some. absurd (both_ways (is_some p.topic.doubt) (sure at) some) }

  module _ (p q : Spot) (more : p.faults ≤ q.faults) (h : Caused p) where
    pub still : q.stage ≡ p.stage → Alike p.topic q.topic → Caused q
    still stage same = record {
      later = omega (arith, more, h.later);
      failed = λ is. omega (arith, more, h.failed (sym same.failed ∙ is));
      going_to = λ at some. omega (arith, more, h.going_to (sym stage ∙ at) (ap (λ o. is_some o) (sym same.doubt) ∙ some));
    }

    -- it doesn't fail, and no write of it has
    calm : q.topic.failed ≡ p.topic.failed → (q.stage ≡ Written (Err Device) → is_some q.topic.doubt ≡ true → ⊥) → Caused q
    calm same none = record { later = omega (arith, more, h.later); failed = λ is. omega (arith, more, h.failed (sym same ∙ is)); going_to = λ at some. absurd (none at some) }

    at_stage : (stage : Stage) → q.stage ≡ stage → (stage ≡ Written (Err Device) → ⊥) → q.topic.failed ≡ p.topic.failed → Caused q
    at_stage stage is none same = calm same (λ at some. none (sym is ∙ at))

    -- the device has failed just now
    now_failed : p.faults < q.faults → Caused q
    now_failed fails = record { later = omega (arith, more, h.later); failed = λ is. omega (arith, h.later, fails); going_to = λ at some. omega (arith, h.later, fails) }

    flush_in : (fails nothing : Bool) (result : Result ℕ WriteError) → q.stage ≡ p.stage → (fails ≡ false → result ≡ Err Device → p.faults < q.faults) → FlushIn fails nothing p.topic result q.topic → Caused q
    flush_in true nothing result stage cause s = still stage (alike p.topic q.topic s.1)
    flush_in false true result stage cause s = still stage (alike p.topic q.topic s.1)
    flush_in false false (Ok count) stage cause s = calm (ap (λ (x : Topic). x.failed) s.1.is) (λ at some. no_some q.topic.doubt (ap (λ (x : Topic). x.doubt) s.1.is) some)
    flush_in false false (Err NoMemory) stage cause s = still stage (alike p.topic q.topic s)
    flush_in false false (Err Device) stage cause s = now_failed (cause refl refl)

    take : (result : Result (Option Batch) WriteError) → q.stage ≡ stage_after result p.stage → TakeStep p.topic result q.topic → Caused q
    take (Ok None) stage s = still stage (alike p.topic q.topic s.2)
    take (Ok (Some batch)) stage s = at_stage Taken stage taken_isnt (ap (λ (x : Topic). x.failed) s.2)
    take (Err Device) stage s = still stage (alike p.topic q.topic s.1)
    take (Err NoMemory) stage s = still stage (alike p.topic q.topic s.2)

    wrote : (result : Result ℕ WriteError) → q.topic ≡ p.topic → q.stage ≡ Written result → (result ≡ Err Device → p.faults < q.faults) → Caused q
    wrote (Ok begins) same stage cause = at_stage (Written (Ok begins)) stage (written_ok begins) (ap (λ (x : Topic). x.failed) same)
    wrote (Err NoMemory) same stage cause = at_stage (Written (Err NoMemory)) stage written_full (ap (λ (x : Topic). x.failed) same)
    wrote (Err Device) same stage cause = now_failed (cause refl)

    finish : (written : Result ℕ WriteError) (result : Result ℕ WriteError) → p.stage ≡ Written written → is_some p.topic.doubt ≡ true → q.stage ≡ Resting → FinishStep p.topic written result q.topic → Caused q
    finish (Ok begins) result was some stage s = at_stage Resting stage resting_isnt (ap (λ (x : Topic). x.failed) s.1)
    finish (Err NoMemory) result was some stage s = at_stage Resting stage resting_isnt (ap (λ (x : Topic). x.failed) s.1)
    finish (Err Device) result was some stage s =
        let one = h.going_to was some in
        record { later = omega (arith, more, h.later); failed = λ is. omega (arith, more, one); going_to = λ at again. omega (arith, more, one) }

    reopened : Reopened p.topic q.topic → Caused q
    reopened s = calm_now q (omega (arith, more, h.later)) (ap (λ (x : Topic). x.failed) s.again) (λ at. ap (λ (x : Topic). is_some x.doubt) s.again)

    works_at : (e : TopicEvent) (told : Verdict) → WorksAt e p told q → Caused q
    works_at event.Flush told s = flush_in p.topic.failed (has_no_flush p.topic) s.result s.stage s.cause s.step
    works_at event.Take told s = take s.result s.stage s.step
    works_at event.Write told s = wrote s.result s.same s.stage s.cause
    works_at event.Finish told s = finish s.written s.result s.was s.handed_on s.stage s.step
    works_at event.Reopen told s = ⊎_elim (λ is. still s.stage (alike p.topic q.topic is)) (λ again. reopened again) (reopen_cases p.topic s.result q.topic s.step)

-- ---- all of them

-- what was caused stays so
abbrev pub Causes : State → State → Type 0
Causes old new = (base number : ℕ) → Caused base (spot_at old number) → Caused base (spot_at new number)

pub same_state : (old new : State) → new ≡ old → Causes old new
same_state old new is = λ base number h. subst (λ (s : State). Caused base (spot_at s number)) (sym is) h

-- sessions' steps
pub talks : (old new : State) → ((n : ℕ) → stage_at new n ≡ stage_at old n) → old.faults ≤ new.faults → ((n : ℕ) → Alike (topic_at old.broker n) (topic_at new.broker n)) → Causes old new
talks old new stage more same = λ base number h. still base (spot_at old number) (spot_at new number) more h (stage number) (same number)

-- one topic works an event
pub works_on : (e : TopicEvent) (old : State) (at : ℕ) (output : Output) (new : State) → at < length old.broker.topics → WorksOn e old at output new → Causes old new
works_on e old at output new within s = λ base number h. ⊎_elim
    (λ (is : number ≡ at).
    let q : Spot = record { topic = s.next; stage = s.reached; faults = new.faults } in
    let there = ap (λ (b : Broker). topic_at b at) s.moves.broker ∙ get_or-set_same old.broker.topics at s.next (fresh old.broker.per_ledger) within in
    subst (λ n. Caused base (spot_at new n)) (sym is)
    (still base q (spot_at new at) (omega arith) (works_at base (spot_at old at) q s.moves.faults (subst (λ n. Caused base (spot_at old n)) is h) e s.told s.step) s.moves.stage (alike s.next (topic_at new.broker at) there)))
    (λ (differ : number ≢ at).
    let there = ap (λ (b : Broker). topic_at b number) s.moves.broker ∙ get_or-set_other old.broker.topics at number s.next (fresh old.broker.per_ledger) differ in
    still base (spot_at old number) (spot_at new number) s.moves.faults h (s.moves.others number differ) (alike (topic_at old.broker number) (topic_at new.broker number) there))
    (same_or_not number at)
