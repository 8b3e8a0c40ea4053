-- A topic fails only where the device did.
use Rattle.std.proofs.Common.{◌≡◌, ◌∙◌, ℕ, ◌<◌, true, false, is_some, Result, Ok, Err, List, length, get_or-set_same, refl, sym, ap, subst, arith}
use Rattle.gated_log.specs.declared.refusal.Refusal.{Refusal}
use Rattle.gated_log.specs.declared.refusal.Refusal.TheVariants as refusal
use Rattle.topic_stores.specs.declared.error.WriteError.{WriteError}
use Rattle.topic_stores.specs.declared.error.WriteError.TheVariants.{Device, NoMemory}
use Rattle.topic_core.specs.State.{Topic}
use Rattle.topic_core.specs.Crashes.{ReopenStep, ReopenIn}
use Rattle.session.specs.Broker.{Broker, fresh, topic_at}
use Rattle.node.specs.State.{State, verdict_for, verdict_of_flush}
use Rattle.node.specs.Steps as steps
use Rattle.node.specs.Steps.{BrokerStep, spot_at}
use Rattle.node.specs.Runs.{Run, StateCrash, Life, HappeningStep, AllowedRun}
use Rattle.node.specs.Cuts.{Turn, TurnStep, AllowedLife}
use Rattle.node.specs.Failing.{Works}
use Rattle.node.specs.declared.event.Event.{Event}
use Rattle.node.specs.declared.event.Happening.{Happening}
use Rattle.node.specs.declared.event.Output.{Output}
use Rattle.node.specs.declared.event.Verdict.TheVariants as verdict
use Rattle.node.proofs.Carrying.{chain_keeps}
use Rattle.node.proofs.Causing.{Caused, calm_now}
use Rattle.node.proofs.Unfolding.{CausedIn, event_tells, happening_tells, turn_tells}

run_caused : (base : ℕ) (old : State) (events : List Event) (outputs : List Output) (new : State) (number : ℕ) → Run old events outputs new → Caused base (spot_at old number) → Caused base (spot_at new number)
run_caused base old events outputs new number run h = chain_keeps BrokerStep (λ (s : State). Caused base (spot_at s number)) (λ a e o b step. (event_tells a e o b step).causes base number) old events outputs new run h

-- ---- from a state in which a topic works

caused_first : (s : State) (number : ℕ) → Works s number → Caused s.faults (spot_at s number)
caused_first s number w = calm_now s.faults (spot_at s number) (omega arith) w.works w.sure

life_first : (l : Life) (number : ℕ) → (l.up ≡ true → Works l.state number) → CausedIn l.state.faults l number
life_first l number w = record { later = omega arith; caused = λ up. caused_first l.state number (w up) }

pub run_fails : (old : State) (events : List Event) (outputs : List Output) (new : State) (number : ℕ) → Run old events outputs new → Works old number → (topic_at new.broker number).failed ≡ true → old.faults < new.faults
run_fails old events outputs new number run w is = (run_caused old.faults old events outputs new number run (caused_first old number w)).failed is

pub life_fails : (old : Life) (happenings : List Happening) (outputs : List Output) (new : Life) (number : ℕ) → AllowedRun old happenings outputs new → (old.up ≡ true → Works old.state number)
    → new.up ≡ true → (topic_at new.state.broker number).failed ≡ true → old.state.faults < new.state.faults
life_fails old happenings outputs new number run w up is =
    let h = chain_keeps HappeningStep (λ (l : Life). CausedIn old.state.faults l number) (λ a x o b step. (happening_tells a x o b step).causes old.state.faults number) old happenings outputs new run (life_first old number w) in
    (h.caused up).failed is

pub cut_life_fails : (old : Life) (turns : List Turn) (outputs : List Output) (new : Life) (number : ℕ) → AllowedLife old turns outputs new → (old.up ≡ true → Works old.state number)
    → new.up ≡ true → (topic_at new.state.broker number).failed ≡ true → old.state.faults < new.state.faults
cut_life_fails old turns outputs new number run w up is =
    let h = chain_keeps TurnStep (λ (l : Life). CausedIn old.state.faults l number) (λ a x o b step. (turn_tells a x o b step).causes old.state.faults number) old turns outputs new run (life_first old number w) in
    (h.caused up).failed is

pub opened_works : (old new : State) (number : ℕ) → StateCrash old new → Works new number
opened_works old new number crash =
    let left = crash.each number in
    record {
      works = ap (λ (x : Topic). x.failed) left.again;
      sure = λ at. ap (λ (x : Topic). is_some x.doubt) left.again;
    }

refused_isnt : (why : Refusal) → verdict.Refused why ≡ verdict.Done → ⊥
refused_isnt why is = cc

-- a reopening that is done opened the topic
reopen_done : (t : Topic) (result : Result (Unit {0}) Refusal) (u : Topic) → t.failed ≡ true → verdict_for result ≡ verdict.Done → ReopenStep t result u → (u.failed ≡ false) × (is_some u.doubt ≡ false)
reopen_done t (Ok done) u failed is s =
    let ends : ReopenIn true t (Ok done) u = subst (λ b. ReopenIn b t (Ok done) u) failed s in
    (ap (λ (x : Topic). x.failed) ends.1, ap (λ (x : Topic). is_some x.doubt) ends.1)
reopen_done t (Err why) u failed is s = absurd (refused_isnt why is)

pub reopened_works : (old : State) (number : ℕ) (output : Output) (new : State) → steps.Reopens old number output new → number < length old.broker.topics → (topic_at old.broker number).failed ≡ true → output.result ≡ verdict.Done
    → Works new number
reopened_works old number output new s within failed done =
    let told : verdict_for s.step.result ≡ verdict.Done = sym s.step.ends ∙ sym (ap (λ (o : Output). o.result) s.answer) ∙ done in
    let again = reopen_done (topic_at old.broker number) s.step.result s.next failed told s.step.step in
    let there : topic_at new.broker number ≡ s.next = ap (λ (b : Broker). topic_at b number) s.moves.broker ∙ get_or-set_same old.broker.topics number s.next (fresh old.broker.per_ledger) within in
    record {
      works = ap (λ (x : Topic). x.failed) there ∙ again.0;
      sure = λ at. ap (λ (x : Topic). is_some x.doubt) there ∙ again.1;
    }

done_isnt : verdict.Done ≡ verdict.Refused refusal.Device → ⊥
done_isnt is = cc

full_isnt : verdict.Refused refusal.NoMemory ≡ verdict.Refused refusal.Device → ⊥
full_isnt is = cc

is_device : (result : Result ℕ WriteError) → verdict_of_flush result ≡ verdict.Refused refusal.Device → result ≡ Err Device
is_device (Ok count) is = absurd (done_isnt is)
is_device (Err NoMemory) is = absurd (full_isnt is)
is_device (Err Device) is = refl

pub flush_told : (first : State) (events : List Event) (outputs : List Output) (old : State) (number : ℕ) (output : Output) (new : State) → Run first events outputs old → Works first number → steps.Flushes old number output new
    → output.result ≡ verdict.Refused refusal.Device → first.faults < new.faults
flush_told first events outputs old number output new run w s told =
    let held = run_caused first.faults first events outputs old number run (caused_first first number w) in
    let device = is_device s.step.result (sym s.step.ends ∙ sym (ap (λ (o : Output). o.result) s.answer) ∙ told) in
    elim (topic_at old.broker number).failed as (λ b. (topic_at old.broker number).failed ≡ b → first.faults < new.faults) [
      | true ↦ λ fails. omega (arith, held.failed fails, s.moves.faults)
      | false ↦ λ works. omega (arith, held.later, s.step.cause works device)
    ] refl
