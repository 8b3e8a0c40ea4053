-- No output tells a fault of the files.
use Rattle.std.proofs.Common.{◌≡◌, ⊎_elim, ℕ, ◌<◌, nat_lt, Bool, true, false, Option, Some, None, Result, Ok, Err, List, [], ◌∷◌, length, sym, subst}
use Rattle.gated_log.specs.declared.read_error.ReadError.{ReadError}
use Rattle.gated_log.specs.declared.refusal.Refusal.{Refusal}
use Rattle.gated_log.specs.declared.refusal.Refusal.TheVariants as refusal
use Rattle.topic_stores.specs.declared.error.WriteError.{WriteError}
use Rattle.topic_stores.specs.declared.error.WriteError.TheVariants as write
use Rattle.topic_core.specs.State.{Topic}
use Rattle.topic_core.specs.Crashes.{ReopenIn}
use Rattle.session.specs.Client.{Play, play}
use Rattle.session.specs.Pumping.{ServesIf, PumpIn, pump_result}
use Rattle.session.specs.declared.fault.Fault.{Fault}
use Rattle.session.specs.declared.pumping.More.{More}
use Rattle.session.specs.declared.pumping.PumpFault.{PumpFault}
use Rattle.node.specs.State.{State, MayRefuse, place_in, place_of, is_full, verdict_of, verdict_of_pump, verdict_for, verdict_of_flush}
use Rattle.node.specs.Steps as steps
use Rattle.node.specs.Runs.{Chain, Run, Life, OpeningEnds, EventIn, HappeningStep, AllowedRun}
use Rattle.node.specs.Cuts.{Turn, Whole, Within, cut_in, TurnStep, AllowedLife}
use Rattle.node.specs.Keeping.{TellsNoFault, TellNoFault}
use Rattle.node.specs.declared.event.Event.{Event}
use Rattle.node.specs.declared.event.Event.TheVariants as event
use Rattle.node.specs.declared.event.Happening.{Happening}
use Rattle.node.specs.declared.event.Happening.TheVariants as happening
use Rattle.node.specs.declared.event.Output.{Output}
use Rattle.node.specs.declared.event.TopicEvent.{TopicEvent}
use Rattle.node.specs.declared.event.TopicEvent.TheVariants as on_topic
use Rattle.node.specs.declared.event.Verdict.{Verdict}
use Rattle.node.specs.declared.event.Verdict.TheVariants as verdict

-- an answer that tells none
answers : (bytes : List ℕ) (answer : Verdict) (output : Output) → output ≡ record { bytes = bytes; result = answer } → TellsNoFault answer → TellsNoFault output.result
answers bytes answer output is told = subst (λ (o : Output). TellsNoFault o.result) (sym is) told

told_so : (answer told : Verdict) → told ≡ answer → TellsNoFault answer → TellsNoFault told
told_so answer told is h = subst (λ (v : Verdict). TellsNoFault v) (sym is) h

opens_as : (answer : Verdict) (old : State) (output : Output) (new : State) → steps.OpensAs answer old output new → TellsNoFault output.result
opens_as verdict.Done old output new s = answers [] verdict.Done output s.0 tt
opens_as (verdict.Refused why) old output new s = answers [] (verdict.Refused refusal.NoMemory) output s.0 tt
opens_as verdict.Full old output new s = absurd s
opens_as verdict.Unknown old output new s = absurd s
opens_as (verdict.Ended why) old output new s = absurd s

opens_session : (full : Bool) (old : State) (output : Output) (new : State) → steps.OpenStep full old output new → TellsNoFault output.result
opens_session true old output new s = answers [] verdict.Full output s.0 tt
opens_session false old output new s = opens_as output.result old output new s

of_fault : (fault : Option Fault) → TellsNoFault (verdict_of fault)
of_fault None = tt
of_fault (Some why) = tt

bytes_come : (place : Option ℕ) (old : State) (bytes : List ℕ) (output : Output) (new : State) → steps.BytesStep place old bytes output new → TellsNoFault output.result
bytes_come None old bytes output new s = answers [] verdict.Unknown output s.0 tt
bytes_come (Some place) old bytes output new s = answers s.played.out _ output s.settles.answer (of_fault s.played.client.fault)

-- a pump stops for a failure of the device, and for no damage
module _ (Refused : ℕ → ReadError → Type 0) where
  serves : (goes_on : Bool) (messages : Result ℕ PumpFault) (old new : Play) → ServesIf Refused goes_on messages old new → (fault : Option Fault) (replies : ℕ) → TellsNoFault (verdict_of_pump (pump_result fault replies messages))
  serves goes_on (Ok count) old new s None replies = tt
  serves goes_on (Ok count) old new s (Some why) replies = tt
  serves goes_on (Err why) old new s (Some other) replies = tt
  serves true (Err why) old new s None replies = subst (λ (w : PumpFault). TellsNoFault (verdict_of_pump (pump_result None replies (Err w)))) (sym s.until.device) tt
  serves false (Err why) old new s None replies = absurd (let no : Err why ≡ Ok 0 = s.0 in cc)

  pumped : (fault : Option Fault) (old : Play) (result : Result More PumpFault) (new : Play) → PumpIn Refused fault old result new → TellsNoFault (verdict_of_pump result)
  pumped None old result new s =
      subst (λ (r : Result More PumpFault). TellsNoFault (verdict_of_pump r)) (sym s.result_is) (serves (nat_lt s.replies 65536) s.messages s.collected s.served s.serves s.served.client.fault s.replies)
  pumped (Some why) old result new s = subst (λ (r : Result More PumpFault). TellsNoFault (verdict_of_pump r)) (sym s.0) tt

pumps : (place : Option ℕ) (old : State) (output : Output) (new : State) → steps.PumpStep place old output new → TellsNoFault output.result
pumps None old output new s = answers [] verdict.Unknown output s.0 tt
pumps (Some place) old output new s =
    answers s.played.out _ output s.settles.answer (pumped (MayRefuse old.stages old.faults new.faults) s.client.fault (play s.client old.broker []) s.result s.played s.step)

closes : (place : Option ℕ) (old : State) (output : Output) (new : State) → steps.CloseStep place old output new → TellsNoFault output.result
closes None old output new s = answers [] verdict.Unknown output s.0 tt
closes (Some place) old output new s = answers [] verdict.Done output s.answer tt

of_write : {A : Type 0} (result : Result A WriteError) → TellsNoFault (verdict_of_flush result)
of_write (Ok done) = tt
of_write (Err write.Device) = tt
of_write (Err write.NoMemory) = tt

reopens : (failed : Bool) (old : Topic) (result : Result (Unit {0}) Refusal) (new : Topic) → ReopenIn failed old result new → TellsNoFault (verdict_for result)
reopens true old (Ok done) new s = tt
reopens true old (Err refusal.NoMemory) new s = tt
reopens true old (Err refusal.Device) new s = tt
reopens true old (Err (refusal.Damaged file offset)) new s = absurd s
reopens true old (Err refusal.NotInitialised) new s = absurd s
reopens true old (Err refusal.Version) new s = absurd s
reopens true old (Err refusal.TooLarge) new s = absurd s
reopens false old result new s = subst (λ (r : Result (Unit {0}) Refusal). TellsNoFault (verdict_for r)) (sym s.0) tt

works_at : (e : TopicEvent) (p : steps.Spot) (told : Verdict) (q : steps.Spot) → steps.WorksAt e p told q → TellsNoFault told
works_at on_topic.Flush p told q s = told_so _ told s.ends (of_write s.result)
works_at on_topic.Take p told q s = told_so _ told s.ends (of_write s.result)
works_at on_topic.Write p told q s = told_so _ told s.ends (of_write s.result)
works_at on_topic.Finish p told q s = told_so _ told s.ends (of_write s.result)
works_at on_topic.Reopen p told q s = told_so _ told s.ends (reopens p.topic.failed p.topic s.result q.topic s.step)

works_on : (e : TopicEvent) (place : Option ℕ) (old : State) (output : Output) (new : State) → steps.WorkStep e place old output new → TellsNoFault output.result
works_on e None old output new s = answers [] verdict.Unknown output s.0 tt
works_on e (Some at) old output new s = ⊎_elim
    (λ (w : (at < length old.broker.topics) × steps.WorksOn e old at output new). answers [] w.1.told output w.1.answer (works_at e _ w.1.told _ w.1.step))
    (λ idle. answers [] verdict.Unknown output idle.1.0 tt)
    s

event_tells : (old : State) (e : Event) (output : Output) (new : State) → steps.BrokerStep old e output new → TellsNoFault output.result
event_tells old event.Open output new s = opens_session (is_full old) old output new s
event_tells old (event.Bytes who bytes) output new s = bytes_come (place_of old.sessions who) old bytes output new s
event_tells old (event.Pump who) output new s = pumps (place_of old.sessions who) old output new s
event_tells old (event.Close who) output new s = closes (place_of old.sessions who) old output new s
event_tells old (event.OnTopic topic e) output new s = works_on e (place_in old.broker.topics topic) old output new s

opening_tells : (answer : Verdict) (old : State) (new : Life) → OpeningEnds answer old new → TellsNoFault answer
opening_tells verdict.Done old new s = tt
opening_tells (verdict.Refused refusal.NoMemory) old new s = tt
opening_tells (verdict.Refused refusal.Device) old new s = tt
opening_tells _ old new s = absurd s

event_in : (up : Bool) (old : Life) (e : Event) (output : Output) (new : Life) → EventIn up old e output new → TellsNoFault output.result
event_in true old e output new s = event_tells old.state e output new.state s.1
event_in false old e output new s = answers [] verdict.Unknown output s.0 tt

happening_tells : (old : Life) (h : Happening) (output : Output) (new : Life) → HappeningStep old h output new → TellsNoFault output.result
happening_tells old (happening.Event e) output new s = event_in old.up old e output new s
happening_tells old (happening.Crash) output new s = opening_tells output.result old.state new s.1

turn_tells : (old : Life) (t : Turn) (output : Output) (new : Life) → TurnStep old t output new → TellsNoFault output.result
turn_tells old (Whole h) output new s = happening_tells old h output new s
turn_tells old (Within e) output new s = opening_tells output.result (cut_in old.state s.broker s.faults) new s.opening.1

-- what each step tells, all of them tell
module _ {S X : Type 0} (Step : S → X → Output → S → Type 0) (tells : (a : S) (x : X) (o : Output) (b : S) → Step a x o b → TellsNoFault o.result) where
  chain_tells : (a : S) (xs : List X) (os : List Output) (b : S) → Chain Step a xs os b → TellNoFault os
  chain_tells a [] [] b s = tt
  chain_tells a (x ∷ xs) (o ∷ os) b s = (tells a x o s.0 s.1, chain_tells s.0 xs os b s.2)
  chain_tells a [] (o ∷ os) b s = absurd s
  chain_tells a (x ∷ xs) [] b s = absurd s

pub run_tells : (old : State) (events : List Event) (outputs : List Output) (new : State) → Run old events outputs new → TellNoFault outputs
run_tells old events outputs new run = chain_tells steps.BrokerStep event_tells old events outputs new run

pub life_tells : (old : Life) (happenings : List Happening) (outputs : List Output) (new : Life) → AllowedRun old happenings outputs new → TellNoFault outputs
life_tells old happenings outputs new run = chain_tells HappeningStep happening_tells old happenings outputs new run

pub cut_life_tells : (old : Life) (turns : List Turn) (outputs : List Output) (new : Life) → AllowedLife old turns outputs new → TellNoFault outputs
cut_life_tells old turns outputs new run = chain_tells TurnStep turn_tells old turns outputs new run
