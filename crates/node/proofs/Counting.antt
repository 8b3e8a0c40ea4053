-- A life of a node whose device had failed more often before is a life.
use Rattle.std.proofs.Common.{◌≡◌, ◌⊎◌, inl, inr, ⊎_elim, ℕ, ◌+◌, ◌-◌, ◌<◌, nat_lt, Bool, true, false, Option, Some, None, Result, Ok, Err, List, [], ◌∷◌, length, ap, arith}
use Rattle.gated_log.specs.declared.read_error.ReadError.{ReadError}
use Rattle.gated_log.specs.declared.read_error.ReadError.TheVariants as read
use Rattle.gated_log.specs.declared.refusal.Refusal.TheVariants as refusal
use Rattle.session.specs.Client.{Play, play}
use Rattle.session.specs.declared.fault.Fault.{Fault}
use Rattle.session.specs.declared.pumping.More.{More}
use Rattle.session.specs.declared.pumping.PumpFault.{PumpFault}
use Rattle.session.proofs.Causes.{fed_caused}
use Rattle.session.proofs.Serving.{pump_step-more}
use Rattle.node.specs.State.{State, Stage, MayRefuseOf, MayRefuse, stage_in, place_in, place_of, is_full}
use Rattle.node.specs.Steps as steps
use Rattle.node.specs.Runs.{Life, StateCrash, OpeningEnds, EventIn, HappeningStep}
use Rattle.node.specs.Cuts.{Turn, Whole, Within, cut_in, TurnStep, AllowedLife}
use Rattle.node.specs.Resuming.{failed_before}
use Rattle.node.specs.declared.event.Event.{Event}
use Rattle.node.specs.declared.event.Event.TheVariants as event
use Rattle.node.specs.declared.event.Happening.{Happening}
use Rattle.node.specs.declared.event.Happening.TheVariants as happening
use Rattle.node.specs.declared.event.Output.{Output}
use Rattle.node.specs.declared.event.TopicEvent.{TopicEvent}
use Rattle.node.specs.declared.event.TopicEvent.TheVariants as on_topic
use Rattle.node.specs.declared.event.Verdict.{Verdict}
use Rattle.node.specs.declared.event.Verdict.TheVariants as verdict

-- ---- events

module _ (n : ℕ) where
  -- the device had failed so many times more
  abbrev later : State → State
  later s = record s { faults = s.faults + n }

  abbrev later_spot : steps.Spot → steps.Spot
  later_spot p = record p { faults = p.faults + n }

  only : (answer : Verdict) (old : State) (output : Output) (new : State) → steps.Only answer old output new → steps.Only answer (later old) output (later new)
  only answer old output new s = (s.0, ap (λ (x : State). later x) s.1)

  opens_as : (answer : Verdict) (old : State) (output : Output) (new : State) → steps.OpensAs answer old output new → steps.OpensAs answer (later old) output (later new)
  opens_as verdict.Done old output new s = (s.0, ap (λ (x : State). later x) s.1)
  opens_as (verdict.Refused why) old output new s = only (verdict.Refused refusal.NoMemory) old output new s
  opens_as verdict.Full old output new s = absurd s
  opens_as verdict.Unknown old output new s = absurd s
  opens_as (verdict.Ended why) old output new s = absurd s

  opens_session : (full : Bool) (old : State) (output : Output) (new : State) → steps.OpenStep full old output new → steps.OpenStep full (later old) output (later new)
  opens_session true old output new s = only verdict.Full old output new s
  opens_session false old output new s = opens_as output.result old output new s

  settles : (old : State) (place : ℕ) (played : Play) (result : Verdict) (output : Output) (new : State) → steps.Settles old place played result output new → steps.Settles (later old) place played result output (later new)
  settles old place played result output new s =
      record { answer = s.answer; broker = s.broker; stages = s.stages; sessions = s.sessions; used = s.used; faults = omega (arith, s.faults) }

  bytes_come : (place : Option ℕ) (old : State) (bytes : List ℕ) (output : Output) (new : State) → steps.BytesStep place old bytes output new → steps.BytesStep place (later old) bytes output (later new)
  bytes_come None old bytes output new s = only verdict.Unknown old output new s
  bytes_come (Some place) old bytes output new s = record {
    client = s.client;
    stands = s.stands;
    result = s.result;
    played = s.played;
    step = fed_caused (old.faults < new.faults) (old.faults + n < new.faults + n) (λ failed. omega (arith, failed)) s.client.fault (play s.client old.broker []) bytes s.result s.played s.step;
    settles = settles old place s.played _ output new s.settles;
  }

  may_of : (stage : Stage) (a b : ℕ) (why : ReadError) → MayRefuseOf stage a b why → MayRefuseOf stage (a + n) (b + n) why
  may_of stage a b read.NoMemory may = tt
  may_of stage a b read.Device (inl failed) = inl (omega (arith, failed))
  may_of stage a b read.Device (inr written) = inr written
  may_of stage a b (read.Damaged file offset) may = may

  may : (stages : List Stage) (a b number : ℕ) (why : ReadError) → MayRefuse stages a b number why → MayRefuse stages (a + n) (b + n) number why
  may stages a b number why is = may_of (stage_in stages number) a b why is

  pumps : (place : Option ℕ) (old : State) (output : Output) (new : State) → steps.PumpStep place old output new → steps.PumpStep place (later old) output (later new)
  pumps None old output new s = only verdict.Unknown old output new s
  pumps (Some place) old output new s = record {
    client = s.client;
    stands = s.stands;
    result = s.result;
    played = s.played;
    step = pump_step-more (MayRefuse old.stages old.faults new.faults) (MayRefuse old.stages (old.faults + n) (new.faults + n)) (may old.stages old.faults new.faults) (play s.client old.broker []) s.result s.played s.step;
    settles = settles old place s.played _ output new s.settles;
  }

  closes : (place : Option ℕ) (old : State) (output : Output) (new : State) → steps.CloseStep place old output new → steps.CloseStep place (later old) output (later new)
  closes None old output new s = only verdict.Unknown old output new s
  closes (Some place) old output new s =
      record { client = s.client; stands = s.stands; answer = s.answer; broker = s.broker; stages = s.stages; sessions = s.sessions; used = s.used; faults = omega (arith, s.faults) }

  works_at : (e : TopicEvent) (p : steps.Spot) (told : Verdict) (q : steps.Spot) → steps.WorksAt e p told q → steps.WorksAt e (later_spot p) told (later_spot q)
  works_at on_topic.Flush p told q s = record { result = s.result; step = s.step; ends = s.ends; stage = s.stage; cause = λ works is. omega (arith, s.cause works is) }
  works_at on_topic.Take p told q s = record { result = s.result; step = s.step; ends = s.ends; stage = s.stage }
  works_at on_topic.Write p told q s = record { was = s.was; result = s.result; same = s.same; ends = s.ends; stage = s.stage; cause = λ is. omega (arith, s.cause is) }
  works_at on_topic.Finish p told q s = record { written = s.written; was = s.was; handed_on = s.handed_on; result = s.result; step = s.step; ends = s.ends; stage = s.stage }
  works_at on_topic.Reopen p told q s = record { result = s.result; step = s.step; ends = s.ends; stage = s.stage; cause = λ is. omega (arith, s.cause is) }

  works : (e : TopicEvent) (place : Option ℕ) (old : State) (output : Output) (new : State) → steps.WorkStep e place old output new → steps.WorkStep e place (later old) output (later new)
  works e None old output new s = only verdict.Unknown old output new s
  works e (Some at) old output new s = ⊎_elim
      (λ (w : (at < length old.broker.topics) × steps.WorksOn e old at output new).
      let x = w.1 in
      let m = x.moves in inl (
        w.0,
        record {
          told = x.told;
          answer = x.answer;
          next = x.next;
          reached = x.reached;
          moves = record { broker = m.broker; stage = m.stage; others = m.others; sessions = m.sessions; used = m.used; faults = omega (arith, m.faults) };
          step = works_at e _ x.told _ x.step;
        },
      ))
      (λ idle. inr (idle.0, only verdict.Unknown old output new idle.1))
      s

  event_later : (old : State) (e : Event) (output : Output) (new : State) → steps.BrokerStep old e output new → steps.BrokerStep (later old) e output (later new)
  event_later old event.Open output new s = opens_session (is_full old) old output new s
  event_later old (event.Bytes who bytes) output new s = bytes_come (place_of old.sessions who) old bytes output new s
  event_later old (event.Pump who) output new s = pumps (place_of old.sessions who) old output new s
  event_later old (event.Close who) output new s = closes (place_of old.sessions who) old output new s
  event_later old (event.OnTopic topic e) output new s = works e (place_in old.broker.topics topic) old output new s

  -- ---- lives

  crash : (old new : State) → StateCrash old new → StateCrash (later old) (later new)
  crash old new c = record {
    per_ledger = c.per_ledger;
    service_url = c.service_url;
    settled = c.settled;
    settles = c.settles;
    names = c.names;
    sure = c.sure;
    count = c.count;
    each = c.each;
    stages = c.stages;
    sessions = c.sessions;
    used = c.used;
    faults = omega (arith, c.faults);
  }

  opening : (answer : Verdict) (old : State) (new : Life) → OpeningEnds answer old new → OpeningEnds answer (later old) (failed_before n new)
  opening verdict.Done old new s = record { up = s.up; crash = crash old new.state s.crash }
  opening (verdict.Refused refusal.NoMemory) old new s = record { down = s.down; state = ap (λ (x : State). later x) s.state; faults = omega (arith, s.faults) }
  opening (verdict.Refused refusal.Device) old new s = (record { down = s.0.down; state = ap (λ (x : State). later x) s.0.state; faults = omega (arith, s.0.faults) }, omega (arith, s.1))
  opening _ old new s = absurd s

  event_in : (up : Bool) (old : Life) (e : Event) (output : Output) (new : Life) → EventIn up old e output new → EventIn up (failed_before n old) e output (failed_before n new)
  event_in true old e output new s = (s.0, event_later old.state e output new.state s.1)
  event_in false old e output new s = (s.0, ap (λ (l : Life). failed_before n l) s.1)

  happens : (old : Life) (h : Happening) (output : Output) (new : Life) → HappeningStep old h output new → HappeningStep (failed_before n old) h output (failed_before n new)
  happens old (happening.Event e) output new s = event_in old.up old e output new s
  happens old (happening.Crash) output new s = (s.0, opening output.result old.state new s.1)

  turns_later : (old : Life) (t : Turn) (output : Output) (new : Life) → TurnStep old t output new → TurnStep (failed_before n old) t output (failed_before n new)
  turns_later old (Whole h) output new s = happens old h output new s
  turns_later old (Within e) output new s = record {
    up = s.up;
    faults = s.faults + n;
    more = omega (arith, s.more);
    broker = s.broker;
    amid = s.amid;
    opening = (s.opening.0, opening output.result (cut_in old.state s.broker s.faults) new s.opening.1);
  }

  pub life_later : (old : Life) (turns : List Turn) (outputs : List Output) (new : Life) → AllowedLife old turns outputs new → AllowedLife (failed_before n old) turns outputs (failed_before n new)
  life_later old [] [] new run = ap (λ (l : Life). failed_before n l) run
  life_later old (t ∷ ts) (o ∷ os) new run = (failed_before n run.0, turns_later old t o run.0 run.1, life_later run.0 ts os new run.2)
  life_later old [] (o ∷ os) new run = absurd run
  life_later old (t ∷ ts) [] new run = absurd run
