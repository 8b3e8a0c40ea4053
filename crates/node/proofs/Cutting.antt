-- Cuts of the power within happenings, and the openings after them.
use Rattle.std.proofs.Common.{◌≡◌, ◌⊎◌, inl, inr, ⊎_elim, ℕ, ◌≤◌, Bool, true, false, List, [], ◌∷◌, ◌++◌, refl, ap, subst, arith}
use Rattle.disk.specs.Disk.{Disk, Image, Leaves}
use Rattle.disk.specs.Moments.{joins, weaken}
use Rattle.gated_log.specs.declared.refusal.Refusal.TheVariants as refusal
use Rattle.managed_ledger.specs.Entries.{Ledger}
use Rattle.records.specs.Maps.{Kept}
use Rattle.session.specs.Broker.{Broker}
use Rattle.node.specs.State.{State}
use Rattle.node.specs.Steps.{Amid}
use Rattle.node.specs.Standing.{StandsForBroker, StandsForSome}
use Rattle.node.specs.Runs.{Life, OpeningEnds, OpeningStep, AllowedRun}
use Rattle.node.specs.Cuts.{Turn, Whole, Within, TurnStep, AllowedLife, AmidEvent, AmidHappening, Amidst, uncut, CutLife}
use Rattle.node.specs.declared.event.Event.{Event}
use Rattle.node.specs.declared.event.Happening.{Happening}
use Rattle.node.specs.declared.event.Happening.TheVariants as happening
use Rattle.node.specs.declared.event.Output.{Output}
use Rattle.node.specs.declared.event.Verdict.{Verdict}
use Rattle.node.specs.declared.event.Verdict.TheVariants as verdict

-- ---- brokers that a front of the happenings reaches

module _ (files_stand : ℕ → Image → Ledger → Kept → Type 0) (first : State) (happenings : List Happening) where
  abbrev start : Life
  start = record { up = false; state = first }

  abbrev Reached : Broker → Type 0
  Reached broker = Amidst start (happening.Crash ∷ happenings) broker

  -- the files stand for one
  abbrev pub Short : Image → Type 0
  Short files = StandsForSome files_stand Reached files

  reached_first : Reached first.broker
  reached_first = record { worked = []; rest = happening.Crash ∷ happenings; outputs = []; between = start; run = refl; front = refl; here = inl refl }

  -- before the first opening and in it
  pub short_first : (old new : Disk) → Leaves (StandsForBroker files_stand first.broker) old new → Leaves Short old new
  short_first old new leaves = weaken (StandsForBroker files_stand first.broker) Short old new leaves (λ files s. (first.broker, reached_first, s))

  -- behind a front of the happenings
  module _ (worked : List Happening) (outputs : List Output) (between : Life) (run : AllowedRun start (happening.Crash ∷ worked) outputs between) where
    reached_next : (broker : Broker) (rest : List Happening) → happenings ≡ worked ++ rest
        → (broker ≡ between.state.broker) ⊎ ((next : Event) × (later : List Happening) × (rest ≡ happening.Event next ∷ later) × (between.up ≡ true) × Amid between.state.sessions between.state.broker next broker) → Reached broker
    reached_next broker rest front here = record {
      worked = happening.Crash ∷ worked;
      rest = rest;
      outputs = outputs;
      between = between;
      run = run;
      front = ap (λ (hs : List Happening). happening.Crash ∷ hs) front;
      here = here;
    }

    reached_in : (up : Bool) (e : Event) (later : List Happening) (broker : Broker) → between.up ≡ up → happenings ≡ worked ++ happening.Event e ∷ later → AmidEvent up between.state e broker → Reached broker
    reached_in true e later broker up front amid = reached_next broker (happening.Event e ∷ later) front (inr (e, later, refl, up, amid))
    reached_in false e later broker up front amid = reached_next broker (happening.Event e ∷ later) front (inl amid)

    reached_amid : (h : Happening) (later : List Happening) (broker : Broker) → happenings ≡ worked ++ h ∷ later → AmidHappening between.up between.state h broker → Reached broker
    reached_amid (happening.Event e) later broker front amid = reached_in between.up e later broker refl front amid
    reached_amid (happening.Crash) later broker front amid = reached_next broker (happening.Crash ∷ later) front (inl amid)

    -- one happening more
    pub short_more : (h : Happening) (rest later : List Happening) (d0 d1 d2 : Disk) → happenings ≡ worked ++ rest → rest ≡ h ∷ later
        → Leaves Short d0 d1 → Leaves (StandsForSome files_stand (λ broker. AmidHappening between.up between.state h broker)) d1 d2 → Leaves Short d0 d2
    short_more h rest later d0 d1 d2 front next before leaves =
        let at = subst (λ (hs : List Happening). happenings ≡ worked ++ hs) next front in
        joins Short (StandsForSome files_stand (λ broker. AmidHappening between.up between.state h broker)) Short d0 d1 d2 before leaves (λ files s. s) (λ files s. (s.0, reached_amid h later s.0 at s.1, s.2))

-- ---- the openings after them

-- whole happenings, and a turn behind them
turned : (old : Life) (hs : List Happening) (outputs : List Output) (m : Life) (t : Turn) (output : Output) (b : Life) → AllowedRun old hs outputs m → TurnStep m t output b
    → AllowedLife old (uncut hs ++ t ∷ []) (outputs ++ output ∷ []) b
turned old [] [] m t output b run step = let P : Life → Type 0 = λ x. TurnStep x t output b in (b, subst P run step, refl)
turned old (h ∷ hs) (o ∷ os) m t output b run step = (run.0, run.1, turned run.0 hs os m t output b run.2 step)
turned old [] (o ∷ os) m t output b run step = absurd run
turned old (h ∷ hs) [] m t output b run step = absurd run

-- a device that had failed less often
ends_earlier : (answer : Verdict) (s : State) (faults : ℕ) (new : Life) → s.faults ≤ faults → OpeningEnds answer (record s { faults = faults }) new → OpeningEnds answer s new
ends_earlier verdict.Done s faults new more o = record {
  up = o.up;
  crash = record {
    per_ledger = o.crash.per_ledger;
    service_url = o.crash.service_url;
    settled = o.crash.settled;
    settles = o.crash.settles;
    names = o.crash.names;
    sure = o.crash.sure;
    count = o.crash.count;
    each = o.crash.each;
    stages = o.crash.stages;
    sessions = o.crash.sessions;
    used = o.crash.used;
    faults = omega (arith, more, o.crash.faults);
  };
}
ends_earlier (verdict.Refused refusal.NoMemory) s faults new more o = record { down = o.down; state = o.state; faults = omega (arith, more, o.faults) }
ends_earlier (verdict.Refused refusal.Device) s faults new more o = (record { down = o.0.down; state = o.0.state; faults = omega (arith, more, o.0.faults) }, omega (arith, more, o.1))
ends_earlier _ s faults new more o = absurd o

opens_at : (s : State) (broker broker' : Broker) (faults : ℕ) (output : Output) (new : Life) → broker ≡ broker' → OpeningStep (record s { broker = broker; faults = faults }) output new
    → OpeningStep (record s { broker = broker'; faults = faults }) output new
opens_at s broker broker' faults output new is o = subst (λ (b : Broker). OpeningStep (record s { broker = b; faults = faults }) output new) is o

pub cut_turn : (old : Life) (happenings : List Happening) (broker : Broker) (at : Amidst old happenings broker) (faults : ℕ) (output : Output) (new : Life) → at.between.state.faults ≤ faults
    → OpeningStep (record at.between.state { broker = broker; faults = faults }) output new → CutLife old at.worked at.outputs output new
cut_turn old happenings broker at faults output new more opening = ⊎_elim
    (λ same.
    let o = opens_at at.between.state broker at.between.state.broker faults output new same opening in
    record {
      turn = Whole happening.Crash;
      silent = refl;
      life = turned old at.worked at.outputs at.between (Whole happening.Crash) output new at.run (o.0, ends_earlier output.result at.between.state faults new more o.1);
    })
    (λ within.
    record {
      turn = Within within.0;
      silent = refl;
      life = turned old at.worked at.outputs at.between (Within within.0) output new at.run
          (record { up = within.3; faults = faults; more = more; broker = broker; amid = within.4; opening = opening });
    })
    at.here
