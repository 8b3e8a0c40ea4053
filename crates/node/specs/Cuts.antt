-- Lives in which the power is cut within events too.
use Rattle.std.specs.Prelude.{◌≡◌, ◌⊎◌, ◌≤◌, ℕ, Bool, true, false, Option, None, List, [], ◌∷◌, ◌++◌, map}
use Rattle.session.specs.Broker.{Broker}
use Rattle.node.specs.State.{State}
use Rattle.node.specs.Steps.{Amid}
use Rattle.node.specs.Runs.{Chain, Life, OpeningStep, HappeningStep, AllowedRun}
use Rattle.node.specs.Telling.{hearer_of}
use Rattle.node.specs.declared.event.Event.{Event}
use Rattle.node.specs.declared.event.Happening.{Happening}
use Rattle.node.specs.declared.event.Happening.TheVariants as happening
use Rattle.node.specs.declared.event.Output.{Output}

pub data Turn : Type 0 where
  Whole : Happening → Turn  -- an event is worked, or the power is cut between two of them and comes again
  Within : Event → Turn  -- the power is cut while the node works this event, and comes again

-- the node where the power is cut, with this broker; the device may have failed by then
abbrev pub cut_in : State → Broker → ℕ → State
cut_in old broker faults = record old { broker = broker; faults = faults }

-- the power is cut within an event of a node that works, of which nothing was told; the output is that of the opening
pub record CutWithin (old : Life) (event : Event) (output : Output) (new : Life) : Type 0 where
  pub up : old.up ≡ true
  pub faults : ℕ
  pub more : old.state.faults ≤ faults
  pub broker : Broker
  pub amid : Amid old.state.sessions old.state.broker event broker
  pub opening : OpeningStep (cut_in old.state broker faults) output new

abbrev pub TurnStep : Life → Turn → Output → Life → Type 0
TurnStep old (Whole happening) output new = HappeningStep old happening output new
TurnStep old (Within event) output new = CutWithin old event output new

-- turns and outputs, one after another
abbrev pub AllowedLife : Life → List Turn → List Output → Life → Type 0
AllowedLife old turns outputs new = Chain TurnStep old turns outputs new

-- the session whose client a turn's bytes go out to
abbrev pub hearer_in : Turn → Option ℕ
hearer_in (Whole happening) = hearer_of happening
hearer_in (Within event) = None

-- a broker while a happening goes on; a node that is down works no event
abbrev pub AmidEvent : Bool → State → Event → Broker → Type 0
AmidEvent true old event new = Amid old.sessions old.broker event new
AmidEvent false old event new = new ≡ old.broker

abbrev pub AmidHappening : Bool → State → Happening → Broker → Type 0
AmidHappening up old (happening.Event event) new = AmidEvent up old event new
AmidHappening up old (happening.Crash) new = new ≡ old.broker

-- a broker that a front of the happenings reaches: between two of them, or while the next one, an event of a node that works, goes on
pub record Amidst (old : Life) (happenings : List Happening) (broker : Broker) : Type 0 where
  pub worked : List Happening
  pub rest : List Happening
  pub outputs : List Output
  pub between : Life
  pub run : AllowedRun old worked outputs between
  pub front : happenings ≡ worked ++ rest
  pub here : (broker ≡ between.state.broker) ⊎ ((next : Event) × (later : List Happening) × (rest ≡ happening.Event next ∷ later) × (between.up ≡ true) × Amid between.state.sessions between.state.broker next broker)

abbrev pub uncut : List Happening → List Turn
uncut happenings = map (λ happening. Whole happening) happenings

-- the opening of such a broker, after a cut there, is a turn of an allowed life behind that front
pub record CutLife (old : Life) (worked : List Happening) (outputs : List Output) (output : Output) (new : Life) : Type 0 where
  pub turn : Turn
  pub silent : hearer_in turn ≡ None
  pub life : AllowedLife old (uncut worked ++ turn ∷ []) (outputs ++ output ∷ []) new

abbrev pub CutsAreTurns : Type 0
CutsAreTurns = (old : Life) (happenings : List Happening) (broker : Broker) (at : Amidst old happenings broker) (faults : ℕ) (output : Output) (new : Life) → at.between.state.faults ≤ faults
    → OpeningStep (record at.between.state { broker = broker; faults = faults }) output new → CutLife old at.worked at.outputs output new
