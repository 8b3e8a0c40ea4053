-- Behind an opening of the node.
use Rattle.std.specs.Prelude.{◌≡◌, ℕ, Option, List, [], ◌∷◌, map, length, take}
use Rattle.session.specs.Broker.{Broker}
use Rattle.node.specs.State.{State}
use Rattle.node.specs.Runs.{Life, StateCrash, AllowedRun}
use Rattle.node.specs.Cuts.{Turn, Whole, AllowedLife, hearer_in}
use Rattle.node.specs.Telling.{hearer_of}
use Rattle.node.specs.Laws.{IsSoundBroker, IsAtStart, AccountsTo}
use Rattle.node.specs.declared.event.Happening.{Happening}
use Rattle.node.specs.declared.event.Happening.TheVariants as happening
use Rattle.node.specs.declared.event.Output.{Output}
use Rattle.node.specs.declared.event.Verdict.TheVariants as verdict

-- the node that was opened accounts for what it told since
pub record AccountsSince (old : State) (hearers : List (Option ℕ)) (outputs : List Output) (new : Broker) : Type 0 where
  pub opened : State
  pub crash : StateCrash old opened
  pub start : IsAtStart opened.broker
  pub accounts : AccountsTo opened.broker hearers outputs new

-- An opening of a sound broker is a start, whatever was owed before; so each life that begins with one accounts for what was told since.
pub record OpeningsAreStarts : Type 0 where
  pub crash : (old new : State) → StateCrash old new → IsSoundBroker old.broker → IsAtStart new.broker
  pub life : (old : Life) (happenings : List Happening) (output : Output) (outputs : List Output) (new : Life) → AllowedRun old (happening.Crash ∷ happenings) (output ∷ outputs) new
      → output.result ≡ verdict.Done → IsSoundBroker old.state.broker → AccountsSince old.state (map (λ happening. hearer_of happening) happenings) outputs new.state.broker
  pub cut : (old : Life) (turns : List Turn) (output : Output) (outputs : List Output) (new : Life) → AllowedLife old (Whole happening.Crash ∷ turns) (output ∷ outputs) new
      → output.result ≡ verdict.Done → IsSoundBroker old.state.broker → AccountsSince old.state (map (λ turn. hearer_in turn) turns) outputs new.state.broker

-- so it is behind the first output, where that tells of a good opening
abbrev pub AccountsBehind : State → List Happening → List Output → Broker → Type 0
AccountsBehind old happenings [] new = Unit {0}
AccountsBehind old happenings (output ∷ outputs) new = output.result ≡ verdict.Done → AccountsSince old (map (λ happening. hearer_of happening) (take (length outputs) happenings)) outputs new
