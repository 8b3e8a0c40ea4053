-- An opening of a sound broker is a start.
use Rattle.std.proofs.Common.{◌≡◌, false, List, [], ◌∷◌, map, length, take, subst}
use Rattle.topic_core.proofs.Keeps.{crash-sound}
use Rattle.session.specs.Broker.{topic_at}
use Rattle.node.specs.State.{State}
use Rattle.node.specs.Runs.{Life, StateCrash, Opens, OpeningEnds, AllowedRun}
use Rattle.node.specs.Cuts.{Turn, Whole, AllowedLife, hearer_in}
use Rattle.node.specs.Telling.{hearer_of}
use Rattle.node.specs.Laws.{IsSoundBroker, IsAtStart}
use Rattle.node.specs.Starting.{AccountsSince, AccountsBehind}
use Rattle.node.specs.declared.event.Happening.{Happening}
use Rattle.node.specs.declared.event.Happening.TheVariants as happening
use Rattle.node.specs.declared.event.Output.{Output}
use Rattle.node.specs.declared.event.Verdict.{Verdict}
use Rattle.node.specs.declared.event.Verdict.TheVariants as verdict
use Rattle.node.proofs.Accounts.{life_accounts, cut_life_accounts}
use Rattle.node.proofs.Starting.{starts_quiet}

pub crash_start : (old new : State) → StateCrash old new → IsSoundBroker old.broker → IsAtStart new.broker
crash_start old new crash sound = record {
  sound = λ number. crash-sound (topic_at old.broker number) (topic_at new.broker number) (crash.each number) (sound number);
  quiet = λ number. starts_quiet (topic_at old.broker number).per_ledger (topic_at new.broker number) (crash.each number).again;
}

good_opening : (answer : Verdict) (old : State) (new : Life) → answer ≡ verdict.Done → OpeningEnds answer old new → Opens old new
good_opening answer old new is ends = subst (λ (v : Verdict). OpeningEnds v old new) is ends

pub life_since : (old : Life) (happenings : List Happening) (output : Output) (outputs : List Output) (new : Life) → AllowedRun old (happening.Crash ∷ happenings) (output ∷ outputs) new
    → output.result ≡ verdict.Done → IsSoundBroker old.state.broker → AccountsSince old.state (map (λ h. hearer_of h) happenings) outputs new.state.broker
life_since old happenings output outputs new run good sound =
    let crash = (good_opening output.result old.state run.0 good run.1.1).crash in
    let start = crash_start old.state run.0.state crash sound in
    record { opened = run.0.state; crash = crash; start = start; accounts = life_accounts run.0 happenings outputs new run.2 start }

pub cut_life_since : (old : Life) (turns : List Turn) (output : Output) (outputs : List Output) (new : Life) → AllowedLife old (Whole happening.Crash ∷ turns) (output ∷ outputs) new
    → output.result ≡ verdict.Done → IsSoundBroker old.state.broker → AccountsSince old.state (map (λ t. hearer_in t) turns) outputs new.state.broker
cut_life_since old turns output outputs new run good sound =
    let crash = (good_opening output.result old.state run.0 good run.1.1).crash in
    let start = crash_start old.state run.0.state crash sound in
    record { opened = run.0.state; crash = crash; start = start; accounts = cut_life_accounts run.0 turns outputs new run.2 start }

pub drove_since : (first : State) (happenings : List Happening) (answers : List Output) (last : Life) → AllowedRun (record { up = false; state = first }) (take (length answers) (happening.Crash ∷ happenings)) answers last
    → IsSoundBroker first.broker → AccountsBehind first happenings answers last.state.broker
drove_since first happenings [] last run sound = tt
drove_since first happenings (output ∷ outputs) last run sound = λ good. life_since (record { up = false; state = first }) (take (length outputs) happenings) output outputs last run good sound
