-- The moves of a life come from the frames that came in, and from its openings.
use Rattle.std.proofs.Common.{◌≡◌, ◌∙◌, ℕ, zero, suc, Bool, true, false, cond, List, [], ◌∷◌, ◌++◌, map, refl, sym, ap, subst, arith}
use Rattle.std.specs.List.{AllByRecursion}
use Rattle.frames.specs.declared.frame.Frame.{Frame}
use Rattle.session.specs.Client.{Client}
use Rattle.node.specs.Runs.{Life}
use Rattle.node.specs.Cuts.{Turn, AllowedLife, hearer_in}
use Rattle.node.specs.Origins.{Origin, Opened, AsksSo, frames_in, openings_among}
use Rattle.node.specs.Incoming.{brought_in, is_opening, bytes_in, openings_in, IsFront, ComesFrom, HasNoSession}
use Rattle.node.specs.Laws.{AccountsTo, IsAtStart}
use Rattle.node.specs.declared.event.Output.{Output}
use Rattle.node.proofs.Streams.{AreNumbered, Claim, claim_of_none, no_frame, all_join, all_to, frames_first, frames_later, no_openings}
use Rattle.node.proofs.Causing.{both_ways}
use Rattle.node.proofs.Unfolding.{ClaimIn, NumberedIn, silent_in, WorksOn, ComesIf, LifeComes, cut_life_comes}
use Rattle.node.proofs.Accounts.{account, accounts_to}

-- what is claimed of what comes is claimed of the same
module _ (bytes more : ℕ → List ℕ) (frames others : ℕ → List Frame) (same : (who : ℕ) → bytes who ≡ more who) (alike : (who : ℕ) → frames who ≡ others who) where
  front_as : (who : ℕ) (rest : List ℕ) → IsFront (rest ++ bytes who) (frames who) → IsFront (rest ++ more who) (others who)
  front_as who rest h = subst (λ (l : List ℕ). IsFront (rest ++ l) (others who)) (same who) (subst (λ (fs : List Frame). IsFront (rest ++ bytes who) fs) (alike who) h)

  claim_as : (life : Life) → ClaimIn life bytes frames → ClaimIn life more others
  claim_as life h = record {
    up = λ up.
        let c = h.up up in
        record {
          opened = all_to (λ (x : Client). IsFront (x.progress.rest ++ bytes x.number) (frames x.number)) (λ (x : Client). IsFront (x.progress.rest ++ more x.number) (others x.number))
              (λ x front. front_as x.number x.progress.rest front) life.state.sessions c.opened;
          later = λ who above. front_as who [] (c.later who above);
          gone = λ who below none. sym (alike who) ∙ c.gone who below none;
        };
    down = λ down who. sym (alike who) ∙ h.down down who;
  }

-- of the rest of a life: what comes, and the frames that are worked
record Streams (life : Life) (turns : List Turn) (outputs : List Output) (origins : List Origin) : Type 0 where
  asks : AllByRecursion AsksSo origins
  now : NumberedIn life → ClaimIn life (λ who. bytes_in 0 who turns outputs) (λ who. frames_in 0 who origins)
  later : (opening who : ℕ) → IsFront (bytes_in (suc opening) who turns outputs) (frames_in (suc opening) who origins)
  openings : openings_among origins ≡ openings_in turns outputs

numbered_none : (life : Life) → life.state.sessions ≡ [] → NumberedIn life
numbered_none life none = λ up. subst (λ (cs : List Client). AreNumbered 0 cs life.state.used) (sym none) (omega arith)

-- a life in which no session is open
from_none : (life : Life) (bytes : ℕ → List ℕ) (frames : ℕ → List Frame) → life.state.sessions ≡ [] → Claim life.state.sessions life.state.used bytes frames → (who : ℕ) → IsFront (bytes who) (frames who)
from_none life bytes frames none claim who = claim_of_none life.state.used bytes frames (subst (λ (cs : List Client). Claim cs life.state.used bytes frames) none claim) who

module _ (a : Life) (t : Turn) (o : Output) (b : Life) (later : List Origin) (ts : List Turn) (os : List Output) (s : Streams b ts os later) where
  -- what came in behind the opening that this turn is
  opened_front : (opening who : ℕ) → is_opening t o.result ≡ true → b.up ≡ true → b.state.sessions ≡ [] → IsFront (bytes_in (suc opening) who (t ∷ ts) (o ∷ os)) (frames_in opening who later)
  opened_front zero who is up none =
      subst (λ (x : Bool). IsFront (cond x (bytes_in 0 who ts os) (bytes_in 1 who ts os)) (frames_in 0 who later)) (sym is)
      (from_none b (λ other. bytes_in 0 other ts os) (λ other. frames_in 0 other later) none ((s.now (numbered_none b none)).up up) who)
  opened_front (suc opening) who is up none =
      subst (λ (x : Bool). IsFront (cond x (bytes_in (suc opening) who ts os) (bytes_in (suc (suc opening)) who ts os)) (frames_in (suc opening) who later)) (sym is) (s.later opening who)

  -- the node is opened again
  opens_again : is_opening t o.result ≡ true → b.up ≡ true → b.state.sessions ≡ [] → Streams a (t ∷ ts) (o ∷ os) (Opened ∷ later)
  opens_again is up none = record {
    asks = (tt, s.asks);
    now = λ numbered. silent_in a (λ who. bytes_in 0 who (t ∷ ts) (o ∷ os)) (λ who. []) (λ who. refl);
    later = λ opening who. opened_front opening who is up none;
    openings = ap suc s.openings ∙ sym (ap (λ (x : Bool). cond x (suc (openings_in ts os)) (openings_in ts os)) is);
  }

  -- sessions work what the turn brings them
  works_on : (now : List Origin) → is_opening t o.result ≡ false → WorksOn a (λ who. brought_in who t o.result) now b → Streams a (t ∷ ts) (o ∷ os) (now ++ later)
  works_on now is w = record {
    asks = all_join AsksSo now later w.asks s.asks;
    now = λ numbered.
        claim_as (λ who. brought_in who t o.result ++ bytes_in 0 who ts os) (λ who. bytes_in 0 who (t ∷ ts) (o ∷ os)) (λ who. frames_in 0 who now ++ frames_in 0 who later) (λ who. frames_in 0 who (now ++ later))
        (λ who. sym (ap (λ (x : Bool). cond x [] (brought_in who t o.result ++ bytes_in 0 who ts os)) is)) (λ who. sym (frames_first who now later w.worked)) a
        (w.claims numbered (λ who. bytes_in 0 who ts os) (λ who. frames_in 0 who later) (s.now (w.numbered numbered)));
    later = λ opening who.
        subst (λ (x : Bool). IsFront (cond x (bytes_in opening who ts os) (bytes_in (suc opening) who ts os)) (frames_in (suc opening) who (now ++ later))) (sym is)
        (subst (λ (fs : List Frame). IsFront (bytes_in (suc opening) who ts os) fs) (sym (frames_later opening who now later w.worked)) (s.later opening who));
    openings = no_openings now later w.worked ∙ s.openings ∙ sym (ap (λ (x : Bool). cond x (suc (openings_in ts os)) (openings_in ts os)) is);
  }

  turn_streams : (opens : Bool) (now : List Origin) → is_opening t o.result ≡ opens → ComesIf opens a (λ who. brought_in who t o.result) now b → Streams a (t ∷ ts) (o ∷ os) (now ++ later)
  turn_streams true now is c = subst (λ (xs : List Origin). Streams a (t ∷ ts) (o ∷ os) (xs ++ later)) (sym c.only) (opens_again is c.up c.none)
  turn_streams false now is c = works_on now is c

streams : (a : Life) (ts : List Turn) (os : List Output) (b : Life) (origins : List Origin) → LifeComes a ts os b origins → Streams a ts os origins
streams a [] [] b origins s = subst (λ (xs : List Origin). Streams a [] [] xs) (sym s) (record {
  asks = tt;
  now = λ numbered. silent_in a (λ who. []) (λ who. []) (λ who. refl);
  later = λ opening who. no_frame [] [] refl;
  openings = refl;
})
streams a (t ∷ ts) (o ∷ os) b origins s =
    let rest = streams s.0 ts os b s.2 s.5 in
    subst (λ (xs : List Origin). Streams a (t ∷ ts) (o ∷ os) xs) (sym s.3) (turn_streams a t o s.0 s.2 ts os rest (is_opening t o.result) s.1 refl s.4)
streams a [] (o ∷ os) b origins s = absurd s
streams a (t ∷ ts) [] b origins s = absurd s

-- from the start on
first_front : (up : Bool) (life : Life) (bytes : ℕ → List ℕ) (frames : ℕ → List Frame) → life.up ≡ up → HasNoSession life → (NumberedIn life → ClaimIn life bytes frames) → (who : ℕ) → IsFront (bytes who) (frames who)
first_front true life bytes frames is none claim who =
    let sessions = none is in
    from_none life bytes frames sessions ((claim (numbered_none life sessions)).up is) who
first_front false life bytes frames is none claim who = no_frame (bytes who) (frames who) ((claim (λ up. absurd (both_ways life.up is up))).down is who)

all_fronts : (life : Life) (turns : List Turn) (outputs : List Output) (origins : List Origin) → HasNoSession life → Streams life turns outputs origins → (opening who : ℕ) → IsFront (bytes_in opening who turns outputs) (frames_in opening who origins)
all_fronts life turns outputs origins none s zero who = first_front life.up life (λ other. bytes_in 0 other turns outputs) (λ other. frames_in 0 other origins) refl none s.now who
all_fronts life turns outputs origins none s (suc opening) who = s.later opening who

pub moves_come : (old : Life) (turns : List Turn) (outputs : List Output) (new : Life) → AllowedLife old turns outputs new → IsAtStart old.state.broker → HasNoSession old
    → (account : AccountsTo old.state.broker (map (λ turn. hearer_in turn) turns) outputs new.state.broker) × (origins : List Origin) × ComesFrom account turns origins
unfolding account accounts_to
moves_come old turns outputs new run start none =
    let c = cut_life_comes old turns outputs new run in
    let s = streams old turns outputs new c.origins c.comes in (
      accounts_to old.state.broker (map (λ turn. hearer_in turn) turns) outputs new.state.broker c.tells.unfolds start,
      c.origins,
      record { moves = c.tells.asks; asks = s.asks; fronts = all_fronts old turns outputs c.origins none s; openings = s.openings },
    )
