-- What a topic has at hand is what a dispatch gives.
use Rattle.std.proofs.Common.{◌≡◌, ℕ, Option, None, Result, Ok, Err, refl, subst}
use Rattle.std.specs.Prelude.{MatchResult, IfErr}
use Rattle.gated_log.specs.declared.read_error.ReadError.{ReadError}
use Rattle.gated_log.specs.declared.read_error.ReadError.TheVariants.{Device, Damaged, NoMemory}
use Rattle.topic_core.specs.declared.dispatch.AtHand.{AtHand}
use Rattle.topic_core.specs.declared.dispatch.AtHand.TheVariants as at_hand
use Rattle.topic_core.specs.declared.dispatch.Outgoing.{Outgoing}
use Rattle.topic_core.specs.State.{Topic}
use Rattle.topic_core.specs.Steps.{key_of}
use Rattle.topic_core.specs.Dispatch.{Admits, AtHandStep, DispatchStep}
use Rattle.topic_lock.specs.Hearing.{next_of}

-- that there is nothing is what the topic told
pub nothing_told : (r : Result AtHand ReadError) (said : Result (Option Outgoing) ReadError) → next_of r ≡ Ok said → said ≡ Ok None → r ≡ Ok at_hand.Nothing
nothing_told (Ok at_hand.Nothing) said is none = refl
nothing_told (Ok (at_hand.Unread position)) said is none = absurd (cc)
nothing_told (Ok (at_hand.Message outgoing)) said is none = absurd (cc)
nothing_told (Err e) said is none = absurd (cc)

pub given : (t : Topic) (who id : ℕ) (r : Result AtHand ReadError) (new : Topic) → AtHandStep t (key_of who id) r new
    → MatchResult (next_of r) (λ said. DispatchStep t who id said new) (λ position. (new ≡ t) × Admits t (key_of who id) position)
given t who id (Ok at_hand.Nothing) new step = step
given t who id (Ok (at_hand.Unread position)) new step = step
given t who id (Ok (at_hand.Message outgoing)) new step = step
given t who id (Err NoMemory) new step = step
given t who id (Err Device) new step = step
given t who id (Err (Damaged file offset)) new step = step

-- a refusal that is told is the topic's
pub refusal_told : (r : Result AtHand ReadError) (said : Result (Option Outgoing) ReadError) (Holds : ReadError → Type 0) → next_of r ≡ Ok said → IfErr r Holds → IfErr said Holds
refusal_told r (Ok sent) Holds is why = tt
refusal_told (Ok at_hand.Nothing) (Err told) Holds is why = absurd (cc)
refusal_told (Ok (at_hand.Unread position)) (Err told) Holds is why = absurd (cc)
refusal_told (Ok (at_hand.Message outgoing)) (Err told) Holds is why = absurd (cc)
refusal_told (Err e) (Err told) Holds is why = let same : e ≡ told = cc in subst Holds same why
