-- The abstract node.
use Rattle.std.specs.Prelude.{◌≡◌, ◌⊎◌, ◌<◌, ℕ, ◌+◌, ◌^◌, ◌||◌, Option, Some, None, Result, Ok, Err, Bool, List, [], ◌∷◌, ◌++◌, length, nat_lt, nat_le, nat_eq, cond, remove, position, slice_index_or}
use Rattle.gated_log.specs.declared.read_error.ReadError.{ReadError}
use Rattle.gated_log.specs.declared.read_error.ReadError.TheVariants as read
use Rattle.gated_log.specs.declared.refusal.Refusal.{Refusal}
use Rattle.gated_log.specs.declared.refusal.Refusal.TheVariants as refusal
use Rattle.topic_stores.specs.declared.batch.Batch.{Batch}
use Rattle.topic_stores.specs.declared.error.WriteError.{WriteError}
use Rattle.topic_stores.specs.declared.error.WriteError.TheVariants as write
use Rattle.topic_stores.specs.Writing.{refusal_of}
use Rattle.topic_core.specs.State.{Topic}
use Rattle.session.specs.declared.fault.Fault.{Fault}
use Rattle.session.specs.declared.pumping.More.{More}
use Rattle.session.specs.declared.pumping.PumpFault.{PumpFault}
use Rattle.session.specs.declared.pumping.PumpFault.TheVariants.{Ended, Device, Damaged}
use Rattle.session.specs.Broker.{Broker}
use Rattle.session.specs.Client.{Client, new_client}
use Rattle.node.specs.declared.event.Verdict.{Verdict}
use Rattle.node.specs.declared.event.Verdict.TheVariants as verdict

-- how far the parts of a flush are that comes in parts
pub data Stage : Type 0 where
  Resting : Stage  -- no such flush is under way
  Taken : Stage  -- its batch is taken, and not written
  Written : Result ℕ WriteError → Stage  -- it is written, and its write ended so

pub record State : Type 0 where
  pub broker : Broker
  pub stages : List Stage  -- of the flushes that come in parts, by the numbers of their topics
  pub sessions : List Client  -- those that are open
  pub used : ℕ  -- how many numbers of sessions were given out
  pub faults : ℕ  -- how often the device has failed

-- how far the flush of a topic is; where there is no such topic none is under way
abbrev pub stage_in : List Stage → ℕ → Stage
stage_in stages number = slice_index_or stages number Resting

abbrev pub stage_at : State → ℕ → Stage
stage_at s number = stage_in s.stages number

-- the broker with these topics
abbrev pub over : Broker → List Topic → Broker
over b topics = record b { topics = topics }

-- a broker without topics, whose ledger ids have so many entry ids, and that clients find so
abbrev pub fresh_broker : ℕ → List ℕ → Broker
fresh_broker per_ledger url = record { per_ledger = per_ledger; service_url = url; names = []; doubtful = None; topics = [] }

-- the place of a topic's number, where there is one
abbrev pub place_in : List Topic → ℕ → Option ℕ
place_in topics number = cond (nat_lt number (length topics)) (Some number) None

-- where a session stands
abbrev pub place_of : List Client → ℕ → Option ℕ
place_of sessions who = position (λ s. nat_eq s.number who) sessions

abbrev pub is_full : State → Bool
is_full n = nat_le 256 (length n.sessions) || nat_le (2 ^ 62) n.used

-- a new session takes the next number
abbrev pub with_session : State → State
with_session n = record n { sessions = n.sessions ++ new_client n.used ∷ []; used = n.used + 1 }

-- what a session's fault makes of an event, and of the list of sessions
abbrev pub verdict_of : Option Fault → Verdict
verdict_of None = verdict.Done
verdict_of (Some why) = verdict.Ended why

abbrev pub settled : Option Fault → List Client → ℕ → List Client
settled None sessions place = sessions
settled (Some why) sessions place = remove sessions place

-- what a pump's end makes of an event
abbrev pub verdict_of_pump : Result More PumpFault → Verdict
verdict_of_pump (Ok more) = verdict.Done
verdict_of_pump (Err (Ended why)) = verdict.Ended why
verdict_of_pump (Err Device) = verdict.Refused refusal.Device
verdict_of_pump (Err (Damaged file offset)) = verdict.Refused (refusal.Damaged file offset)

-- what the end of a topic's opening makes of an event
abbrev pub verdict_for : {A : Type 0} → Result A Refusal → Verdict
verdict_for (Ok done) = verdict.Done
verdict_for (Err why) = verdict.Refused why

-- what the end of a flush, or of a part of one, makes of an event
abbrev pub verdict_of_flush : {A : Type 0} → Result A WriteError → Verdict
verdict_of_flush (Ok done) = verdict.Done
verdict_of_flush (Err why) = verdict.Refused (refusal_of why)

-- a flush whose batch was taken now, where there was one
abbrev pub stage_after : Result (Option Batch) WriteError → Stage → Stage
stage_after (Ok None) stage = stage
stage_after (Ok (Some batch)) stage = Taken
stage_after (Err why) stage = stage

-- A message is refused for a failure of the device only where the device failed since, or where it failed in writing the batch of a
-- flush of its topic that isn't finished. It is never refused for damage.
abbrev pub MayRefuseOf : Stage → ℕ → ℕ → ReadError → Type 0
MayRefuseOf stage before after read.NoMemory = Unit {0}
MayRefuseOf stage before after read.Device = (before < after) ⊎ (stage ≡ Written (Err write.Device))
MayRefuseOf stage before after (read.Damaged file offset) = ⊥

-- so the topic of this number, of these, refuses
abbrev pub MayRefuse : List Stage → ℕ → ℕ → ℕ → ReadError → Type 0
MayRefuse stages before after number why = MayRefuseOf (stage_in stages number) before after why
