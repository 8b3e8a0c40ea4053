-- What each event does to the abstract node.
use Rattle.std.specs.Prelude.{◌≡◌, ◌≢◌, ◌⊎◌, ◌<◌, ◌≤◌, ℕ, Option, Some, None, is_some, Result, Err, Bool, true, false, List, [], length, slice_get, slice_set, remove}
use Rattle.gated_log.specs.declared.refusal.Refusal.{Refusal}
use Rattle.gated_log.specs.declared.refusal.Refusal.TheVariants as refusal
use Rattle.topic_stores.specs.declared.batch.Batch.{Batch}
use Rattle.topic_stores.specs.declared.error.WriteError.{WriteError}
use Rattle.topic_stores.specs.declared.error.WriteError.TheVariants.{Device}
use Rattle.topic_core.specs.State.{Topic}
use Rattle.topic_core.specs.Flush as topics
use Rattle.topic_core.specs.Crashes as topics_again
use Rattle.session.specs.declared.fault.Fault.{Fault}
use Rattle.session.specs.declared.pumping.More.{More}
use Rattle.session.specs.declared.pumping.PumpFault.{PumpFault}
use Rattle.session.specs.Broker.{Broker, topic_at, with_topic, left_all}
use Rattle.session.specs.Client.{Client, Play, play}
use Rattle.session.specs.Working.{FeedStep, AreAskedIn}
use Rattle.session.specs.Pumping as pumping
use Rattle.node.specs.State.{State, MayRefuse, Stage, Resting, Taken, Written, stage_at, place_in, place_of, is_full, with_session, verdict_of, verdict_of_pump, verdict_for, verdict_of_flush, stage_after, settled}
use Rattle.node.specs.Naming.{Gains}
use Rattle.node.specs.declared.event.Event.{Event}
use Rattle.node.specs.declared.event.Event.TheVariants.{Open, Bytes, Pump, Close, OnTopic}
use Rattle.node.specs.declared.event.TopicEvent.{TopicEvent}
use Rattle.node.specs.declared.event.TopicEvent.TheVariants.{Flush, Take, Write, Finish, Reopen}
use Rattle.node.specs.declared.event.Verdict.{Verdict}
use Rattle.node.specs.declared.event.Verdict.TheVariants as verdict
use Rattle.node.specs.declared.event.Output.{Output}

-- an answer without bytes, and nothing changes
abbrev pub Only : Verdict → State → Output → State → Type 0
Only answer old output new = (output ≡ record { bytes = []; result = answer }) × (new ≡ old)

-- an answer without bytes, and the node becomes this one
abbrev pub Becomes : Output → State → State → Type 0
Becomes output new next = (output ≡ record { bytes = []; result = verdict.Done }) × (new ≡ next)

-- a session opens, or memory was refused
abbrev pub OpensAs : Verdict → State → Output → State → Type 0
OpensAs verdict.Done old output new = Becomes output new (with_session old)
OpensAs (verdict.Refused why) old output new = Only (verdict.Refused refusal.NoMemory) old output new
OpensAs verdict.Full old output new = ⊥
OpensAs verdict.Unknown old output new = ⊥
OpensAs (verdict.Ended why) old output new = ⊥

-- by whether the node is full
abbrev pub OpenStep : Bool → State → Output → State → Type 0
OpenStep true old output new = Only verdict.Full old output new
OpenStep false old output new = OpensAs output.result old output new

-- What a session wrote goes out; one that ended is open no more. The device may have failed in between.
pub record Settles (old : State) (place : ℕ) (played : Play) (result : Verdict) (output : Output) (new : State) : Type 0 where
  pub answer : output ≡ record { bytes = played.out; result = result }
  pub broker : new.broker ≡ played.broker
  pub stages : (number : ℕ) → stage_at new number ≡ stage_at old number
  pub sessions : new.sessions ≡ settled played.client.fault (slice_set old.sessions place played.client) place
  pub used : new.used ≡ old.used
  pub faults : old.faults ≤ new.faults

-- bytes come to an open session; a search of a topic fails only where the device did
pub record Feeds (old : State) (place : ℕ) (bytes : List ℕ) (output : Output) (new : State) : Type 0 where
  pub client : Client
  pub stands : slice_get old.sessions place ≡ Some client
  pub result : Result (Unit {0}) Fault
  pub played : Play
  pub step : FeedStep (old.faults < new.faults) (play client old.broker []) bytes result played
  pub settles : Settles old place played (verdict_of played.client.fault) output new

-- an open session collects, and gets messages, of which one is refused only for a cause
pub record Pumps (old : State) (place : ℕ) (output : Output) (new : State) : Type 0 where
  pub client : Client
  pub stands : slice_get old.sessions place ≡ Some client
  pub result : Result More PumpFault
  pub played : Play
  pub step : pumping.PumpStep (MayRefuse old.stages old.faults new.faults) (play client old.broker []) result played
  pub settles : Settles old place played (verdict_of_pump result) output new

-- an open session leaves each topic
pub record Closes (old : State) (place : ℕ) (output : Output) (new : State) : Type 0 where
  pub client : Client
  pub stands : slice_get old.sessions place ≡ Some client
  pub answer : output ≡ record { bytes = []; result = verdict.Done }
  pub broker : new.broker ≡ left_all old.broker client.number
  pub stages : (number : ℕ) → stage_at new number ≡ stage_at old number
  pub sessions : new.sessions ≡ remove old.sessions place
  pub used : new.used ≡ old.used
  pub faults : old.faults ≤ new.faults

-- a topic of a node, how far its flush is that comes in parts, and how often the device has failed
pub record Spot : Type 0 where
  pub topic : Topic
  pub stage : Stage
  pub faults : ℕ

abbrev pub spot_at : State → ℕ → Spot
spot_at s number = record { topic = topic_at s.broker number; stage = stage_at s number; faults = s.faults }

-- it is flushed; a failure of one that worked is told only where the device failed
pub record FlushesAt (old : Spot) (told : Verdict) (new : Spot) : Type 0 where
  pub result : Result ℕ WriteError
  pub step : topics.FlushStep old.topic result new.topic
  pub ends : told ≡ verdict_of_flush result
  pub stage : new.stage ≡ old.stage
  pub cause : old.topic.failed ≡ false → result ≡ Err Device → old.faults < new.faults

-- a flush in parts begins: a batch is taken of all that waits, where there is something and no flush is under way
pub record TakesAt (old : Spot) (told : Verdict) (new : Spot) : Type 0 where
  pub result : Result (Option Batch) WriteError
  pub step : topics.TakeStep old.topic result new.topic
  pub ends : told ≡ verdict_of_flush result
  pub stage : new.stage ≡ stage_after result old.stage

-- the batch that is taken is written, which changes nothing of the topic; a failure is told only where the device failed
pub record WritesAt (old : Spot) (told : Verdict) (new : Spot) : Type 0 where
  pub was : old.stage ≡ Taken
  pub result : Result ℕ WriteError
  pub same : new.topic ≡ old.topic
  pub ends : told ≡ verdict_of_flush result
  pub stage : new.stage ≡ Written result
  pub cause : result ≡ Err Device → old.faults < new.faults

-- a flush in parts whose batch was written ends as that write did, of a topic that has handed on the batch
pub record FinishesAt (old : Spot) (told : Verdict) (new : Spot) : Type 0 where
  pub written : Result ℕ WriteError
  pub was : old.stage ≡ Written written
  pub handed_on : is_some old.topic.doubt ≡ true
  pub result : Result ℕ WriteError
  pub step : topics.FinishStep old.topic written result new.topic
  pub ends : told ≡ verdict_of_flush result
  pub stage : new.stage ≡ Resting

-- where it had failed it is opened again; a failure is told only where the device failed
pub record ReopensAt (old : Spot) (told : Verdict) (new : Spot) : Type 0 where
  pub result : Result (Unit {0}) Refusal
  pub step : topics_again.ReopenStep old.topic result new.topic
  pub ends : told ≡ verdict_for result
  pub stage : new.stage ≡ old.stage
  pub cause : result ≡ Err refusal.Device → old.faults < new.faults

abbrev pub WorksAt : TopicEvent → Spot → Verdict → Spot → Type 0
WorksAt Flush old told new = FlushesAt old told new
WorksAt Take old told new = TakesAt old told new
WorksAt Write old told new = WritesAt old told new
WorksAt Finish old told new = FinishesAt old told new
WorksAt Reopen old told new = ReopensAt old told new

-- there is nothing to work: only a batch that is taken and not written is written, and only one that is written is finished
abbrev pub IsIdle : TopicEvent → Stage → Type 0
IsIdle Flush stage = ⊥
IsIdle Take stage = ⊥
IsIdle Write stage = stage ≢ Taken
IsIdle Finish stage = (written : Result ℕ WriteError) → stage ≢ Written written
IsIdle Reopen stage = ⊥

-- an event is worked, or it is unknown, and nothing changes
abbrev pub HeldStep : TopicEvent → Spot → Verdict → Spot → Type 0
HeldStep event old told new = WorksAt event old told new ⊎ (IsIdle event old.stage × (told ≡ verdict.Unknown) × (new ≡ old))

-- one topic becomes another, its flush is at this stage, the others stay, and the device may have failed in between
pub record Moves (old : State) (topic : ℕ) (next : Topic) (reached : Stage) (new : State) : Type 0 where
  pub broker : new.broker ≡ with_topic old.broker topic next
  pub stage : stage_at new topic ≡ reached
  pub others : (other : ℕ) → other ≢ topic → stage_at new other ≡ stage_at old other
  pub sessions : new.sessions ≡ old.sessions
  pub used : new.used ≡ old.used
  pub faults : old.faults ≤ new.faults

-- one topic works an event, an answer without bytes tells how, and the others stay
pub record WorksOn (event : TopicEvent) (old : State) (topic : ℕ) (output : Output) (new : State) : Type 0 where
  pub told : Verdict
  pub answer : output ≡ record { bytes = []; result = told }
  pub next : Topic
  pub reached : Stage
  pub moves : Moves old topic next reached new
  pub step : WorksAt event (spot_at old topic) told (record { topic = next; stage = reached; faults = new.faults })

abbrev pub Flushes : State → ℕ → Output → State → Type 0
Flushes old topic output new = WorksOn Flush old topic output new

abbrev pub Reopens : State → ℕ → Output → State → Type 0
Reopens old topic output new = WorksOn Reopen old topic output new

abbrev pub BytesStep : Option ℕ → State → List ℕ → Output → State → Type 0
BytesStep None old bytes output new = Only verdict.Unknown old output new
BytesStep (Some place) old bytes output new = Feeds old place bytes output new

abbrev pub PumpStep : Option ℕ → State → Output → State → Type 0
PumpStep None old output new = Only verdict.Unknown old output new
PumpStep (Some place) old output new = Pumps old place output new

abbrev pub CloseStep : Option ℕ → State → Output → State → Type 0
CloseStep None old output new = Only verdict.Unknown old output new
CloseStep (Some place) old output new = Closes old place output new

-- where there is nothing to work nothing changes
abbrev pub WorkStep : TopicEvent → Option ℕ → State → Output → State → Type 0
WorkStep event None old output new = Only verdict.Unknown old output new
WorkStep event (Some topic) old output new = ((topic < length old.broker.topics) × WorksOn event old topic output new) ⊎ (IsIdle event (stage_at old topic) × Only verdict.Unknown old output new)

-- one event
abbrev pub BrokerStep : State → Event → Output → State → Type 0
BrokerStep old Open output new = OpenStep (is_full old) old output new
BrokerStep old (Bytes who bytes) output new = BytesStep (place_of old.sessions who) old bytes output new
BrokerStep old (Pump who) output new = PumpStep (place_of old.sessions who) old output new
BrokerStep old (Close who) output new = CloseStep (place_of old.sessions who) old output new
BrokerStep old (OnTopic topic event) output new = WorkStep event (place_in old.broker.topics topic) old output new

-- A topic while a flush of it goes on: all that waits is in doubt, where the flush has something to do, and the ledger may be trimmed
-- up to this position. One that has failed isn't written.
abbrev pub flushing : Bool → Bool → Topic → ℕ → Topic
flushing true nothing t limit = t
flushing false true t limit = t
flushing false false t limit = topics.handed_on t limit

abbrev pub in_flush : Topic → ℕ → Topic
in_flush t limit = flushing t.failed (topics.has_no_flush t) t limit

-- a topic while an event of it goes on
abbrev pub amid_work : TopicEvent → Topic → ℕ → Topic
amid_work Flush t limit = in_flush t limit
amid_work Take t limit = t
amid_work Write t limit = t
amid_work Finish t limit = t
amid_work Reopen t limit = t

-- these names are asked for by these bytes of this session, where it is one of these; else they are none
abbrev pub AreAskedBy : List Client → ℕ → List ℕ → List (List ℕ) → Type 0
AreAskedBy sessions who bytes names =
    (names ≡ []) ⊎ ((place : ℕ) × (client : Client) × (place_of sessions who ≡ Some place) × (slice_get sessions place ≡ Some client) × AreAskedIn client bytes names)

-- bytes make a session search for such names, and this holds of them
pub record SearchesBy (sessions : List Client) (who : ℕ) (bytes : List ℕ) (P : List (List ℕ) → Type 0) : Type 0 where
  pub names : List (List ℕ)
  pub asked : AreAskedBy sessions who bytes names
  pub holds : P names

-- A broker while an event goes on: bytes may make topics of the names that they ask for, and in a flush all that waits is in doubt, and
-- what nobody needs may be trimmed.
abbrev pub Amid : List Client → Broker → Event → Broker → Type 0
Amid sessions old Open new = new ≡ old
Amid sessions old (Bytes who bytes) new = SearchesBy sessions who bytes (λ names. Gains names old new)
Amid sessions old (Pump who) new = new ≡ old
Amid sessions old (Close who) new = new ≡ old
Amid sessions old (OnTopic topic event) new = (limit : ℕ) × topics.IsTrimPoint (topic_at old topic) limit × (new ≡ with_topic old topic (amid_work event (topic_at old topic) limit))
