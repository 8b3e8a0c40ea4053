-- What a session collects, and the messages that it gets.
use Rattle.std.specs.Prelude.{◌≡◌, ◌⊎◌, ◌<◌, ◌≤◌, ◌-◌, ◌+◌, ◌||◌, ℕ, zero, suc, Bool, true, false, nat_eq, nat_lt, Option, Some, None, List, [], ◌∷◌, ◌++◌, Result, Ok, Err, if◌then◌else◌}
use Rattle.commands.specs.declared.reply.Reply.{Reply}
use Rattle.gated_log.specs.declared.read_error.ReadError.{ReadError}
use Rattle.gated_log.specs.declared.read_error.ReadError.TheVariants as read
use Rattle.topic_core.specs.declared.dispatch.Outgoing.{Outgoing}
use Rattle.topic_core.specs.Steps.{key_of}
use Rattle.topic_core.specs.Dispatch.{Admits}
use Rattle.session.specs.Broker.{topic_at, due_at, CollectedAt, DispatchAt}
use Rattle.session.specs.Client.{Client, Play, plain, Says, Ends, left_if_ended}
use Rattle.session.specs.declared.entry.Entry.{Entry}
use Rattle.session.specs.declared.fault.Fault.{Fault}
use Rattle.session.specs.declared.fault.Fault.TheVariants as fault
use Rattle.session.specs.declared.pumping.More.{More}
use Rattle.session.specs.declared.pumping.More.TheVariants.{Yes, No}
use Rattle.session.specs.declared.pumping.PumpFault.{PumpFault}
use Rattle.session.specs.declared.pumping.PumpFault.TheVariants.{Ended, Device, Damaged}

-- a session that hasn't ended takes the first reply that a topic has due to it, which goes out or finds no memory
pub record CollectsFrom (topic : ℕ) (old new : Play) : Type 0 where
  pub goes_on : old.client.fault ≡ None
  pub reply : Reply
  pub takes : CollectedAt old.broker topic old.client.number (Some reply) new.broker
  pub says : Says old.client old.out (plain reply) new.client new.out

-- a topic has nothing due to the session, and nothing changes
pub record CollectsNothing (topic : ℕ) (old new : Play) : Type 0 where
  pub none : due_at old.broker topic old.client.number ≡ []
  pub same : new ≡ old

-- so many replies of one topic
abbrev pub CollectsAt : ℕ → ℕ → Play → Play → Type 0
CollectsAt topic zero old new = new ≡ old
CollectsAt topic (suc count) old new = (between : Play) × CollectsAt topic count old between × CollectsFrom topic between new

-- so many replies, each from some topic
abbrev pub Collects : ℕ → Play → Play → Type 0
Collects zero old new = new ≡ old
Collects (suc count) old new = (between : Play) × Collects count old between × (topic : ℕ) × CollectsFrom topic between new

-- no topic has a reply due to the session
abbrev pub HasNothingDue : Play → Type 0
HasNothingDue p = (topic : ℕ) → due_at p.broker topic p.client.number ≡ []

-- a message for the consumer of a session that hasn't ended goes out, or finds no memory; it then counts as sent
pub record SendsOne (consumer : Entry) (old new : Play) : Type 0 where
  pub goes_on : old.client.fault ≡ None
  pub message : Outgoing
  pub takes : DispatchAt old.broker consumer.topic old.client.number consumer.id (Ok (Some message)) new.broker
  pub says : Says old.client old.out message new.client new.out

-- so many messages for one consumer
abbrev pub Sends : Entry → ℕ → Play → Play → Type 0
Sends consumer zero old new = new ≡ old
Sends consumer (suc count) old new = (between : Play) × Sends consumer count old between × SendsOne consumer between new

-- the consumer's topic admits no position for it
abbrev pub AdmitsNothing : Entry → Play → Type 0
AdmitsNothing consumer p = (i : ℕ) → Admits (topic_at p.broker consumer.topic) (key_of p.client.number consumer.id) i → ⊥

-- a fault of the session comes first
abbrev pub pump_result : Option Fault → ℕ → Result ℕ PumpFault → Result More PumpFault
pump_result None replies (Ok messages) = Ok (if nat_eq replies 65536 || nat_eq messages 64 then Yes else No)
pump_result None replies (Err why) = Err why
pump_result (Some why) replies messages = Err (Ended why)

-- why a pump ended the session, or found it ended
abbrev pub ended_by : PumpFault → Option Fault
ended_by (Ended why) = Some why
ended_by Device = None
ended_by (Damaged file offset) = None

abbrev pub pumped_fault : Result More PumpFault → Option Fault
pumped_fault (Ok more) = None
pumped_fault (Err why) = ended_by why

-- a session behind a pump that answered so
abbrev pub pumped : Client → Result More PumpFault → Client
pumped c result = record c { fault = pumped_fault result }

-- a pump that stops for a device that fails, or for damage, was refused a message so
abbrev pub IsTold : (ReadError → Type 0) → PumpFault → Type 0
IsTold Refused (Ended why) = Unit {0}
IsTold Refused Device = Refused read.Device
IsTold Refused (Damaged file offset) = Refused (read.Damaged file offset)

-- a session collects until nothing is due, or its 65,536th reply, or until it ends, and then leaves each topic
pub record CollectsDue (old : Play) (replies : ℕ) (new : Play) : Type 0 where
  pub collected : Play
  pub collects : Collects replies old collected
  pub most : replies ≤ 65536
  pub all : collected.client.fault ≡ None → replies < 65536 → HasNothingDue collected
  pub ends : new ≡ left_if_ended collected

abbrev pub CollectIn : Option Fault → Play → ℕ → Play → Type 0
CollectIn None old replies new = CollectsDue old replies new
CollectIn (Some why) old replies new = (replies ≡ 0) × (new ≡ old)

-- the first part of a pump, which is all that it collects; a session that ended collects nothing
abbrev pub CollectStep : Play → ℕ → Play → Type 0
CollectStep old replies new = CollectIn old.client.fault old replies new

-- which refusals of a message of each topic, by its number, the broker answered
module _ (Refused : ℕ → ReadError → Type 0) where
  -- the broker refuses a message of a topic for want of memory, which ends a session that hasn't ended
  pub record FindsNoMemory (topic : ℕ) (old new : Play) : Type 0 where
    pub goes_on : old.client.fault ≡ None
    pub refused : Refused topic read.NoMemory
    pub ends : Ends old fault.NoMemory new

  -- there is no message for the consumer: nothing is admitted, or the broker refuses one for want of memory
  abbrev pub SendsNothing : Entry → Play → Play → Type 0
  SendsNothing consumer old new = (AdmitsNothing consumer old × (new ≡ old)) ⊎ FindsNoMemory consumer.topic old new

  -- one consumer gets messages until nothing is admitted, up to a bound, or until the session ends
  pub record Serves (consumer : Entry) (most count : ℕ) (old new : Play) : Type 0 where
    pub sent : Play
    pub sends : Sends consumer count old sent
    pub within : count ≤ most
    pub stops : (new ≡ sent) ⊎ FindsNoMemory consumer.topic sent new
    pub all : new.client.fault ≡ None → count < most → AdmitsNothing consumer new

  -- one consumer after another, with so many messages together at most
  abbrev pub ServesEach : List Entry → ℕ → ℕ → Play → Play → Type 0
  ServesEach [] most count old new = (count ≡ 0) × (new ≡ old)
  ServesEach (consumer ∷ consumers) most count old new =
      (first : ℕ) × (rest : ℕ) × (between : Play) × Serves consumer most first old between × ServesEach consumers (most - first) rest between new × (count ≡ first + rest)

  -- one consumer gets messages until the broker refuses one of its topic, since the device failed in reading it; that changes nothing,
  -- and no file is ever damaged
  pub record ServesUntil (consumer : Entry) (most : ℕ) (why : PumpFault) (old new : Play) : Type 0 where
    pub count : ℕ
    pub sends : Sends consumer count old new
    pub within : count < most
    pub goes_on : new.client.fault ≡ None
    pub device : why ≡ Device
    pub refused : Refused consumer.topic read.Device

  -- one consumer gets so many messages, or messages until the device fails
  abbrev pub ServesOne : Entry → ℕ → Result ℕ PumpFault → Play → Play → Type 0
  ServesOne consumer most (Ok count) old new = Serves consumer most count old new
  ServesOne consumer most (Err why) old new = ServesUntil consumer most why old new

  -- one consumer after another is served, until the device fails for one of them
  pub record ServesEachUntil (consumers : List Entry) (most : ℕ) (why : PumpFault) (old new : Play) : Type 0 where
    pub before : List Entry
    pub consumer : Entry
    pub behind : List Entry
    pub are : consumers ≡ before ++ consumer ∷ behind
    pub count : ℕ
    pub between : Play
    pub served : ServesEach before most count old between
    pub until : ServesUntil consumer (most - count) why between new

  abbrev pub ServesAll : List Entry → ℕ → Result ℕ PumpFault → Play → Play → Type 0
  ServesAll consumers most (Ok count) old new = ServesEach consumers most count old new
  ServesAll consumers most (Err why) old new = ServesEachUntil consumers most why old new

  -- a pump that may go on serves the session's consumers, in rising id
  abbrev pub ServesIf : Bool → Result ℕ PumpFault → Play → Play → Type 0
  ServesIf true result old new = ServesAll old.client.consumers 64 result old new
  ServesIf false result old new = (result ≡ Ok 0) × (new ≡ old)

  -- so it serves these
  abbrev pub ServesThese : Bool → List Entry → Result ℕ PumpFault → Play → Play → Type 0
  ServesThese true consumers result old new = ServesAll consumers 64 result old new
  ServesThese false consumers result old new = (result ≡ Ok 0) × (new ≡ old)

  -- a pump collects until nothing is due, or its 65,536th reply; in the first case it then sends messages until nothing is
  -- admitted, its 64th message, or a failure of the device. It stops where the session ends, which then leaves each topic
  pub record Pumps (old : Play) (result : Result More PumpFault) (new : Play) : Type 0 where
    pub replies : ℕ
    pub collected : Play
    pub collects : Collects replies old collected
    pub most : replies ≤ 65536
    pub all : collected.client.fault ≡ None → replies < 65536 → HasNothingDue collected
    pub messages : Result ℕ PumpFault
    pub served : Play
    pub serves : ServesIf (nat_lt replies 65536) messages collected served
    pub ends : new ≡ left_if_ended served
    pub result_is : result ≡ pump_result served.client.fault replies messages

  abbrev pub PumpIn : Option Fault → Play → Result More PumpFault → Play → Type 0
  PumpIn None old result new = Pumps old result new
  PumpIn (Some why) old result new = (result ≡ Err (Ended why)) × (new ≡ old)

  -- a session that ended collects nothing
  abbrev pub PumpStep : Play → Result More PumpFault → Play → Type 0
  PumpStep old result new = PumpIn old.client.fault old result new

  -- behind so many replies a session is sent messages, where no reply may be left: until nothing is admitted, its 64th message, or a
  -- failure of the device. It stops where the session ends, which then leaves each topic
  pub record ServesBehind (old : Play) (replies : ℕ) (result : Result More PumpFault) (new : Play) : Type 0 where
    pub messages : Result ℕ PumpFault
    pub served : Play
    pub serves : ServesIf (nat_lt replies 65536) messages old served
    pub ends : new ≡ left_if_ended served
    pub result_is : result ≡ pump_result served.client.fault replies messages

  abbrev pub ServeIn : Option Fault → Play → ℕ → Result More PumpFault → Play → Type 0
  ServeIn None old replies result new = ServesBehind old replies result new
  ServeIn (Some why) old replies result new = (result ≡ Err (Ended why)) × (new ≡ old)

  -- the second part of a pump, behind so many replies, which is all that it sends; a session that ended is sent nothing
  abbrev pub ServeStep : Play → ℕ → Result More PumpFault → Play → Type 0
  ServeStep old replies result new = ServeIn old.client.fault old replies result new
