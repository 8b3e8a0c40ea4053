-- The abstract broker as its sessions see it: topics by their numbers.
use Rattle.std.specs.Prelude.{◌≡◌, ◌<◌, ◌≤◌, ◌⊎◌, ℕ, Option, Some, None, List, [], ◌∷◌, ◌++◌, length, map, position, IfSome, slice_index_or, slice_set, Result, Ok, Err}
use Rattle.std.specs.Str.{bytes_eq}
use Rattle.commands.specs.declared.reply.Reply.{Reply}
use Rattle.commands.specs.declared.reply.Reply.TheVariants as reply
use Rattle.topic_core.specs.declared.command.TopicCommand.{TopicCommand}
use Rattle.topic_core.specs.declared.command.Answer.{Answer}
use Rattle.topic_core.specs.declared.dispatch.Outgoing.{Outgoing}
use Rattle.gated_log.specs.declared.read_error.ReadError.{ReadError}
use Rattle.permits.specs.declared.plain.TooManyPermits.{TooManyPermits}
use Rattle.topic_core.specs.State.{Topic, just_made}
use Rattle.reply_queues.specs.Replies.{due_to}
use Rattle.topic_core.specs.Steps.{TopicStep, GrantStep, key_of, collected, left}
use Rattle.topic_core.specs.Dispatch.{Admits, DispatchStep}
use Rattle.session.specs.declared.port.Found.{Found}
use Rattle.session.specs.declared.port.Found.TheVariants as found

pub record Broker : Type 0 where
  pub per_ledger : ℕ  -- how many entry ids a ledger id has
  pub service_url : List ℕ  -- where clients find the broker
  pub names : List (List ℕ)  -- the name of each topic, by its number
  pub doubtful : Option (List ℕ)  -- a name that is there or isn't: the device failed when its topic was made
  pub topics : List Topic

-- a topic that nothing happened to yet
abbrev pub fresh : ℕ → Topic
fresh per_ledger = just_made per_ledger

-- the topic of a number; one that isn't there is as a fresh one
abbrev pub topic_at : Broker → ℕ → Topic
topic_at b number = slice_index_or b.topics number (fresh b.per_ledger)

-- the broker with another topic of this number
abbrev pub with_topic : Broker → ℕ → Topic → Broker
with_topic b number topic = record b { topics = slice_set b.topics number topic }

-- the number of a name
abbrev pub number_of : Broker → List ℕ → Option ℕ
number_of b name = position (bytes_eq name) b.names

-- nothing is in doubt any more
abbrev pub sure : Broker → Broker
sure b = record b { doubtful = None }

-- whether this name is there is in doubt
abbrev pub doubting : Broker → List ℕ → Broker
doubting b name = record b { doubtful = Some name }

-- a fresh topic more, the last one
abbrev pub made : Broker → List ℕ → Broker
made b name = record b { names = b.names ++ name ∷ []; topics = b.topics ++ fresh b.per_ledger ∷ [] }

-- the name in doubt is settled: it is there, with a fresh topic, or it isn't
abbrev pub Settles : Option (List ℕ) → Broker → Broker → Type 0
Settles None old new = new ≡ old
Settles (Some name) old new = (new ≡ sure old) ⊎ (new ≡ made (sure old) name)

-- memory was refused, or the device failed
abbrev pub IsOutage : Found → Type 0
IsOutage (found.Topic number) = ⊥
IsOutage found.TooMany = ⊥
IsOutage found.NoMemory = Unit {0}
IsOutage found.Failed = Unit {0}

-- by the number that the name has, where no name is in doubt
abbrev pub FindIn : Option ℕ → Broker → List ℕ → Found → Broker → Type 0
FindIn there old name found.NoMemory new = new ≡ old
FindIn (Some number) old name (found.Topic n) new = (n ≡ number) × (new ≡ old)
FindIn (Some number) old name found.TooMany new = ⊥
FindIn (Some number) old name found.Failed new = ⊥
FindIn None old name (found.Topic n) new = (length old.topics < 64) × (n ≡ length old.topics) × (new ≡ made old name)
FindIn None old name found.TooMany new = (64 ≤ length old.topics) × (new ≡ old)
FindIn None old name found.Failed new = (length old.topics < 64) × ((new ≡ old) ⊎ (new ≡ doubting old name))

-- A search first settles the name in doubt, unless memory is refused or the device fails. A name that is there has its number;
-- another one gets the next number, unless sixty-four are there.
abbrev pub FindStep : Broker → List ℕ → Found → Broker → Type 0
FindStep old name result new = (IsOutage result × (new ≡ old)) ⊎ ((settled : Broker) × Settles old.doubtful old settled × FindIn (number_of settled name) settled name result new)

-- what a topic's number is, where one was found
abbrev pub IfFound : Found → (ℕ → Type 0) → Type 0
IfFound (found.Topic number) P = P number
IfFound found.TooMany P = Unit {0}
IfFound found.NoMemory P = Unit {0}
IfFound found.Failed P = Unit {0}

-- the cause of a search that failed
abbrev pub IfFailed : Found → Type 0 → Type 0
IfFailed (found.Topic number) P = Unit {0}
IfFailed found.TooMany P = Unit {0}
IfFailed found.NoMemory P = Unit {0}
IfFailed found.Failed P = P

-- a topic works a session's command; the other topics stay
pub record CommandStep (old : Broker) (number who : ℕ) (command : TopicCommand) (answer : Answer) (new : Broker) : Type 0 where
  pub step : TopicStep (topic_at old number) who command answer (topic_at new number)
  pub others : new ≡ with_topic old number (topic_at new number)

-- a topic counts the permits of a session's consumer; the rest stays
pub record GrantAt (old : Broker) (number who id permits : ℕ) (result : Result (Unit {0}) TooManyPermits) (new : Broker) : Type 0 where
  pub step : GrantStep (topic_at old number) who id permits result (topic_at new number)
  pub others : new ≡ with_topic old number (topic_at new number)

-- a topic sends a message to a session's consumer, or doesn't; the other topics stay
pub record DispatchAt (old : Broker) (number who id : ℕ) (result : Result (Option Outgoing) ReadError) (new : Broker) : Type 0 where
  pub step : DispatchStep (topic_at old number) who id result (topic_at new number)
  pub others : new ≡ with_topic old number (topic_at new number)

-- a topic admits no position for any consumer of a session
abbrev pub IsQuiet : Broker → ℕ → ℕ → Type 0
IsQuiet b number who = (id i : ℕ) → Admits (topic_at b number) (key_of who id) i → ⊥

-- it is a MESSAGE for this consumer
abbrev pub IsMessageFor : ℕ → Reply → Type 0
IsMessageFor consumer_id reply.Connected = ⊥
IsMessageFor consumer_id (reply.SendReceipt producer_id sequence_id id) = ⊥
IsMessageFor consumer_id (reply.SendError producer_id sequence_id error) = ⊥
IsMessageFor consumer_id (reply.Error request_id error) = ⊥
IsMessageFor consumer_id (reply.ProducerSuccess request_id name) = ⊥
IsMessageFor consumer_id reply.Pong = ⊥
IsMessageFor consumer_id (reply.Message other id redelivery_count) = other ≡ consumer_id
IsMessageFor consumer_id (reply.Success request_id) = ⊥
IsMessageFor consumer_id (reply.PartitionedMetadataResponse request_id error) = ⊥
IsMessageFor consumer_id (reply.LookupResponse request_id service_url) = ⊥
IsMessageFor consumer_id (reply.AckResponse other error request_id) = ⊥

-- whoever else uses the broker: a message is for the consumer, and its entry is no longer than any that is accepted
abbrev pub SendsTo : ℕ → Result (Option Outgoing) ReadError → Type 0
SendsTo consumer_id (Ok None) = Unit {0}
SendsTo consumer_id (Ok (Some outgoing)) = IsMessageFor consumer_id outgoing.reply × (length outgoing.entry ≤ 1048576)
SendsTo consumer_id (Err why) = Unit {0}

-- the replies that a topic has due to a session
abbrev pub due_at : Broker → ℕ → ℕ → List Reply
due_at b number who = due_to who (topic_at b number).queues

-- no topic from this number on, up to the next one where there is one, has something due to the session
abbrev pub PassesOver : Broker → ℕ → ℕ → Option ℕ → Type 0
PassesOver b who from next = (topic : ℕ) → from ≤ topic → IfSome next (λ n. topic < n) → due_at b topic who ≡ []

abbrev pub collected_at : Broker → ℕ → ℕ → Reply → Broker
collected_at b number who reply = with_topic b number (collected (topic_at b number) who reply)

-- the session takes the first reply that a topic has due to it; where there is none, nothing changes
abbrev pub CollectedAt : Broker → ℕ → ℕ → Option Reply → Broker → Type 0
CollectedAt old number who None new = (due_at old number who ≡ []) × (new ≡ old)
CollectedAt old number who (Some reply) new = (due_at old number who ≡ reply ∷ due_at new number who) × (new ≡ collected_at old number who reply)

abbrev pub left_at : Broker → ℕ → ℕ → Broker
left_at b number who = with_topic b number (left (topic_at b number) who)

-- the session leaves each topic
abbrev pub left_all : Broker → ℕ → Broker
left_all b who = record b { topics = map (λ t. left t who) b.topics }
