-- PRODUCER, SEND and CLOSE_PRODUCER, as a session works them.
use Rattle.std.specs.Prelude.{◌⊎◌, ℕ, Bool, true, false, not, nat_eq, nat_lt, nat_le, Option, Some, None, List, [], ◌∷◌, ◌++◌, length, filter, codes, if◌then◌else◌}
use Rattle.std.specs.Fmt.{decimal}
use Rattle.commands.specs.declared.producing.Producer.{Producer}
use Rattle.commands.specs.declared.producing.Send.{Send}
use Rattle.commands.specs.declared.producing.CloseProducer.{CloseProducer}
use Rattle.commands.specs.declared.reply.Reply.TheVariants as reply
use Rattle.commands.specs.declared.server_error.ServerError.{ServerError}
use Rattle.commands.specs.declared.server_error.ServerError.TheVariants.{PersistenceError, TooManyRequests, InvalidTopicName, NotAllowedError}
use Rattle.frames.specs.declared.frame.FrameEntry.{FrameEntry}
use Rattle.frames.specs.declared.plain_entry.PlainEntry.{PlainEntry as FramePlain}
use Rattle.frames.specs.declared.frame.FrameEntry.TheVariants as behind
use Rattle.names.specs.Names.{is_topic_name}
use Rattle.topic_core.specs.declared.command.TopicCommand.{TopicCommand}
use Rattle.topic_core.specs.declared.command.TopicCommand.TheVariants as topic_command
use Rattle.topic_core.specs.declared.command.SentEntry.{SentEntry}
use Rattle.topic_core.specs.declared.command.PlainEntry.{PlainEntry}
use Rattle.topic_core.specs.declared.command.SentEntry.TheVariants as sent
use Rattle.topic_core.specs.declared.command.Answer.{Answer}
use Rattle.topic_core.specs.declared.command.Answer.TheVariants.{Now, Later, Nothing, NoMemory}
use Rattle.topic_core.specs.Steps.{has_producer, first_standing}
use Rattle.session.specs.Broker.{Broker, topic_at, FindStep, CommandStep}
use Rattle.session.specs.Client.{Client, Play, Ends, SaysAlone, Answered}
use Rattle.session.specs.Table.{has_entry, topic_of}
use Rattle.session.specs.declared.entry.Entry.{Entry}
use Rattle.session.specs.declared.fault.Fault.TheVariants as fault
use Rattle.session.specs.declared.port.Found.{Found}
use Rattle.session.specs.declared.port.Found.TheVariants as found

-- the session still has this producer on its topic, open or closing
abbrev pub is_live : Broker → ℕ → Entry → Bool
is_live b who entry = has_producer (topic_at b entry.topic) who entry.id

-- the session knows no more of the producers that it doesn't have
abbrev pub with_live_producers : Play → Play
with_live_producers p = record p { client = record p.client { producers = filter (is_live p.broker p.client.number) p.client.producers } }

-- how long a name is that was given
abbrev pub given_len : Option (List ℕ) → ℕ
given_len None = 0
given_len (Some name) = length name

-- PRODUCER: what the session refuses by itself, in order
abbrev pub own_refusals : List Entry → Producer → List (Bool × ServerError)
own_refusals producers asked =
    (has_entry producers asked.producer_id, NotAllowedError)
    ∷ (nat_le 64 (length producers), TooManyRequests)
    ∷ (not (is_topic_name asked.topic), InvalidTopicName)
    ∷ (nat_lt 255 (given_len asked.producer_name), NotAllowedError)
    ∷ []

-- the name that session S gives its producer P: sS-pP
abbrev pub own_name : ℕ → ℕ → List ℕ
own_name who id = codes "s" ++ decimal who ++ (codes "-p" ++ decimal id)

-- the name that a producer gets: its own, or the session's where it gave none or an empty one
abbrev pub name_for : ℕ → ℕ → Option (List ℕ) → List ℕ
name_for who id None = own_name who id
name_for who id (Some name) = if nat_eq (length name) 0 then own_name who id else name

-- what the session asks of the topic
abbrev pub producer_command : ℕ → Producer → TopicCommand
producer_command who asked = topic_command.Producer asked.producer_id asked.request_id (name_for who asked.producer_id asked.producer_name)

abbrev pub is_success : Answer → Bool
is_success (Now reply.Connected) = false
is_success (Now (reply.SendReceipt producer_id sequence_id id)) = false
is_success (Now (reply.SendError producer_id sequence_id error)) = false
is_success (Now (reply.Error request_id error)) = false
is_success (Now (reply.ProducerSuccess request_id name)) = true
is_success (Now reply.Pong) = false
is_success (Now (reply.Message consumer_id id count)) = false
is_success (Now (reply.Success request_id)) = false
is_success (Now (reply.PartitionedMetadataResponse request_id error)) = false
is_success (Now (reply.LookupResponse request_id service_url)) = false
is_success (Now (reply.AckResponse consumer_id error request_id)) = false
is_success Later = false
is_success Nothing = false
is_success NoMemory = false

-- the producers, and one more where it was accepted
abbrev pub with_entry : List Entry → Bool → ℕ → ℕ → List Entry
with_entry producers false id topic = producers
with_entry producers true id topic = producers ++ record { id = id; topic = topic } ∷ []

abbrev pub with_producer : Client → Bool → ℕ → ℕ → Client
with_producer c accepted id topic = record c { producers = with_entry c.producers accepted id topic }

-- the topic works PRODUCER; the session keeps the producer if it was accepted, and hands on the answer
pub record Opens (old : Play) (topic : ℕ) (asked : Producer) (new : Play) : Type 0 where
  pub answer : Answer
  pub step : CommandStep old.broker topic old.client.number (producer_command old.client.number asked) answer new.broker
  pub answered : Answered (with_producer old.client (is_success answer) asked.producer_id topic) old.out answer new.client new.out

-- once its topic was looked for; want of memory may end the session before the topic works anything, and a search fails only where the device did
abbrev pub FoundStep : Type 0 → Play → Producer → Found → Play → Type 0
FoundStep Fails old asked (found.Topic number) new = Opens old number asked new ⊎ Ends old fault.NoMemory new
FoundStep Fails old asked found.TooMany new = SaysAlone old (reply.Error asked.request_id TooManyRequests) new
FoundStep Fails old asked found.NoMemory new = Ends old fault.NoMemory new
FoundStep Fails old asked found.Failed new = Fails × SaysAlone old (reply.Error asked.request_id PersistenceError) new

-- the topic is found, or made, and asked; want of memory may also end the session before it is looked for, as in a search
pub record Finds (Fails : Type 0) (old : Play) (asked : Producer) (new : Play) : Type 0 where
  pub found : Found
  pub between : Broker
  pub finds : FindStep old.broker asked.topic found between
  pub asks : FoundStep Fails (record old { broker = between }) asked found new

abbrev pub ProducerIn : Type 0 → Option ServerError → Play → Producer → Play → Type 0
ProducerIn Fails (Some error) old asked new = SaysAlone old (reply.Error asked.request_id error) new
ProducerIn Fails None old asked new = Finds Fails old asked new

-- PRODUCER of a session that knows just the producers that it has
abbrev pub ProducerOf : Type 0 → Play → Producer → Play → Type 0
ProducerOf Fails old asked new = ProducerIn Fails (first_standing (own_refusals old.client.producers asked)) old asked new

abbrev pub ProducerStep : Type 0 → Play → Producer → Play → Type 0
ProducerStep Fails old asked new = ProducerOf Fails (with_live_producers old) asked new

-- a readable entry, as a topic takes it
abbrev pub plain_entry : FramePlain → PlainEntry
plain_entry entry = record { bytes = entry.bytes; metadata = entry.metadata; readable = entry.readable }

-- what a SEND hands to the topic
abbrev pub sent_entry : FrameEntry → Option SentEntry
sent_entry behind.Nothing = None
sent_entry behind.Checksummed = Some sent.Checksummed
sent_entry (behind.Entry entry) = Some (sent.Plain (plain_entry entry))

abbrev pub send_command : Send → SentEntry → TopicCommand
send_command asked entry = topic_command.Send (record { producer_id = asked.producer_id; sequence_id = asked.sequence_id; entry = entry })

-- the topic works a command, and its answer goes out
pub record Asks (old : Play) (topic : ℕ) (command : TopicCommand) (new : Play) : Type 0 where
  pub answer : Answer
  pub step : CommandStep old.broker topic old.client.number command answer new.broker
  pub answered : Answered old.client old.out answer new.client new.out

abbrev pub SendIn : Option ℕ → Option SentEntry → Play → Send → Play → Type 0
SendIn topic None old asked new = Ends old fault.BadPayload new
SendIn None (Some entry) old asked new = SaysAlone old (reply.SendError asked.producer_id asked.sequence_id NotAllowedError) new
SendIn (Some topic) (Some entry) old asked new = Asks old topic (send_command asked entry) new

-- SEND: a session without this producer refuses it; else the topic works it
abbrev pub SendStep : Play → Send → FrameEntry → Play → Type 0
SendStep old asked entry new = SendIn (topic_of old.client.producers asked.producer_id) (sent_entry entry) old asked new

-- what a CLOSE_PRODUCER hands to the topic
abbrev pub close_command : CloseProducer → TopicCommand
close_command asked = topic_command.CloseProducer asked

abbrev pub CloseIn : Option ℕ → Play → CloseProducer → Play → Type 0
CloseIn None old asked new = SaysAlone old (reply.Error asked.request_id NotAllowedError) new
CloseIn (Some topic) old asked new = Asks old topic (close_command asked) new

-- CLOSE_PRODUCER: a session without this producer refuses it; else the topic works it, and frees the id once it is closed
abbrev pub CloseStep : Play → CloseProducer → Play → Type 0
CloseStep old asked new = CloseIn (topic_of old.client.producers asked.producer_id) old asked new
