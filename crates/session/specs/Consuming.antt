-- SUBSCRIBE, FLOW, ACK and UNSUBSCRIBE, as a session works them.
use Rattle.std.specs.Prelude.{◌≡◌, ◌⊎◌, ℕ, Bool, true, false, not, ◌||◌, is_some, nat_lt, nat_le, Option, Some, None, Result, Ok, Err, List, ◌∷◌, [], length, filter}
use Rattle.std.specs.List.{insert, position_or_len}
use Rattle.commands.specs.declared.consuming.Subscribe.{Subscribe}
use Rattle.commands.specs.declared.consuming.Ack.{Ack}
use Rattle.commands.specs.declared.consuming.Flow.{Flow}
use Rattle.commands.specs.declared.consuming.Unsubscribe.{Unsubscribe}
use Rattle.commands.specs.declared.consuming.SubscriptionType.{SubscriptionType}
use Rattle.commands.specs.declared.consuming.SubscriptionType.TheVariants as type
use Rattle.commands.specs.declared.reply.Reply.TheVariants as reply
use Rattle.commands.specs.declared.server_error.ServerError.{ServerError}
use Rattle.commands.specs.declared.server_error.ServerError.TheVariants.{PersistenceError, TooManyRequests, InvalidTopicName, NotAllowedError, ConsumerNotFound}
use Rattle.subscriptions.specs.declared.consumer.Mode.{Mode}
use Rattle.subscriptions.specs.declared.consumer.Mode.TheVariants as mode
use Rattle.permits.specs.declared.plain.TooManyPermits.{TooManyPermits}
use Rattle.topic_core.specs.declared.command.TopicCommand.{TopicCommand}
use Rattle.topic_core.specs.declared.command.TopicCommand.TheVariants as topic_command
use Rattle.topic_core.specs.declared.command.Answer.{Answer}
use Rattle.topic_core.specs.declared.command.Answer.TheVariants.{Now, Later, Nothing, NoMemory}
use Rattle.topic_core.specs.Steps.{has_consumer, first_standing}
use Rattle.names.specs.Names.{is_topic_name}
use Rattle.records.specs.Names.{is_subscription_name}
use Rattle.session.specs.HashRanges.{ranges_of}
use Rattle.session.specs.Broker.{Broker, topic_at, FindStep, CommandStep, GrantAt}
use Rattle.session.specs.Client.{Client, Play, ended, Ends, SaysAlone, Answered}
use Rattle.session.specs.Producing.{Asks}
use Rattle.session.specs.Table.{has_entry, topic_of}
use Rattle.session.specs.declared.entry.Entry.{Entry}
use Rattle.session.specs.declared.fault.Fault.TheVariants as fault
use Rattle.session.specs.declared.port.Found.{Found}
use Rattle.session.specs.declared.port.Found.TheVariants as found

-- the session still has this consumer on its topic
abbrev pub is_live : Broker → ℕ → Entry → Bool
is_live b who entry = has_consumer (topic_at b entry.topic) who entry.id

-- the session knows no more of the consumers that it doesn't have
abbrev pub with_live_consumers : Play → Play
with_live_consumers p = record p { client = record p.client { consumers = filter (is_live p.broker p.client.number) p.client.consumers } }

-- the mode of a subscription type
abbrev pub mode_of : SubscriptionType → Mode
mode_of type.Exclusive = mode.Exclusive
mode_of type.Shared = mode.Shared
mode_of type.Failover = mode.Failover
mode_of type.KeyShared = mode.KeyShared

-- SUBSCRIBE: what the session refuses by itself, in order
abbrev pub own_refusals : List Entry → Subscribe → List (Bool × ServerError)
own_refusals consumers asked =
    (has_entry consumers asked.consumer_id, NotAllowedError)
    ∷ (nat_le 64 (length consumers), TooManyRequests)
    ∷ (not (is_topic_name asked.topic), InvalidTopicName)
    ∷ (not asked.durable || is_some asked.start_message_id, NotAllowedError)
    ∷ (not (is_subscription_name asked.subscription), NotAllowedError)
    ∷ []

-- the subscription that it asks for has the name of a subscription
abbrev pub IsNamed : Subscribe → Type 0
IsNamed asked = is_subscription_name asked.subscription ≡ true

-- what the session asks of the topic
abbrev pub subscribe_command : (asked : Subscribe) → IsNamed asked → TopicCommand
subscribe_command asked named = topic_command.Subscribe (record {
  consumer_id = asked.consumer_id;
  request_id = asked.request_id;
  subscription = asked.subscription;
  mode = mode_of asked.subscription_type;
  ranges = ranges_of asked.subscription_type asked.key_shared_meta;
  initial = asked.initial_position;
  named = named;
})

-- a topic answers an accepted SUBSCRIBE later
abbrev pub is_later : Answer → Bool
is_later (Now reply) = false
is_later Later = true
is_later Nothing = false
is_later NoMemory = false

-- the consumers, and one more behind those with a smaller id where it was accepted
abbrev pub with_entry : List Entry → Bool → ℕ → ℕ → List Entry
with_entry consumers false id topic = consumers
with_entry consumers true id topic = insert consumers (position_or_len (λ entry. nat_lt id entry.id) consumers) (record { id = id; topic = topic })

abbrev pub with_consumer : Client → Bool → ℕ → ℕ → Client
with_consumer c accepted id topic = record c { consumers = with_entry c.consumers accepted id topic }

-- the topic works SUBSCRIBE; the session keeps the consumer if it was accepted, and hands on the answer
pub record Subscribes (old : Play) (topic : ℕ) (asked : Subscribe) (new : Play) : Type 0 where
  pub named : IsNamed asked
  pub answer : Answer
  pub step : CommandStep old.broker topic old.client.number (subscribe_command asked named) answer new.broker
  pub answered : Answered (with_consumer old.client (is_later answer) asked.consumer_id topic) old.out answer new.client new.out

-- once its topic was looked for; want of memory may end the session before the topic works anything, and a search fails only where the device did
abbrev pub FoundStep : Type 0 → Play → Subscribe → Found → Play → Type 0
FoundStep Fails old asked (found.Topic number) new = Subscribes old number asked new ⊎ Ends old fault.NoMemory new
FoundStep Fails old asked found.TooMany new = SaysAlone old (reply.Error asked.request_id TooManyRequests) new
FoundStep Fails old asked found.NoMemory new = Ends old fault.NoMemory new
FoundStep Fails old asked found.Failed new = Fails × SaysAlone old (reply.Error asked.request_id PersistenceError) new

-- the topic is found, or made, and asked; want of memory may also end the session before it is looked for, as in a search
pub record Finds (Fails : Type 0) (old : Play) (asked : Subscribe) (new : Play) : Type 0 where
  pub found : Found
  pub between : Broker
  pub finds : FindStep old.broker asked.topic found between
  pub asks : FoundStep Fails (record old { broker = between }) asked found new

abbrev pub SubscribeIn : Type 0 → Option ServerError → Play → Subscribe → Play → Type 0
SubscribeIn Fails (Some error) old asked new = SaysAlone old (reply.Error asked.request_id error) new
SubscribeIn Fails None old asked new = Finds Fails old asked new

-- SUBSCRIBE of a session that knows just the consumers that it has
abbrev pub SubscribeOf : Type 0 → Play → Subscribe → Play → Type 0
SubscribeOf Fails old asked new = SubscribeIn Fails (first_standing (own_refusals old.client.consumers asked)) old asked new

abbrev pub SubscribeStep : Type 0 → Play → Subscribe → Play → Type 0
SubscribeStep Fails old asked new = SubscribeOf Fails (with_live_consumers old) asked new

-- permits beyond what a consumer may have in all end the session
abbrev pub granting : Client → Result (Unit {0}) TooManyPermits → Client
granting c (Ok done) = c
granting c (Err why) = ended c fault.TooManyPermits

-- the topic counts the permits, and nothing goes out
pub record Grants (old : Play) (topic : ℕ) (asked : Flow) (new : Play) : Type 0 where
  pub result : Result (Unit {0}) TooManyPermits
  pub step : GrantAt old.broker topic old.client.number asked.consumer_id asked.message_permits result new.broker
  pub client : new.client ≡ granting old.client result
  pub out : new.out ≡ old.out

abbrev pub FlowIn : Option ℕ → Play → Flow → Play → Type 0
FlowIn None old asked new = new ≡ old
FlowIn (Some topic) old asked new = Grants old topic asked new

-- FLOW: nothing is granted to a consumer that the session doesn't have
abbrev pub FlowStep : Play → Flow → Play → Type 0
FlowStep old asked new = FlowIn (topic_of old.client.consumers asked.consumer_id) old asked new

-- a refused ACK is answered only where it asks for that
abbrev pub RefusesAck : Option ℕ → Play → ℕ → Play → Type 0
RefusesAck None old id new = new ≡ old
RefusesAck (Some request) old id new = SaysAlone old (reply.AckResponse id (Some ConsumerNotFound) request) new

-- what a session hands to the topic
abbrev pub ack_command : Ack → TopicCommand
ack_command asked = topic_command.Ack asked

abbrev pub AckIn : Option ℕ → Play → Ack → Play → Type 0
AckIn None old asked new = RefusesAck asked.request_id old asked.consumer_id new
AckIn (Some topic) old asked new = Asks old topic (ack_command asked) new

-- ACK: a session without this consumer refuses it; else the topic works it
abbrev pub AckStep : Play → Ack → Play → Type 0
AckStep old asked new = AckIn (topic_of old.client.consumers asked.consumer_id) old asked new

-- what an UNSUBSCRIBE hands to the topic
abbrev pub unsubscribe_command : Unsubscribe → TopicCommand
unsubscribe_command asked = topic_command.Unsubscribe asked

abbrev pub UnsubscribeIn : Option ℕ → Play → Unsubscribe → Play → Type 0
UnsubscribeIn None old asked new = SaysAlone old (reply.Error asked.request_id ConsumerNotFound) new
UnsubscribeIn (Some topic) old asked new = Asks old topic (unsubscribe_command asked) new

-- UNSUBSCRIBE: a session without this consumer refuses it; else the topic works it
abbrev pub UnsubscribeStep : Play → Unsubscribe → Play → Type 0
UnsubscribeStep old asked new = UnsubscribeIn (topic_of old.client.consumers asked.consumer_id) old asked new
