-- What a session answers by itself where an id is unknown.
use Rattle.std.proofs.Common.{◌≤◌, ℕ, length, Option, Some, None, IfSome, Ok, refl}
use Rattle.commands.specs.declared.consuming.Ack.{Ack}
use Rattle.commands.specs.declared.consuming.Flow.{Flow}
use Rattle.commands.specs.declared.consuming.Unsubscribe.{Unsubscribe}
use Rattle.commands.specs.declared.giving_back.CloseConsumer.{CloseConsumer}
use Rattle.commands.specs.declared.giving_back.Redeliver.{Redeliver}
use Rattle.commands.specs.declared.producing.CloseProducer.{CloseProducer}
use Rattle.commands.specs.declared.producing.Send.{Send}
use Rattle.commands.specs.declared.reply.Reply.TheVariants.{SendError, Error}
use Rattle.commands.specs.declared.server_error.ServerError.TheVariants.{NotAllowedError, ConsumerNotFound}
use Rattle.topic_core.specs.declared.command.SentEntry.{SentEntry}
use Rattle.session.specs.Client.{Play, SaysAlone}
use Rattle.session.specs.Producing.{SendIn, CloseIn}
use Rattle.session.specs.Consuming.{FlowIn, RefusesAck, AckIn, UnsubscribeIn}
use Rattle.session.specs.GivingBack.{CloseConsumerIn, RedeliverIn}
use Rattle.session.proofs.Absent.{asks-absent, closes-absent, grants-absent, acks-absent, unsubscribes-absent, close-consumer-absent, redelivers-absent}

-- there is no topic, or one that isn't there
abbrev IsPast : Option ℕ → Play → Type 0
IsPast topic old = IfSome topic (λ number. length old.broker.topics ≤ number)

pub sends-unknown : (topic : Option ℕ) (old : Play) (asked : Send) (entry : SentEntry) (new : Play) → IsPast topic old →
    SaysAlone old (SendError asked.producer_id asked.sequence_id NotAllowedError) new → SendIn topic (Some entry) old asked new
sends-unknown None old asked entry new past said = said
sends-unknown (Some number) old asked entry new past said =
    asks-absent old number (record { producer_id = asked.producer_id; sequence_id = asked.sequence_id; entry = entry }) new past said

pub closes-unknown : (topic : Option ℕ) (old : Play) (asked : CloseProducer) (new : Play) → IsPast topic old →
    SaysAlone old (Error asked.request_id NotAllowedError) new → CloseIn topic old asked new
closes-unknown None old asked new past said = said
closes-unknown (Some number) old asked new past said = closes-absent old number asked new past said

pub grants-unknown : (topic : Option ℕ) (old : Play) (asked : Flow) → IsPast topic old → FlowIn topic old asked old
grants-unknown None old asked past = refl
grants-unknown (Some number) old asked past = record {
  result = Ok tt;
  step = grants-absent old.broker number old.client.number asked.consumer_id asked.message_permits past;
  client = refl;
  out = refl;
}

pub acks-unknown : (topic : Option ℕ) (old : Play) (asked : Ack) (new : Play) → IsPast topic old →
    RefusesAck asked.request_id old asked.consumer_id new → AckIn topic old asked new
acks-unknown None old asked new past refused = refused
acks-unknown (Some number) old asked new past refused = acks-absent old number asked new past refused

pub unsubscribes-unknown : (topic : Option ℕ) (old : Play) (asked : Unsubscribe) (new : Play) → IsPast topic old →
    SaysAlone old (Error asked.request_id ConsumerNotFound) new → UnsubscribeIn topic old asked new
unsubscribes-unknown None old asked new past said = said
unsubscribes-unknown (Some number) old asked new past said = unsubscribes-absent old number asked new past said

pub closes-consumer-unknown : (topic : Option ℕ) (old : Play) (asked : CloseConsumer) (new : Play) → IsPast topic old →
    SaysAlone old (Error asked.request_id ConsumerNotFound) new → CloseConsumerIn topic old asked new
closes-consumer-unknown None old asked new past said = said
closes-consumer-unknown (Some number) old asked new past said = close-consumer-absent old number asked new past said

pub redelivers-unknown : (topic : Option ℕ) (old : Play) (asked : Redeliver) → IsPast topic old → RedeliverIn topic old asked old
redelivers-unknown None old asked past = refl
redelivers-unknown (Some number) old asked past = redelivers-absent old number asked past
