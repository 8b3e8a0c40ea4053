-- CLOSE_CONSUMER and REDELIVER, as a session works them.
use Rattle.std.specs.Prelude.{◌≡◌, ℕ, Option, Some, None}
use Rattle.commands.specs.declared.giving_back.CloseConsumer.{CloseConsumer}
use Rattle.commands.specs.declared.giving_back.Redeliver.{Redeliver}
use Rattle.commands.specs.declared.reply.Reply.TheVariants as reply
use Rattle.commands.specs.declared.server_error.ServerError.TheVariants.{ConsumerNotFound}
use Rattle.topic_core.specs.declared.command.TopicCommand.{TopicCommand}
use Rattle.topic_core.specs.declared.command.TopicCommand.TheVariants as topic_command
use Rattle.session.specs.Client.{Play, SaysAlone}
use Rattle.session.specs.Producing.{Asks}
use Rattle.session.specs.Table.{topic_of}

-- what a CLOSE_CONSUMER hands to the topic
abbrev pub close_consumer_command : CloseConsumer → TopicCommand
close_consumer_command asked = topic_command.CloseConsumer asked

abbrev pub CloseConsumerIn : Option ℕ → Play → CloseConsumer → Play → Type 0
CloseConsumerIn None old asked new = SaysAlone old (reply.Error asked.request_id ConsumerNotFound) new
CloseConsumerIn (Some topic) old asked new = Asks old topic (close_consumer_command asked) new

-- CLOSE_CONSUMER: a session without this consumer refuses it; else the topic works it, and the id is free once the topic has no such consumer
abbrev pub CloseConsumerStep : Play → CloseConsumer → Play → Type 0
CloseConsumerStep old asked new = CloseConsumerIn (topic_of old.client.consumers asked.consumer_id) old asked new

-- what a REDELIVER hands to the topic
abbrev pub redeliver_command : Redeliver → TopicCommand
redeliver_command asked = topic_command.Redeliver asked

abbrev pub RedeliverIn : Option ℕ → Play → Redeliver → Play → Type 0
RedeliverIn None old asked new = new ≡ old
RedeliverIn (Some topic) old asked new = Asks old topic (redeliver_command asked) new

-- REDELIVER: nothing is given back by a consumer that the session doesn't have; else the topic works it
abbrev pub RedeliverStep : Play → Redeliver → Play → Type 0
RedeliverStep old asked new = RedeliverIn (topic_of old.client.consumers asked.consumer_id) old asked new
