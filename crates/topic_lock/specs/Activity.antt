-- What a topic counts of what a session asks of it.
use Rattle.std.specs.Prelude.{Bool, true, false, Result, Ok, Err, Option, Some, None}
use Rattle.gated_log.specs.declared.read_error.ReadError.{ReadError}
use Rattle.topic_core.specs.declared.command.TopicCommand.{TopicCommand}
use Rattle.topic_core.specs.declared.command.TopicCommand.TheVariants as asked
use Rattle.topic_core.specs.declared.dispatch.Outgoing.{Outgoing}
use Rattle.topic_lock.specs.declared.counted.reading.Next.{Next}
use Rattle.topic_lock.specs.declared.counted.reading.Next.TheVariants as next

abbrev pub is_ack : TopicCommand → Bool
is_ack (asked.Producer id request name) = false
is_ack (asked.Send send) = false
is_ack (asked.Subscribe subscribe) = false
is_ack (asked.Ack ack) = true
is_ack (asked.CloseProducer close) = false
is_ack (asked.Unsubscribe unsubscribe) = false
is_ack (asked.CloseConsumer close) = false
is_ack (asked.Redeliver redeliver) = false

-- a message is told
abbrev pub gives : Result (Option Outgoing) ReadError → Bool
gives (Ok (Some outgoing)) = true
gives (Ok None) = false
gives (Err refused) = false

abbrev pub is_message : Next → Bool
is_message (next.Heard heard) = gives heard.said
is_message (next.Unread position) = false
