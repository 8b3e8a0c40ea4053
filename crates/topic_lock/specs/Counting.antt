-- What calls count.
use Rattle.std.specs.Prelude.{ℕ, length, Option, Some, None, Bool, true, false}
use Rattle.commands.specs.declared.reply.Reply.{Reply}
use Rattle.topic_core.specs.Steps.{receipts_of}
use Rattle.topic_core.specs.declared.command.TopicCommand.{TopicCommand}
use Rattle.topic_core.specs.declared.command.Answer.{Answer}
use Rattle.topic_core.specs.declared.command.TopicCommand.TheVariants as asked
use Rattle.topic_core.specs.declared.command.Answer.TheVariants as answers
use Rattle.topic_core.specs.Laws.{entries_added}

-- how many SENDs an answer accepts
abbrev pub sends_of : TopicCommand → Answer → ℕ
sends_of command answer = length (entries_added command answer)

abbrev pub is_send : TopicCommand → Bool
is_send (asked.Producer id request name) = false
is_send (asked.Send send) = true
is_send (asked.Subscribe subscribe) = false
is_send (asked.Ack ack) = false
is_send (asked.CloseProducer close) = false
is_send (asked.Unsubscribe unsubscribe) = false
is_send (asked.CloseConsumer close) = false
is_send (asked.Redeliver redeliver) = false

abbrev pub is_later : Answer → Bool
is_later (answers.Now reply) = false
is_later answers.Later = true
is_later answers.Nothing = false
is_later answers.NoMemory = false

-- how many receipts were collected
abbrev pub receipts_collected : Option Reply → ℕ
receipts_collected None = 0
receipts_collected (Some reply) = receipts_of reply
