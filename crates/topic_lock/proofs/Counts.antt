-- What a command counts.
use Rattle.std.proofs.Common.{◌≡◌, refl, true, false}
use Rattle.topic_core.specs.declared.command.TopicCommand.{TopicCommand}
use Rattle.topic_core.specs.declared.command.TopicCommand.TheVariants as asked
use Rattle.topic_core.specs.declared.command.Answer.{Answer}
use Rattle.topic_core.specs.declared.command.Answer.TheVariants as answers
use Rattle.topic_lock.specs.Counting.{sends_of, is_send, is_later}

-- only a SEND that is accepted is counted
pub no_send : (c : TopicCommand) (answer : Answer) → is_send c ≡ false → sends_of c answer ≡ 0
no_send (asked.Producer id request name) answer e = refl
no_send (asked.Send send) answer e = cc e
no_send (asked.Subscribe subscribe) answer e = refl
no_send (asked.Ack ack) answer e = refl
no_send (asked.CloseProducer close) answer e = refl
no_send (asked.Unsubscribe unsubscribe) answer e = refl
no_send (asked.CloseConsumer close) answer e = refl
no_send (asked.Redeliver redeliver) answer e = refl

pub not_accepted : (c : TopicCommand) (answer : Answer) → is_later answer ≡ false → sends_of c answer ≡ 0
not_accepted (asked.Producer id request name) answer e = refl
not_accepted (asked.Send send) (answers.Now reply) e = refl
not_accepted (asked.Send send) answers.Later e = cc e
not_accepted (asked.Send send) answers.Nothing e = refl
not_accepted (asked.Send send) answers.NoMemory e = refl
not_accepted (asked.Subscribe subscribe) answer e = refl
not_accepted (asked.Ack ack) answer e = refl
not_accepted (asked.CloseProducer close) answer e = refl
not_accepted (asked.Unsubscribe unsubscribe) answer e = refl
not_accepted (asked.CloseConsumer close) answer e = refl
not_accepted (asked.Redeliver redeliver) answer e = refl

pub one_send : (c : TopicCommand) (answer : Answer) → is_send c ≡ true → is_later answer ≡ true → sends_of c answer ≡ 1
one_send (asked.Producer id request name) answer e l = cc e
one_send (asked.Send send) (answers.Now reply) e l = cc l
one_send (asked.Send send) answers.Later e l = refl
one_send (asked.Send send) answers.Nothing e l = cc l
one_send (asked.Send send) answers.NoMemory e l = cc l
one_send (asked.Subscribe subscribe) answer e l = cc e
one_send (asked.Ack ack) answer e l = cc e
one_send (asked.CloseProducer close) answer e l = cc e
one_send (asked.Unsubscribe unsubscribe) answer e l = cc e
one_send (asked.CloseConsumer close) answer e l = cc e
one_send (asked.Redeliver redeliver) answer e l = cc e
