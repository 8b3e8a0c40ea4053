-- Which frame that came in a receipt, an answer or a message rests on.
use Rattle.std.specs.Prelude.{◌≡◌, ◌⊎◌, ◌<◌, ◌≤◌, ◌+◌, ℕ, true, Option, Some, List, [], ◌∷◌, ◌++◌}
use Rattle.std.specs.List.{AllByRecursion}
use Rattle.commands.specs.declared.command.Command.TheVariants as command
use Rattle.commands.specs.declared.giving_back.CloseConsumer.{CloseConsumer}
use Rattle.ids.specs.declared.message_id.MessageId.{MessageId}
use Rattle.commands.specs.declared.producing.Send.{Send}
use Rattle.commands.specs.declared.reply.Reply.{Reply}
use Rattle.commands.specs.declared.reply.Reply.TheVariants.{SendReceipt, Success}
use Rattle.frames.specs.declared.frame.Frame.{Frame}
use Rattle.frames.specs.declared.frame.FrameEntry.TheVariants.{Entry}
use Rattle.frames.specs.declared.plain_entry.PlainEntry.{PlainEntry}
use Rattle.managed_ledger.specs.Entries.{end_of}
use Rattle.reply_queues.specs.Replies.{is_receipt}
use Rattle.topic_core.specs.declared.command.Answer.TheVariants.{Later}
use Rattle.topic_core.specs.declared.command.TopicCommand.{TopicCommand}
use Rattle.topic_core.specs.declared.dispatch.Outgoing.{Outgoing}
use Rattle.topic_core.specs.State.{Topic, receipts_due}
use Rattle.session.specs.Broker.{Broker, topic_at}
use Rattle.session.specs.Client.{frames_of, AreBounded}
use Rattle.node.specs.Cuts.{Turn}
use Rattle.node.specs.Moves.{Command}
use Rattle.node.specs.Origins.{Origin, AsksFor}
use Rattle.node.specs.Incoming.{IsFront, bytes_in, openings_in, ComesFrom, MovesComeFromFrames}
use Rattle.node.specs.Promising.{is_acceptance, reply_to}
use Rattle.node.specs.Telling.{is_message, IsAtOnce, bytes_to, from_topic, receipts_told}
use Rattle.node.specs.Laws.{AccountsTo, IsAtStart}
use Rattle.node.specs.Hearing.{IsAccountedFor}
use Rattle.node.specs.declared.event.Output.{Output}

-- a client's frame stands in the bytes that came in to the session of this number behind so many openings: these frames are before it
pub record CameIn (turns : List Turn) (outputs : List Output) (who : ℕ) (frame : Frame) : Type 0 where
  pub opening : ℕ
  pub before : List Frame
  pub stands : IsFront (bytes_in opening who turns outputs) (before ++ frame ∷ [])

-- a SEND came in to the session, with this entry, as it stands behind the command, and the reply is a receipt for it
pub record AnswersSend (turns : List Turn) (outputs : List Output) (who : ℕ) (reply : Reply) (entry : List ℕ) : Type 0 where
  pub frame : Frame
  pub came : CameIn turns outputs who frame
  pub send : Send
  pub is : frame.command ≡ command.Send send
  pub behind : PlainEntry
  pub stands : frame.entry ≡ Entry behind
  pub bytes : behind.bytes ≡ entry
  pub id : MessageId
  pub receipt : reply ≡ SendReceipt send.producer_id send.sequence_id id

-- a frame that came in to the session asks a topic for a command, and this is the reply to it where it is accepted
pub record AnswersFrame (turns : List Turn) (outputs : List Output) (who : ℕ) (reply : Reply) : Type 0 where
  pub frame : Frame
  pub came : CameIn turns outputs who frame
  pub command : TopicCommand
  pub asks : AsksFor who frame.command frame.entry (Command who command Later)
  pub there : Topic
  pub answers : reply_to there command ≡ Some reply

-- a CLOSE_CONSUMER came in to the session, and this is the SUCCESS of it
pub record AnswersClose (turns : List Turn) (outputs : List Output) (who : ℕ) (reply : Reply) : Type 0 where
  pub frame : Frame
  pub came : CameIn turns outputs who frame
  pub close : CloseConsumer
  pub is : frame.command ≡ command.CloseConsumer close
  pub success : reply ≡ Success close.request_id

module _ {old : Broker} {hearers : List (Option ℕ)} {outputs : List Output} {new : Broker} (account : AccountsTo old hearers outputs new) (turns : List Turn) where
  -- What a topic accounts for rests on frames that came in: a receipt on a SEND of its session, whose entry is the one that stands in the
  -- ledger; an acceptance on a command of its session, to which it is the reply; and a message on a SEND of some session, whose entry it
  -- is, but for those of entries that stood in the ledger at the start.
  pub record RestsOnFrames (who : ℕ) (one : Outgoing) (by : IsAccountedFor account who one) : Type 0 where
    pub receipt : (is : is_receipt one.reply ≡ true) → AnswersSend turns outputs who one.reply (by.receipt is).send.entry
    pub answer : is_acceptance one.reply ≡ true → AnswersFrame turns outputs who one.reply
    pub message : (is : is_message one.reply ≡ true)
        → ((by.message is).position < end_of (topic_at old by.topic).ledger) ⊎ ((sender : ℕ) × (receipt : Reply) × AnswersSend turns outputs sender receipt one.entry)

  -- what answers at once is no receipt, no message and no acceptance, but the SUCCESS of a CLOSE_CONSUMER that came in
  pub record RestsAtOnce (who : ℕ) (reply : Reply) : Type 0 where
    pub at_once : IsAtOnce (λ number. (account.each number).moves) who reply
    pub close : is_acceptance reply ≡ true → AnswersClose turns outputs who reply

  abbrev pub IsGrounded : ℕ → Outgoing → Type 0
  IsGrounded who one = RestsAtOnce who one.reply ⊎ ((by : IsAccountedFor account who one) × RestsOnFrames who one by)

  -- However frames of replies within their bounds are read in the bytes that went out to a session, each of them that is a receipt, a
  -- message or an acceptance rests on a frame of the bytes that came in. Where the node wasn't opened again receipts never outnumber
  -- the entries.
  pub record AreGrounded : Type 0 where
    pub frames : (who : ℕ) (frames : List Outgoing) → AreBounded frames → frames_of frames ≡ bytes_to who hearers outputs → AllByRecursion (λ one. IsGrounded who one) frames
    pub covered : openings_in turns outputs ≡ 0 → (number : ℕ) → receipts_told (from_topic number account.said) + receipts_due (topic_at new number).queues ≤ end_of (topic_at new number).ledger

-- Each life of a node has an account whose moves come from the frames that came in, and from its openings. What such an account says of
-- the bytes that went out to a session rests on those that came in.
pub record RepliesRestOnFrames : Type 0 where
  pub moves : MovesComeFromFrames
  pub rest : (old : Broker) (hearers : List (Option ℕ)) (outputs : List Output) (new : Broker) (account : AccountsTo old hearers outputs new) (turns : List Turn) (origins : List Origin)
      → ComesFrom account turns origins → IsAtStart old → AreGrounded account turns
