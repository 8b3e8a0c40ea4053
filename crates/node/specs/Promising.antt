-- What the answers to commands promise of a topic's subscriptions, and which of these promises were told.
use Rattle.std.specs.Prelude.{◌≡◌, ◌⊎◌, ℕ, ◌+◌, Bool, true, false, cond, not, nat_eq, Option, Some, None, List, [], ◌∷◌, ◌++◌, filter, map}
use Rattle.std.specs.List.{find}
use Rattle.std.specs.Option.{option_map}
use Rattle.std.specs.Str.{bytes_eq}
use Rattle.std.specs.FinSet as set
use Rattle.std.specs.FinMap as kept_map
use Rattle.cursor.specs.Positions.{Positions, Has, below}
use Rattle.commands.specs.declared.consuming.AckType.{AckType}
use Rattle.commands.specs.declared.consuming.AckType.TheVariants.{Individual, Cumulative}
use Rattle.commands.specs.declared.reply.Reply.{Reply}
use Rattle.commands.specs.declared.reply.Reply.TheVariants.{Connected, ProducerSuccess, SendReceipt, SendError, Message, Success, Error, PartitionedMetadataResponse, LookupResponse, AckResponse, Pong}
use Rattle.records.specs.Maps.{Kept}
use Rattle.reply_queues.specs.Replies.{refused}
use Rattle.subscriptions.specs.State.{Subscription}
use Rattle.subscriptions.specs.Steps.{is_on}
use Rattle.subscriptions.specs.Progress.{listed}
use Rattle.commands.specs.declared.consuming.Ack.{Ack}
use Rattle.topic_core.specs.declared.command.Answer.{Answer}
use Rattle.topic_core.specs.declared.command.Answer.TheVariants.{Now, Later, Nothing, NoMemory}
use Rattle.topic_core.specs.declared.command.TopicCommand.{TopicCommand}
use Rattle.topic_core.specs.declared.command.TopicCommand.TheVariants as asked
use Rattle.topic_core.specs.State.{Topic}
use Rattle.topic_core.specs.Steps.{key_of, position_at, receipt}
use Rattle.node.specs.Moves.{Handed, Move, Command, Tell, Lose, Grant, Deliver, Miss, Leave, Flush, Take, Finish, Reopen, Crash, Cut, Moves}

pub data Promise : Type 0 where
  There : List ℕ → Positions → Promise  -- the subscription of this name is there, and these positions are acknowledged on it
  Gone : List ℕ → Promise  -- no subscription of this name is there

-- the subscription of this name is there, and these positions are acknowledged on it
pub record HasAcked (kept : Kept) (name : List ℕ) (positions : Positions) : Type 0 where
  pub acked : Positions
  pub there : kept_map.get kept name ≡ Some acked
  pub each : (i : ℕ) → Has positions i → Has acked i

-- durable subscriptions keep a promise
abbrev pub IsKept : Kept → Promise → Type 0
IsKept kept (There name positions) = HasAcked kept name positions
IsKept kept (Gone name) = kept_map.get kept name ≡ None

-- the positions that an ACK acknowledges; a cumulative one is of all up to the one that it names
abbrev pub acked_by : AckType → List ℕ → Positions
acked_by Individual positions = listed positions
acked_by Cumulative [] = set.empty
acked_by Cumulative (position ∷ positions) = below (position + 1)

abbrev pub positions_of : ℕ → Ack → List ℕ
positions_of per_ledger ack = map (λ id. position_at per_ledger id) ack.message_ids

-- What an accepted command's answer promises: of a SUBSCRIBE that the subscription is there, of an ACK that its positions
-- are acknowledged on the consumer's subscription, of an UNSUBSCRIBE that the consumer's subscription is gone, and of other
-- commands nothing.
abbrev pub promise_of : Topic → ℕ → TopicCommand → Option Promise
promise_of t who (asked.Producer id request name) = None
promise_of t who (asked.Send send) = None
promise_of t who (asked.Subscribe subscribe) = Some (There subscribe.subscription set.empty)
promise_of t who (asked.Ack ack) =
    option_map (λ (s : Subscription). There s.name (acked_by ack.ack_type (positions_of t.per_ledger ack)))
    (find (is_on (key_of who ack.consumer_id)) t.subs.subs)
promise_of t who (asked.CloseProducer close) = None
promise_of t who (asked.Unsubscribe unsubscribe) = option_map (λ (s : Subscription). Gone s.name) (find (is_on (key_of who unsubscribe.consumer_id)) t.subs.subs)
promise_of t who (asked.CloseConsumer close) = None
promise_of t who (asked.Redeliver redeliver) = None

-- promises that count no more
pub data Release : Type 0 where
  OfGone : List ℕ → Release  -- those that no subscription of this name is there
  OfThere : List ℕ → Release  -- those that the subscription of this name is there

-- What an accepted command releases: a SUBSCRIBE the promises that its subscription is gone, an UNSUBSCRIBE those that the one
-- that it removes is there, and other commands none.
abbrev pub released_by : Topic → ℕ → TopicCommand → Option Release
released_by t who (asked.Producer id request name) = None
released_by t who (asked.Send send) = None
released_by t who (asked.Subscribe subscribe) = Some (OfGone subscribe.subscription)
released_by t who (asked.Ack ack) = None
released_by t who (asked.CloseProducer close) = None
released_by t who (asked.Unsubscribe unsubscribe) = option_map (λ (s : Subscription). OfThere s.name) (find (is_on (key_of who unsubscribe.consumer_id)) t.subs.subs)
released_by t who (asked.CloseConsumer close) = None
released_by t who (asked.Redeliver redeliver) = None

-- the reply to a command whose answer awaits a flush, where it has one
abbrev pub ack_reply : ℕ → Option ℕ → Option Reply
ack_reply consumer None = None
ack_reply consumer (Some request) = Some (AckResponse consumer None request)

abbrev pub reply_to : Topic → TopicCommand → Option Reply
reply_to t (asked.Producer id request name) = None
reply_to t (asked.Send send) = Some (receipt t send.producer_id send.sequence_id)
reply_to t (asked.Subscribe subscribe) = Some (Success subscribe.request_id)
reply_to t (asked.Ack ack) = ack_reply ack.consumer_id ack.request_id
reply_to t (asked.CloseProducer close) = Some (Success close.request_id)
reply_to t (asked.Unsubscribe unsubscribe) = Some (Success unsubscribe.request_id)
reply_to t (asked.CloseConsumer close) = None
reply_to t (asked.Redeliver redeliver) = None

-- an answer that a session is owed, and what it promises
pub record Owed : Type 0 where
  pub session : ℕ
  pub reply : Option Reply
  pub promise : Option Promise

-- what is owed, the earliest first, and the promises that were told
pub record Word : Type 0 where
  pub owed : List Owed
  pub given : List Promise

abbrev pub nothing_yet : Word
nothing_yet = record { owed = []; given = [] }

abbrev pub is_released : Release → Promise → Bool
is_released (OfGone name) (There promised positions) = false
is_released (OfGone name) (Gone promised) = bytes_eq promised name
is_released (OfThere name) (There promised positions) = bytes_eq promised name
is_released (OfThere name) (Gone promised) = false

abbrev pub unless_released : Release → Option Promise → Option Promise
unless_released release None = None
unless_released release (Some promise) = cond (is_released release promise) None (Some promise)

abbrev pub released : Option Release → Word → Word
released None word = word
released (Some release) word = record {
  owed = map (λ (o : Owed). record o { promise = unless_released release o.promise }) word.owed;
  given = filter (λ promise. not (is_released release promise)) word.given;
}

abbrev pub with_owed : Owed → Word → Word
with_owed one word = record word { owed = word.owed ++ one ∷ [] }

-- the first that a session is owed
abbrev pub is_to : ℕ → Owed → Bool
is_to who o = nat_eq o.session who

abbrev pub first_owed : ℕ → List Owed → Option Owed
first_owed who owed = find (is_to who) owed

abbrev pub without_first : ℕ → List Owed → List Owed
without_first who [] = []
without_first who (o ∷ owed) = cond (is_to who o) owed (o ∷ without_first who owed)

-- the reply tells that a command was accepted
abbrev pub is_acceptance : Reply → Bool
is_acceptance Connected = false
is_acceptance (ProducerSuccess request_id name) = false
is_acceptance (SendReceipt producer_id sequence_id id) = false
is_acceptance (SendError producer_id sequence_id error) = false
is_acceptance (Message consumer_id id redelivery_count) = false
is_acceptance (Success request_id) = true
is_acceptance (Error request_id error) = false
is_acceptance (PartitionedMetadataResponse request_id error) = false
is_acceptance (LookupResponse request_id service_url) = false
is_acceptance (AckResponse consumer_id None request_id) = true
is_acceptance (AckResponse consumer_id (Some error) request_id) = false
is_acceptance Pong = false

abbrev pub promised : Option Promise → List Promise
promised None = []
promised (Some promise) = promise ∷ []

abbrev pub promised_by : Option Owed → List Promise
promised_by None = []
promised_by (Some o) = promised o.promise

-- the first answer that a session is owed is told: its promise counts from now on, where the command was accepted
abbrev pub told : Handed → Word → Word
told handed word = record {
  owed = without_first handed.session word.owed;
  given = cond (is_acceptance handed.reply) (word.given ++ promised_by (first_owed handed.session word.owed)) word.given;
}

-- what a command's answer adds
abbrev pub answered : Topic → ℕ → TopicCommand → Answer → Word → Word
answered t who command (Now reply) word = word
answered t who command Later word = with_owed (record { session = who; reply = reply_to t command; promise = promise_of t who command }) (released (released_by t who command) word)
answered t who command Nothing word = word
answered t who command NoMemory word = word

abbrev pub word_after : Topic → Move → Word → Word
word_after t (Command who command answer) word = answered t who command answer word
word_after t (Tell handed) word = told handed word
word_after t (Lose handed) word = record word { owed = without_first handed.session word.owed }
word_after t (Grant who id permits result) word = word
word_after t (Deliver id handed) word = word
word_after t (Miss id handed) word = word
word_after t (Leave who) word = record word { owed = filter (λ o. not (is_to who o)) word.owed }
word_after t (Flush result) word = word
word_after t (Take result) word = word
word_after t (Finish written result) word = word
word_after t (Reopen result) word = word
word_after t Crash word = record word { owed = [] }
word_after t Cut word = word

-- what was told on moves, and what is owed after them
abbrev pub word_by : (old : Topic) (moves : List Move) (new : Topic) → Moves old moves new → Word → Word
word_by old [] new steps word = word
word_by old (move ∷ moves) new steps word = word_by steps.0 moves new steps.2 (word_after old move word)

-- a reply that a session takes is the first that it is owed: as it was promised, or as a failure makes it
pub record IsInTurn (word : Word) (handed : Handed) : Type 0 where
  pub owed : Owed
  pub reply : Reply
  pub first : first_owed handed.session word.owed ≡ Some owed
  pub answers : owed.reply ≡ Some reply
  pub same : (handed.reply ≡ reply) ⊎ (handed.reply ≡ refused reply)

abbrev pub InTurn : Word → Move → Type 0
InTurn word (Command who command answer) = Unit {0}
InTurn word (Tell handed) = IsInTurn word handed
InTurn word (Lose handed) = IsInTurn word handed
InTurn word (Grant who id permits result) = Unit {0}
InTurn word (Deliver id handed) = Unit {0}
InTurn word (Miss id handed) = Unit {0}
InTurn word (Leave who) = Unit {0}
InTurn word (Flush result) = Unit {0}
InTurn word (Take result) = Unit {0}
InTurn word (Finish written result) = Unit {0}
InTurn word (Reopen result) = Unit {0}
InTurn word Crash = Unit {0}
InTurn word Cut = Unit {0}

-- each reply of a topic's moves comes in its turn
abbrev pub AreInTurn : (old : Topic) (moves : List Move) (new : Topic) → Moves old moves new → Word → Type 0
AreInTurn old [] new steps word = Unit {0}
AreInTurn old (move ∷ moves) new steps word = InTurn word move × AreInTurn steps.0 moves new steps.2 (word_after old move word)
