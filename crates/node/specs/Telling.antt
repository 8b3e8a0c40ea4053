-- What a run tells its clients, and the moves on which it does.
use Rattle.std.specs.Prelude.{◌≡◌, ℕ, ◌+◌, cond, nat_eq, Bool, true, false, Option, Some, None, List, [], ◌∷◌, ◌++◌, filter}
use Rattle.std.specs.List.{AllByRecursion}
use Rattle.commands.specs.declared.reply.Reply.{Reply}
use Rattle.commands.specs.declared.reply.Reply.TheVariants.{Connected, ProducerSuccess, SendReceipt, SendError, Message, Success, Error, PartitionedMetadataResponse, LookupResponse, AckResponse, Pong}
use Rattle.commands.specs.declared.giving_back.CloseConsumer.{CloseConsumer}
use Rattle.topic_core.specs.declared.command.Answer.TheVariants.{Now}
use Rattle.topic_core.specs.declared.command.TopicCommand.TheVariants as asked
use Rattle.topic_core.specs.declared.dispatch.Outgoing.{Outgoing}
use Rattle.topic_core.specs.State.{Topic}
use Rattle.reply_queues.specs.Replies.{is_receipt}
use Rattle.topic_core.specs.Steps.{receipts_of}
use Rattle.session.specs.Broker.{Broker, topic_at}
use Rattle.session.specs.Client.{plain, frames_of, AreBounded}
use Rattle.node.specs.Moves.{Handed, outgoing, Move, Command, Moves, told_by, is_of_session}
use Rattle.node.specs.Origins.{Origin, has_origin, moves_from}
use Rattle.node.specs.Promising.{is_acceptance}
use Rattle.node.specs.declared.event.Event.{Event}
use Rattle.node.specs.declared.event.Event.TheVariants.{Open, Bytes, Pump, Close, OnTopic}
use Rattle.node.specs.declared.event.Happening.{Happening}
use Rattle.node.specs.declared.event.Happening.TheVariants as happening
use Rattle.node.specs.declared.event.Output.{Output}

-- what goes out
pub data Said : Type 0 where
  AtOnce : ℕ → Reply → Said  -- it answers a command of this session at once
  From : ℕ → Handed → Said  -- the topic of this number had it due to the session, or sent it to its consumer

abbrev pub outgoing_of : Said → Outgoing
outgoing_of (AtOnce who reply) = plain reply
outgoing_of (From number handed) = outgoing handed

abbrev pub all_outgoing : List Said → List Outgoing
all_outgoing [] = []
all_outgoing (said ∷ more) = outgoing_of said ∷ all_outgoing more

-- the session to which it goes out
abbrev pub listener : Said → ℕ
listener (AtOnce who reply) = who
listener (From number handed) = handed.session

-- what is said to a session
abbrev pub said_to : ℕ → List Said → List Said
said_to who [] = []
said_to who (said ∷ more) = cond (nat_eq (listener said) who) (said ∷ said_to who more) (said_to who more)

-- those that come from a topic
abbrev pub from_topic : ℕ → List Said → List Handed
from_topic number [] = []
from_topic number (AtOnce who reply ∷ more) = from_topic number more
from_topic number (From other handed ∷ more) = cond (nat_eq other number) (handed ∷ from_topic number more) (from_topic number more)

abbrev pub is_message : Reply → Bool
is_message Connected = false
is_message (ProducerSuccess request_id name) = false
is_message (SendReceipt producer_id sequence_id id) = false
is_message (SendError producer_id sequence_id error) = false
is_message (Message consumer_id id redelivery_count) = true
is_message (Success request_id) = false
is_message (Error request_id error) = false
is_message (PartitionedMetadataResponse request_id error) = false
is_message (LookupResponse request_id service_url) = false
is_message (AckResponse consumer_id error request_id) = false
is_message Pong = false

-- it is the SUCCESS of a session's CLOSE_CONSUMER, which a topic accepted on these moves
pub record IsDetached (moves : List Move) (who : ℕ) (reply : Reply) : Type 0 where
  pub close : CloseConsumer
  pub before : List Move
  pub after : List Move
  pub splits : moves ≡ before ++ Command who (asked.CloseConsumer close) (Now reply) ∷ after
  pub success : reply ≡ Success close.request_id

-- What answers a session's command at once is no receipt, no message and no acceptance, but the SUCCESS of a CLOSE_CONSUMER that a
-- topic accepted on its moves: so no ACK_RESPONSE without an error does, and no SUCCESS of any other command.
pub record IsAtOnce (moves : ℕ → List Move) (who : ℕ) (reply : Reply) : Type 0 where
  pub no_receipt : is_receipt reply ≡ false
  pub no_message : is_message reply ≡ false
  pub accepts : is_acceptance reply ≡ true → (number : ℕ) × IsDetached (moves number) who reply

abbrev pub AnswersAreAtOnce : (ℕ → List Move) → List Said → Type 0
AnswersAreAtOnce moves [] = Unit {0}
AnswersAreAtOnce moves (AtOnce who reply ∷ more) = IsAtOnce moves who reply × AnswersAreAtOnce moves more
AnswersAreAtOnce moves (From number handed ∷ more) = AnswersAreAtOnce moves more

-- how many receipts are among them
abbrev pub receipts_told : List Handed → ℕ
receipts_told [] = 0
receipts_told (handed ∷ more) = receipts_of handed.reply + receipts_told more

-- what a topic has for a session, and what answers it at once, goes out to that session
abbrev pub AreFor : ℕ → List Said → Type 0
AreFor who said = AllByRecursion (λ one. listener one ≡ who) said

-- the session whose client an event's bytes go out to
abbrev pub hearer : Event → Option ℕ
hearer Open = None
hearer (Bytes who bytes) = Some who
hearer (Pump who) = Some who
hearer (Close who) = None
hearer (OnTopic topic event) = None

abbrev pub hearer_of : Happening → Option ℕ
hearer_of (happening.Event event) = hearer event
hearer_of (happening.Crash) = None

-- where nobody hears, nothing is said
abbrev pub AreHeard : Option ℕ → List Said → Type 0
AreHeard None said = said ≡ []
AreHeard (Some who) said = AreFor who said

-- each output's bytes are frames, each whole, of what was said to the session that hears them
abbrev pub Spells : List (Option ℕ) → List Output → List Said → Type 0
Spells [] [] said = said ≡ []
Spells (who ∷ hearers) (output ∷ outputs) said =
    (now : List Said) × (later : List Said) × (said ≡ now ++ later) × (output.bytes ≡ frames_of (all_outgoing now)) × AreHeard who now × Spells hearers outputs later
Spells [] (output ∷ outputs) said = ⊥
Spells (who ∷ hearers) [] said = ⊥

-- what these bytes are to the one to whom they go out
abbrev pub heard_as : ℕ → Option ℕ → List ℕ → List ℕ
heard_as who None bytes = []
heard_as who (Some other) bytes = cond (nat_eq other who) bytes []

-- the bytes that went out to a session, or to sessions of one number, which a crash gives anew
abbrev pub bytes_to : ℕ → List (Option ℕ) → List Output → List ℕ
bytes_to who [] outputs = []
bytes_to who (hearer ∷ hearers) [] = []
bytes_to who (hearer ∷ hearers) (output ∷ outputs) = heard_as who hearer output.bytes ++ bytes_to who hearers outputs

-- a topic goes from here to there by moves, on which it tells this
pub record Course (old : Topic) (told : List Handed) (new : Topic) : Type 0 where
  pub moves : List Move
  pub steps : Moves old moves new
  pub tells : told ≡ told_by moves

-- it does so by moves of a session, of which it was asked for these
pub record Talk (old : Topic) (told : List Handed) (asked : List Move) (new : Topic) : Type 0 where
  pub course : Course old told new
  pub own : AllByRecursion (λ move. is_of_session move ≡ true) course.moves
  pub asks : filter (λ move. has_origin move) course.moves ≡ asked

-- a session's bytes go out, which are frames, each whole; and each topic makes moves, on which it tells just its own ones, and which
-- come from these
pub record Unfolds (who : ℕ) (origins : List Origin) (old : Broker) (bytes : List ℕ) (new : Broker) : Type 0 where
  pub said : List Said
  pub written : bytes ≡ frames_of (all_outgoing said)
  pub bounded : AreBounded (all_outgoing said)
  pub heard : AreFor who said
  pub each : (number : ℕ) → Talk (topic_at old number) (from_topic number said) (moves_from number origins) (topic_at new number)
  pub at_once : AnswersAreAtOnce (λ number. (each number).course.moves) said

-- outputs go out to those who hear them, and each topic makes moves, on which it tells just its own ones
pub record RunUnfolds (old : Broker) (hearers : List (Option ℕ)) (outputs : List Output) (new : Broker) : Type 0 where
  pub said : List Said
  pub spells : Spells hearers outputs said
  pub bounded : AreBounded (all_outgoing said)
  pub each : (number : ℕ) → Course (topic_at old number) (from_topic number said) (topic_at new number)
  pub at_once : AnswersAreAtOnce (λ number. (each number).moves) said
