-- Where commands, grants and crashes among the moves of topics come from: frames that sessions work, and openings.
use Rattle.std.specs.Prelude.{◌≡◌, ℕ, zero, suc, Bool, true, false, cond, nat_eq, Option, Some, None, Result, List, [], ◌∷◌, ◌++◌}
use Rattle.commands.specs.declared.command.Command.{Command as ClientCommand}
use Rattle.commands.specs.declared.command.Command.TheVariants as command
use Rattle.frames.specs.declared.frame.Frame.{Frame}
use Rattle.frames.specs.declared.frame.FrameEntry.{FrameEntry}
use Rattle.permits.specs.declared.plain.TooManyPermits.{TooManyPermits}
use Rattle.topic_core.specs.declared.command.Answer.{Answer}
use Rattle.topic_core.specs.declared.command.SentEntry.{SentEntry}
use Rattle.topic_core.specs.declared.command.TopicCommand.{TopicCommand}
use Rattle.session.specs.Producing.{sent_entry, send_command, producer_command, close_command}
use Rattle.session.specs.Consuming.{IsNamed, subscribe_command, ack_command, unsubscribe_command}
use Rattle.session.specs.GivingBack.{close_consumer_command, redeliver_command}
use Rattle.node.specs.Moves.{Move, Command, Tell, Lose, Grant, Deliver, Miss, Leave, Flush, Take, Finish, Reopen, Crash, Cut}

-- a session's command or grant of permits, or a crash with the opening after it
abbrev pub has_origin : Move → Bool
has_origin (Command who command answer) = true
has_origin (Tell handed) = false
has_origin (Lose handed) = false
has_origin (Grant who id permits result) = true
has_origin (Deliver id handed) = false
has_origin (Miss id handed) = false
has_origin (Leave who) = false
has_origin (Flush result) = false
has_origin (Take result) = false
has_origin (Finish written result) = false
has_origin (Reopen result) = false
has_origin Crash = true
has_origin Cut = false

-- a move that the topic of this number was asked for
pub record Asked : Type 0 where
  pub topic : ℕ
  pub move : Move

pub data Origin : Type 0 where
  Worked : ℕ → Frame → Option Asked → Origin  -- a session worked a frame, which asked a topic for a move, or none
  Opened : Origin  -- the power was cut, and the node was opened again

abbrev pub moves_for : ℕ → Option Asked → List Move
moves_for number None = []
moves_for number (Some asked) = cond (nat_eq asked.topic number) (asked.move ∷ []) []

abbrev pub moves_of : ℕ → Origin → List Move
moves_of number (Worked who frame asks) = moves_for number asks
moves_of number Opened = Crash ∷ []

-- the moves of a topic that come from these, in order: those that it was asked for, and a crash where the node was opened again
abbrev pub moves_from : ℕ → List Origin → List Move
moves_from number [] = []
moves_from number (origin ∷ origins) = moves_of number origin ++ moves_from number origins

-- a session hands this command to a topic, which answers it
abbrev pub IsCommand : ℕ → TopicCommand → Move → Type 0
IsCommand who asked move = (answer : Answer) × (move ≡ Command who asked answer)

-- the move that a session's frame asks for: a SEND with its entry, as it stands behind the command, and other commands as they are
abbrev pub AsksFor : ℕ → ClientCommand → FrameEntry → Move → Type 0
AsksFor who (command.Connect c) entry move = ⊥
AsksFor who (command.Producer c) entry move = IsCommand who (producer_command who c) move
AsksFor who (command.Send c) entry move = (sent : SentEntry) × (sent_entry entry ≡ Some sent) × IsCommand who (send_command c sent) move
AsksFor who (command.Subscribe c) entry move = (named : IsNamed c) × IsCommand who (subscribe_command c named) move
AsksFor who (command.Flow c) entry move = (result : Result (Unit {0}) TooManyPermits) × (move ≡ Grant who c.consumer_id c.message_permits result)
AsksFor who (command.Ack c) entry move = IsCommand who (ack_command c) move
AsksFor who (command.Unsubscribe c) entry move = IsCommand who (unsubscribe_command c) move
AsksFor who (command.CloseProducer c) entry move = IsCommand who (close_command c) move
AsksFor who (command.CloseConsumer c) entry move = IsCommand who (close_consumer_command c) move
AsksFor who command.Ping entry move = ⊥
AsksFor who command.Pong entry move = ⊥
AsksFor who (command.RedeliverUnacknowledgedMessages c) entry move = IsCommand who (redeliver_command c) move
AsksFor who (command.PartitionedMetadata c) entry move = ⊥
AsksFor who (command.Lookup c) entry move = ⊥
AsksFor who (command.Other k) entry move = ⊥

-- what is asked, where anything is, is this
abbrev pub AsksOnly : (Move → Type 0) → Option Asked → Type 0
AsksOnly Is None = Unit {0}
AsksOnly Is (Some asked) = Is asked.move

abbrev pub AsksSo : Origin → Type 0
AsksSo (Worked who frame asks) = AsksOnly (AsksFor who frame.command frame.entry) asks
AsksSo Opened = Unit {0}

-- the frames that the session of this number worked behind so many openings, in order
abbrev pub frames_in : ℕ → ℕ → List Origin → List Frame
frames_in opening who [] = []
frames_in zero who (Worked other frame asks ∷ origins) = cond (nat_eq other who) (frame ∷ frames_in zero who origins) (frames_in zero who origins)
frames_in zero who (Opened ∷ origins) = []
frames_in (suc opening) who (Worked other frame asks ∷ origins) = frames_in (suc opening) who origins
frames_in (suc opening) who (Opened ∷ origins) = frames_in opening who origins

-- how often the node was opened again
abbrev pub openings_among : List Origin → ℕ
openings_among [] = 0
openings_among (Worked who frame asks ∷ origins) = openings_among origins
openings_among (Opened ∷ origins) = suc (openings_among origins)
