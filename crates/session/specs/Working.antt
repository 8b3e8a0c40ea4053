-- What a session does with the bytes that come.
use Rattle.std.specs.Prelude.{◌≡◌, ℕ, Bool, true, false, Option, Some, None, List, [], ◌∷◌, Result, Ok, Err, ◌⊎◌}
use Rattle.std.specs.List.{flat_map}
use Rattle.commands.specs.declared.command.Command.{Command}
use Rattle.commands.specs.declared.command.Command.TheVariants as command
use Rattle.commands.specs.declared.reply.Reply.TheVariants as reply
use Rattle.frames.specs.declared.fault.Fault.{Fault as FrameFault}
use Rattle.frames.specs.declared.frame.Frame.{Frame}
use Rattle.frames.specs.declared.frame.FrameEntry.{FrameEntry}
use Rattle.frames.specs.Streams.{Progress, FeedsOn}
use Rattle.session.specs.Client.{Client, Play, Ends, SaysAlone, left_if_ended}
use Rattle.session.specs.Faults.{fault_of}
use Rattle.session.specs.Producing.{ProducerStep, SendStep, CloseStep}
use Rattle.session.specs.Consuming.{SubscribeStep, FlowStep, AckStep, UnsubscribeStep}
use Rattle.session.specs.GivingBack.{CloseConsumerStep, RedeliverStep}
use Rattle.session.specs.Lookup.{LookupStep, PartitionsStep}
use Rattle.session.specs.declared.fault.Fault.{Fault}
use Rattle.session.specs.declared.fault.Fault.TheVariants as fault

-- a command after CONNECT; a search fails only where the device did
abbrev pub WorksCommand : Type 0 → Play → Command → FrameEntry → Play → Type 0
WorksCommand Fails old (command.Connect c) entry new = Ends old fault.OutOfTurn new
WorksCommand Fails old (command.Producer c) entry new = ProducerStep Fails old c new
WorksCommand Fails old (command.Send c) entry new = SendStep old c entry new
WorksCommand Fails old (command.Subscribe c) entry new = SubscribeStep Fails old c new
WorksCommand Fails old (command.Flow c) entry new = FlowStep old c new
WorksCommand Fails old (command.Ack c) entry new = AckStep old c new
WorksCommand Fails old (command.Unsubscribe c) entry new = UnsubscribeStep old c new
WorksCommand Fails old (command.CloseProducer c) entry new = CloseStep old c new
WorksCommand Fails old (command.CloseConsumer c) entry new = CloseConsumerStep old c new
WorksCommand Fails old command.Ping entry new = SaysAlone old reply.Pong new
WorksCommand Fails old command.Pong entry new = new ≡ old
WorksCommand Fails old (command.RedeliverUnacknowledgedMessages c) entry new = RedeliverStep old c new
WorksCommand Fails old (command.PartitionedMetadata c) entry new = PartitionsStep old c new
WorksCommand Fails old (command.Lookup c) entry new = LookupStep old c new
WorksCommand Fails old (command.Other k) entry new = Ends old fault.UnknownCommand new

-- a command behind which no entry is read
abbrev pub is_alone : Command → Bool
is_alone (command.Connect c) = true
is_alone (command.Producer c) = true
is_alone (command.Send c) = false
is_alone (command.Subscribe c) = true
is_alone (command.Flow c) = true
is_alone (command.Ack c) = true
is_alone (command.Unsubscribe c) = true
is_alone (command.CloseProducer c) = true
is_alone (command.CloseConsumer c) = true
is_alone command.Ping = true
is_alone command.Pong = true
is_alone (command.RedeliverUnacknowledgedMessages c) = true
is_alone (command.PartitionedMetadata c) = true
is_alone (command.Lookup c) = true
is_alone (command.Other k) = true

abbrev pub connected_client : Client → Client
connected_client c = record c { connected = true }

-- a command before CONNECT, or CONNECT itself
abbrev pub Connects : Play → Command → Play → Type 0
Connects old (command.Connect c) new = SaysAlone (record old { client = connected_client old.client }) reply.Connected new
Connects old (command.Producer c) new = Ends old fault.OutOfTurn new
Connects old (command.Send c) new = Ends old fault.OutOfTurn new
Connects old (command.Subscribe c) new = Ends old fault.OutOfTurn new
Connects old (command.Flow c) new = Ends old fault.OutOfTurn new
Connects old (command.Ack c) new = Ends old fault.OutOfTurn new
Connects old (command.Unsubscribe c) new = Ends old fault.OutOfTurn new
Connects old (command.CloseProducer c) new = Ends old fault.OutOfTurn new
Connects old (command.CloseConsumer c) new = Ends old fault.OutOfTurn new
Connects old command.Ping new = Ends old fault.OutOfTurn new
Connects old command.Pong new = Ends old fault.OutOfTurn new
Connects old (command.RedeliverUnacknowledgedMessages c) new = Ends old fault.OutOfTurn new
Connects old (command.PartitionedMetadata c) new = Ends old fault.OutOfTurn new
Connects old (command.Lookup c) new = Ends old fault.OutOfTurn new
Connects old (command.Other k) new = Ends old fault.UnknownCommand new

abbrev pub FrameIn : Type 0 → Option Fault → Bool → Play → Frame → Play → Type 0
FrameIn Fails None true old frame new = WorksCommand Fails old frame.command frame.entry new
FrameIn Fails None false old frame new = Connects old frame.command new
FrameIn Fails (Some why) connected old frame new = new ≡ old

-- one frame; a session that ended works none
abbrev pub FrameStep : Type 0 → Play → Frame → Play → Type 0
FrameStep Fails old frame new = FrameIn Fails old.client.fault old.client.connected old frame new

-- the name of the topic that a command may search for
abbrev pub asked_by : Command → List (List ℕ)
asked_by (command.Connect c) = []
asked_by (command.Producer c) = c.topic ∷ []
asked_by (command.Send c) = []
asked_by (command.Subscribe c) = c.topic ∷ []
asked_by (command.Flow c) = []
asked_by (command.Ack c) = []
asked_by (command.Unsubscribe c) = []
asked_by (command.CloseProducer c) = []
asked_by (command.CloseConsumer c) = []
asked_by command.Ping = []
asked_by command.Pong = []
asked_by (command.RedeliverUnacknowledgedMessages c) = []
asked_by (command.PartitionedMetadata c) = []
asked_by (command.Lookup c) = []
asked_by (command.Other k) = []

-- those that frames may search for
abbrev pub names_in : List Frame → List (List ℕ)
names_in frames = flat_map (λ frame. asked_by frame.command) frames

-- frames, in order
abbrev pub FramesStep : Type 0 → Play → List Frame → Play → Type 0
FramesStep Fails old [] new = new ≡ old
FramesStep Fails old (frame ∷ frames) new = (between : Play) × FrameStep Fails old frame between × FramesStep Fails between frames new

-- the first fault ends the session
abbrev pub first_fault : Option Fault → Result (Unit {0}) FrameFault → Option Fault
first_fault (Some why) read = Some why
first_fault None (Ok u) = None
first_fault None (Err flaw) = Some (fault_of flaw)

-- the fault of its stream ends a session that has none yet
abbrev pub ended_if : Result (Unit {0}) FrameFault → Play → Play
ended_if read p = record p { client = record p.client { fault = first_fault p.client.fault read } }

abbrev pub with_progress : Play → Progress → Play
with_progress p progress = record p { client = record p.client { progress = progress } }

-- the frames that are whole now are worked in order; then a fault that the bytes show ends the session.
-- A session that has ended leaves each topic
pub record Feeds (Fails : Type 0) (old : Play) (bytes : List ℕ) (new : Play) : Type 0 where
  pub frames : List Frame
  pub read : Result (Unit {0}) FrameFault
  pub progress : Progress
  pub feeds : FeedsOn old.client.progress bytes [] frames read progress
  pub worked : Play
  pub works : FramesStep Fails (with_progress old progress) frames worked
  pub ends : new ≡ left_if_ended (ended_if read worked)

-- none, or the names that the frames may search for which are whole with these bytes
abbrev pub AreAskedIn : Client → List ℕ → List (List ℕ) → Type 0
AreAskedIn client bytes names =
    (names ≡ []) ⊎ ((frames : List Frame) × (read : Result (Unit {0}) FrameFault) × (progress : Progress) × FeedsOn client.progress bytes [] frames read progress × (names ≡ names_in frames))

-- a session searches for such names, and this holds of them
pub record SearchesIn (client : Client) (bytes : List ℕ) (P : List (List ℕ) → Type 0) : Type 0 where
  pub names : List (List ℕ)
  pub asked : AreAskedIn client bytes names
  pub holds : P names

-- a call answers the fault of a session that has ended
abbrev pub feed_result : Option Fault → Result (Unit {0}) Fault
feed_result None = Ok tt
feed_result (Some why) = Err why

abbrev pub FeedIn : Type 0 → Option Fault → Play → List ℕ → Result (Unit {0}) Fault → Play → Type 0
FeedIn Fails None old bytes result new = Feeds Fails old bytes new × (result ≡ feed_result new.client.fault)
FeedIn Fails (Some why) old bytes result new = (result ≡ Err why) × (new ≡ old)

-- bytes come; a session that ended works none of them
abbrev pub FeedStep : Type 0 → Play → List ℕ → Result (Unit {0}) Fault → Play → Type 0
FeedStep Fails old bytes result new = FeedIn Fails old.client.fault old bytes result new
