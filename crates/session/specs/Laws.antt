-- What holds of every step of a session.
use Rattle.std.specs.Prelude.{◌≡◌, ℕ, ◌+◌, Bool, true, false, None, Some, List, [], Result, Ok, Err}
use Rattle.std.specs.List.{AllByRecursion}
use Rattle.commands.specs.declared.command.Command.{Command}
use Rattle.commands.specs.declared.command.Command.TheVariants as command
use Rattle.commands.specs.declared.giving_back.CloseConsumer.{CloseConsumer}
use Rattle.commands.specs.declared.giving_back.Redeliver.{Redeliver}
use Rattle.commands.specs.declared.reply.Reply.{Reply}
use Rattle.frames.specs.declared.frame.Frame.{Frame}
use Rattle.reply_queues.specs.Replies.{is_receipt, pending_to}
use Rattle.topic_core.specs.State.{Topic}
use Rattle.topic_core.specs.declared.dispatch.Outgoing.{Outgoing}
use Rattle.topic_core.specs.Steps.{has_producer, has_consumer, receipts_of}
use Rattle.session.specs.Broker.{Broker, topic_at, with_topic, due_at, collected_at, left_all}
use Rattle.session.specs.Client.{Play, new_client, plain, Says, frames_of, AreBounded, Writes}
use Rattle.session.specs.GivingBack.{CloseConsumerStep, RedeliverStep}
use Rattle.session.specs.Working.{FrameStep, FeedStep}
use Rattle.session.specs.Pumping.{HasNothingDue, AdmitsNothing, PumpStep}
pub use Rattle.session.specs.Table.{AreRising}
use Rattle.session.specs.declared.fault.Fault.{Fault}
use Rattle.session.specs.declared.fault.Fault.TheVariants.{NoMemory}
use Rattle.session.specs.declared.pumping.More.{More}
use Rattle.session.specs.declared.pumping.More.TheVariants.{No}
use Rattle.session.specs.declared.pumping.PumpFault.{PumpFault}
use Rattle.session.specs.declared.pumping.PumpFault.TheVariants.{Ended}

-- a pump, whichever messages it is refused
abbrev pub AnyPump : Play → Result More PumpFault → Play → Type 0
AnyPump old result new = PumpStep (λ topic why. Unit {0}) old result new

-- a feed and a frame of it, whatever a search meets
abbrev pub AnyFeed : Play → List ℕ → Result (Unit {0}) Fault → Play → Type 0
AnyFeed old bytes result new = FeedStep (Unit {0}) old bytes result new

abbrev pub AnyFrame : Play → Frame → Play → Type 0
AnyFrame old frame new = FrameStep (Unit {0}) old frame new

-- what goes out are frames, each whole
abbrev pub FeedsWriteFrames : Type 0
FeedsWriteFrames = (old : Play) (bytes : List ℕ) (result : Result (Unit {0}) Fault) (new : Play) → AnyFeed old bytes result new → Writes old.out new.out

abbrev pub PumpsWriteFrames : Type 0
PumpsWriteFrames = (old : Play) (result : Result More PumpFault) (new : Play) → AnyPump old result new → Writes old.out new.out

-- and no other ones, of replies within their bounds, have these bytes
abbrev pub FramesTell : Type 0
FramesTell = (written others : List Outgoing) → AreBounded written → AreBounded others → frames_of written ≡ frames_of others → written ≡ others

-- a pump that stopped by itself left nothing due
abbrev pub PumpsFinish : Type 0
PumpsFinish = (old new : Play) → AnyPump old (Ok No) new → HasNothingDue new

-- and no position that a consumer of the session may get
abbrev pub PumpsServe : Type 0
PumpsServe = (old new : Play) → AnyPump old (Ok No) new → AllByRecursion (λ consumer. AdmitsNothing consumer new) new.client.consumers

-- the ids of the session's consumers rise, so a pump serves them in rising id
pub record ConsumersRise : Type 0 where
  pub start : (number : ℕ) → AreRising (new_client number).consumers
  pub feed : (old : Play) (bytes : List ℕ) (result : Result (Unit {0}) Fault) (new : Play) → AnyFeed old bytes result new → AreRising old.client.consumers → AreRising new.client.consumers
  pub pump : (old : Play) (result : Result More PumpFault) (new : Play) → AnyPump old result new → AreRising old.client.consumers → AreRising new.client.consumers

-- no topic has a producer or a consumer of the session, or a reply for it
pub record HasLeft (p : Play) : Type 0 where
  pub producers : (topic id : ℕ) → has_producer (topic_at p.broker topic) p.client.number id ≡ false
  pub consumers : (topic id : ℕ) → has_consumer (topic_at p.broker topic) p.client.number id ≡ false
  pub due : (topic : ℕ) → due_at p.broker topic p.client.number ≡ []
  pub pending : (topic : ℕ) → pending_to p.client.number (topic_at p.broker topic).queues ≡ []

-- a session that a call ended has left
abbrev pub EndedFeedsLeave : Type 0
EndedFeedsLeave = (old : Play) (bytes : List ℕ) (why : Fault) (new : Play) → old.client.fault ≡ None → AnyFeed old bytes (Err why) new → HasLeft new

abbrev pub EndedPumpsLeave : Type 0
EndedPumpsLeave = (old : Play) (why : Fault) (new : Play) → old.client.fault ≡ None → AnyPump old (Err (Ended why)) new → HasLeft new

-- a topic whose count of receipts that were handed on has this reply too
abbrev pub counted : Topic → Reply → Topic
counted t reply = record t { handed = t.handed + receipts_of reply }

-- A session that leaves absorbs a reply that it took and that found no memory: the count of receipts that were handed on tells of
-- it, and nothing else does.
pub record LostRepliesAreAbsorbed : Type 0 where
  pub counts : (b : Broker) (number who : ℕ) (reply : Reply)
      → left_all (collected_at b number who reply) who ≡ with_topic (left_all b who) number (counted (topic_at (left_all b who) number) reply)
  pub others : (b : Broker) (number who : ℕ) (reply : Reply) → is_receipt reply ≡ false → left_all (collected_at b number who reply) who ≡ left_all b who

-- whether the command may end its session for want of memory: where a topic takes memory for it, or a reply goes out at once
abbrev pub may_lack_memory : Command → Bool
may_lack_memory (command.Connect c) = true
may_lack_memory (command.Producer c) = true
may_lack_memory (command.Send c) = true
may_lack_memory (command.Subscribe c) = true
may_lack_memory (command.Flow c) = false
may_lack_memory (command.Ack c) = true
may_lack_memory (command.Unsubscribe c) = true
may_lack_memory (command.CloseProducer c) = true
may_lack_memory (command.CloseConsumer c) = true
may_lack_memory command.Ping = true
may_lack_memory command.Pong = false
may_lack_memory (command.RedeliverUnacknowledgedMessages c) = false
may_lack_memory (command.PartitionedMetadata c) = true
may_lack_memory (command.Lookup c) = true
may_lack_memory (command.Other k) = false

-- A frame ends its session for want of memory only where its command may. A REDELIVER leaves its session and the bytes out as they
-- are, and of a CLOSE_CONSUMER the reply alone may find no memory: no topic answers either by want of memory.
pub record WantOfMemoryIsNamed : Type 0 where
  pub ends : (old : Play) (frame : Frame) (new : Play) → old.client.fault ≡ None → AnyFrame old frame new → new.client.fault ≡ Some NoMemory → may_lack_memory frame.command ≡ true
  pub redeliver : (old : Play) (asked : Redeliver) (new : Play) → RedeliverStep old asked new → (new.client ≡ old.client) × (new.out ≡ old.out)
  pub close_consumer : (old : Play) (asked : CloseConsumer) (new : Play) → CloseConsumerStep old asked new → (reply : Reply) × Says old.client old.out (plain reply) new.client new.out
