-- Each step of a session writes whole frames.
use Rattle.std.proofs.Common.{◌≡◌, inl, inr, ℕ, ◌-◌, zero, suc, List, [], ◌∷◌, Bool, true, false, Option, Some, None, Result, Ok, Err, ap, ⊎_elim}
use Rattle.commands.specs.declared.command.Command.{Command}
use Rattle.commands.specs.declared.command.Command.TheVariants.{Connect, Producer, Send, Subscribe, Ack, Flow, Unsubscribe, CloseProducer, CloseConsumer, Ping, Pong, RedeliverUnacknowledgedMessages, PartitionedMetadata, Lookup, Other}
use Rattle.commands.specs.declared.lookup.LookupTopic.{LookupTopic}
use Rattle.commands.specs.declared.lookup.PartitionedTopicMetadata.{PartitionedTopicMetadata}
use Rattle.commands.specs.declared.producing.Producer.{Producer as Asked}
use Rattle.commands.specs.declared.producing.Send.{Send as Sent}
use Rattle.commands.specs.declared.reply.Reply.{Reply}
use Rattle.commands.specs.declared.consuming.Subscribe.{Subscribe as Wanted}
use Rattle.commands.specs.declared.consuming.Ack.{Ack as Acked}
use Rattle.commands.specs.declared.consuming.Flow.{Flow as Given}
use Rattle.commands.specs.declared.consuming.Unsubscribe.{Unsubscribe as Removed}
use Rattle.commands.specs.declared.giving_back.CloseConsumer.{CloseConsumer as Detached}
use Rattle.commands.specs.declared.giving_back.Redeliver.{Redeliver as Returned}
use Rattle.commands.specs.declared.producing.CloseProducer.{CloseProducer as Closed}
use Rattle.commands.specs.declared.server_error.ServerError.{ServerError}
use Rattle.frames.specs.declared.frame.Frame.{Frame}
use Rattle.frames.specs.declared.frame.FrameEntry.{FrameEntry}
use Rattle.topic_core.specs.declared.command.SentEntry.{SentEntry}
use Rattle.session.specs.declared.fault.Fault.{Fault}
use Rattle.session.specs.declared.port.Found.{Found}
use Rattle.gated_log.specs.declared.read_error.ReadError.{ReadError}
use Rattle.session.specs.declared.port.Found.TheVariants.{Topic, TooMany, NoMemory, Failed}
use Rattle.session.specs.declared.pumping.More.{More}
use Rattle.session.specs.declared.pumping.PumpFault.{PumpFault}
use Rattle.session.specs.declared.entry.Entry.{Entry}
use Rattle.session.specs.Client.{Play, plain, Ends, SaysAlone, Writes}
use Rattle.session.specs.Producing.{FoundStep, ProducerIn, SendIn, CloseIn}
use Rattle.session.specs.Consuming as consuming
use Rattle.session.specs.Consuming.{SubscribeIn, FlowIn, RefusesAck, AckIn, UnsubscribeIn}
use Rattle.session.specs.GivingBack.{CloseConsumerIn, RedeliverIn}
use Rattle.session.specs.Lookup.{LookupIn, PartitionsIn}
use Rattle.session.specs.Working.{WorksCommand, Connects, FrameIn, FramesStep, FeedIn}
use Rattle.session.specs.Pumping.{Collects, Sends, Serves, ServesEach, ServesAll, ServesIf, PumpIn}
use Rattle.session.specs.Laws.{FeedsWriteFrames, PumpsWriteFrames}
use Rattle.session.proofs.Speaking.{writes_nothing, writes_both, speaks_says, speaks_answered}

-- where nothing but the client or the broker changes
pub writes_same : (old new : Play) → new.out ≡ old.out → Writes old.out new.out
writes_same old new e = writes_nothing old.out new.out e

pub ends_writes : (old new : Play) (why : Fault) → Ends old why new → Writes old.out new.out
ends_writes old new why h = writes_same old new (ap (λ (p : Play). p.out) h)

pub says_writes : (old new : Play) (r : Reply) → SaysAlone old r new → Writes old.out new.out
says_writes old new r h = (speaks_says old.client new.client old.out new.out (plain r) h.0).writes

pub found_writes : (found : Found) (old : Play) (asked : Asked) (new : Play) → FoundStep (Unit {0}) old asked found new → Writes old.out new.out
found_writes (Topic number) old asked new (inl h) = (speaks_answered _ new.client old.out new.out h.answer h.answered).writes
found_writes (Topic number) old asked new (inr h) = ends_writes old new _ h
found_writes TooMany old asked new h = says_writes old new _ h
found_writes NoMemory old asked new h = ends_writes old new _ h
found_writes Failed old asked new h = says_writes old new _ h.1

pub producer_writes : (refusal : Option ServerError) (old : Play) (asked : Asked) (new : Play) → ProducerIn (Unit {0}) refusal old asked new → Writes old.out new.out
producer_writes (Some error) old asked new h = says_writes old new _ h
producer_writes None old asked new h = found_writes h.found (record old { broker = h.between }) asked new h.asks

pub send_writes : (topic : Option ℕ) (entry : Option SentEntry) (old : Play) (asked : Sent) (new : Play) → SendIn topic entry old asked new → Writes old.out new.out
send_writes None None old asked new h = ends_writes old new _ h
send_writes (Some topic) None old asked new h = ends_writes old new _ h
send_writes None (Some entry) old asked new h = says_writes old new _ h
send_writes (Some topic) (Some entry) old asked new h = (speaks_answered old.client new.client old.out new.out h.answer h.answered).writes

pub wanted_writes : (found : Found) (old : Play) (asked : Wanted) (new : Play) → consuming.FoundStep (Unit {0}) old asked found new → Writes old.out new.out
wanted_writes (Topic number) old asked new (inl h) = (speaks_answered _ new.client old.out new.out h.answer h.answered).writes
wanted_writes (Topic number) old asked new (inr h) = ends_writes old new _ h
wanted_writes TooMany old asked new h = says_writes old new _ h
wanted_writes NoMemory old asked new h = ends_writes old new _ h
wanted_writes Failed old asked new h = says_writes old new _ h.1

pub subscribe_writes : (refusal : Option ServerError) (old : Play) (asked : Wanted) (new : Play) → SubscribeIn (Unit {0}) refusal old asked new → Writes old.out new.out
subscribe_writes (Some error) old asked new h = says_writes old new _ h
subscribe_writes None old asked new h = wanted_writes h.found (record old { broker = h.between }) asked new h.asks

pub flow_writes : (topic : Option ℕ) (old : Play) (asked : Given) (new : Play) → FlowIn topic old asked new → Writes old.out new.out
flow_writes None old asked new h = writes_same old new (ap (λ (p : Play). p.out) h)
flow_writes (Some topic) old asked new h = writes_same old new h.out

pub refused_ack_writes : (request : Option ℕ) (old : Play) (id : ℕ) (new : Play) → RefusesAck request old id new → Writes old.out new.out
refused_ack_writes None old id new h = writes_same old new (ap (λ (p : Play). p.out) h)
refused_ack_writes (Some request) old id new h = says_writes old new _ h

pub ack_writes : (topic : Option ℕ) (old : Play) (asked : Acked) (new : Play) → AckIn topic old asked new → Writes old.out new.out
ack_writes None old asked new h = refused_ack_writes asked.request_id old asked.consumer_id new h
ack_writes (Some topic) old asked new h = (speaks_answered old.client new.client old.out new.out h.answer h.answered).writes

pub close_writes : (topic : Option ℕ) (old : Play) (asked : Closed) (new : Play) → CloseIn topic old asked new → Writes old.out new.out
close_writes None old asked new h = says_writes old new _ h
close_writes (Some topic) old asked new h = (speaks_answered old.client new.client old.out new.out h.answer h.answered).writes

pub unsubscribe_writes : (topic : Option ℕ) (old : Play) (asked : Removed) (new : Play) → UnsubscribeIn topic old asked new → Writes old.out new.out
unsubscribe_writes None old asked new h = says_writes old new _ h
unsubscribe_writes (Some topic) old asked new h = (speaks_answered old.client new.client old.out new.out h.answer h.answered).writes

pub close_consumer_writes : (topic : Option ℕ) (old : Play) (asked : Detached) (new : Play) → CloseConsumerIn topic old asked new → Writes old.out new.out
close_consumer_writes None old asked new h = says_writes old new _ h
close_consumer_writes (Some topic) old asked new h = (speaks_answered old.client new.client old.out new.out h.answer h.answered).writes

pub redeliver_writes : (topic : Option ℕ) (old : Play) (asked : Returned) (new : Play) → RedeliverIn topic old asked new → Writes old.out new.out
redeliver_writes None old asked new h = writes_same old new (ap (λ (p : Play). p.out) h)
redeliver_writes (Some topic) old asked new h = (speaks_answered old.client new.client old.out new.out h.answer h.answered).writes

lookup_writes : (named : Bool) (old : Play) (asked : LookupTopic) (new : Play) → LookupIn named old asked new → Writes old.out new.out
lookup_writes true old asked new h = says_writes old new _ h
lookup_writes false old asked new h = says_writes old new _ h

partitions_writes : (named : Bool) (old : Play) (asked : PartitionedTopicMetadata) (new : Play) → PartitionsIn named old asked new → Writes old.out new.out
partitions_writes true old asked new h = says_writes old new _ h
partitions_writes false old asked new h = says_writes old new _ h

pub command_writes : (c : Command) (old : Play) (entry : FrameEntry) (new : Play) → WorksCommand (Unit {0}) old c entry new → Writes old.out new.out
command_writes (Connect c) old entry new h = ends_writes old new _ h
command_writes (Producer c) old entry new h = producer_writes _ _ c new h
command_writes (Send c) old entry new h = send_writes _ _ old c new h
command_writes (Subscribe c) old entry new h = subscribe_writes _ _ c new h
command_writes (Flow c) old entry new h = flow_writes _ old c new h
command_writes (Ack c) old entry new h = ack_writes _ old c new h
command_writes (Unsubscribe c) old entry new h = unsubscribe_writes _ old c new h
command_writes (CloseProducer c) old entry new h = close_writes _ old c new h
command_writes (CloseConsumer c) old entry new h = close_consumer_writes _ old c new h
command_writes Ping old entry new h = says_writes old new _ h
command_writes Pong old entry new h = writes_same old new (ap (λ (p : Play). p.out) h)
command_writes (RedeliverUnacknowledgedMessages c) old entry new h = redeliver_writes _ old c new h
command_writes (PartitionedMetadata c) old entry new h = partitions_writes _ old c new h
command_writes (Lookup c) old entry new h = lookup_writes _ old c new h
command_writes (Other k) old entry new h = ends_writes old new _ h

pub connects_writes : (c : Command) (old new : Play) → Connects old c new → Writes old.out new.out
connects_writes (Connect c) old new h = says_writes _ new _ h
connects_writes (Producer c) old new h = ends_writes old new _ h
connects_writes (Send c) old new h = ends_writes old new _ h
connects_writes (Subscribe c) old new h = ends_writes old new _ h
connects_writes (Flow c) old new h = ends_writes old new _ h
connects_writes (Ack c) old new h = ends_writes old new _ h
connects_writes (Unsubscribe c) old new h = ends_writes old new _ h
connects_writes (CloseProducer c) old new h = ends_writes old new _ h
connects_writes (CloseConsumer c) old new h = ends_writes old new _ h
connects_writes Ping old new h = ends_writes old new _ h
connects_writes Pong old new h = ends_writes old new _ h
connects_writes (RedeliverUnacknowledgedMessages c) old new h = ends_writes old new _ h
connects_writes (PartitionedMetadata c) old new h = ends_writes old new _ h
connects_writes (Lookup c) old new h = ends_writes old new _ h
connects_writes (Other k) old new h = ends_writes old new _ h

pub frame_writes : (fault : Option Fault) (connected : Bool) (old : Play) (frame : Frame) (new : Play) → FrameIn (Unit {0}) fault connected old frame new → Writes old.out new.out
frame_writes None true old frame new h = command_writes frame.command old frame.entry new h
frame_writes None false old frame new h = connects_writes frame.command old new h
frame_writes (Some why) connected old frame new h = writes_same old new (ap (λ (p : Play). p.out) h)

pub frames_write : (frames : List Frame) (old new : Play) → FramesStep (Unit {0}) old frames new → Writes old.out new.out
frames_write [] old new h = writes_same old new (ap (λ (p : Play). p.out) h)
frames_write (frame ∷ frames) old new h = writes_both old.out h.0.out new.out (frame_writes _ _ old frame h.0 h.1) (frames_write frames h.0 new h.2)

pub feed_writes : (fault : Option Fault) (old : Play) (bytes : List ℕ) (result : Result (Unit {0}) Fault) (new : Play) → FeedIn (Unit {0}) fault old bytes result new → Writes old.out new.out
feed_writes None old bytes result new h =
    writes_both old.out h.0.worked.out new.out (frames_write h.0.frames _ h.0.worked h.0.works) (writes_same h.0.worked new (ap (λ (p : Play). p.out) h.0.ends))
feed_writes (Some why) old bytes result new h = writes_same old new (ap (λ (p : Play). p.out) h.1)

pub feeds_write_frames : FeedsWriteFrames
feeds_write_frames old bytes result new h = feed_writes old.client.fault old bytes result new h

pub collects_writes : (count : ℕ) (old new : Play) → Collects count old new → Writes old.out new.out
collects_writes zero old new h = writes_same old new (ap (λ (p : Play). p.out) h)
collects_writes (suc count) old new h =
    writes_both old.out h.0.out new.out (collects_writes count old h.0 h.1) ((speaks_says h.0.client new.client h.0.out new.out (plain h.3.reply) h.3.says).writes)

pub sends_write : (consumer : Entry) (count : ℕ) (old new : Play) → Sends consumer count old new → Writes old.out new.out
sends_write consumer zero old new h = writes_same old new (ap (λ (p : Play). p.out) h)
sends_write consumer (suc count) old new h =
    writes_both old.out h.0.out new.out (sends_write consumer count old h.0 h.1) ((speaks_says h.0.client new.client h.0.out new.out h.2.message h.2.says).writes)

module _ (Refused : ℕ → ReadError → Type 0) where
  pub serves_writes : (consumer : Entry) (most count : ℕ) (old new : Play) → Serves Refused consumer most count old new → Writes old.out new.out
  serves_writes consumer most count old new h =
      writes_both old.out h.sent.out new.out (sends_write consumer count old h.sent h.sends)
      (⊎_elim (λ same. writes_same h.sent new (ap (λ (p : Play). p.out) same)) (λ stops. ends_writes h.sent new _ stops.ends) h.stops)

  pub serves_each_writes : (consumers : List Entry) (most count : ℕ) (old new : Play) → ServesEach Refused consumers most count old new → Writes old.out new.out
  serves_each_writes [] most count old new h = writes_same old new (ap (λ (p : Play). p.out) h.1)
  serves_each_writes (consumer ∷ consumers) most count old new h =
      writes_both old.out h.2.out new.out (serves_writes consumer most h.0 old h.2 h.3) (serves_each_writes consumers (most - h.0) h.1 h.2 new h.4)

  pub serves_all_writes : (consumers : List Entry) (most : ℕ) (result : Result ℕ PumpFault) (old new : Play) → ServesAll Refused consumers most result old new → Writes old.out new.out
  serves_all_writes consumers most (Ok count) old new h = serves_each_writes consumers most count old new h
  serves_all_writes consumers most (Err why) old new h =
      writes_both old.out h.between.out new.out (serves_each_writes h.before most h.count old h.between h.served) (sends_write h.consumer h.until.count h.between new h.until.sends)

  pub serves_if_writes : (goes_on : Bool) (result : Result ℕ PumpFault) (old new : Play) → ServesIf Refused goes_on result old new → Writes old.out new.out
  serves_if_writes true result old new h = serves_all_writes old.client.consumers 64 result old new h
  serves_if_writes false result old new h = writes_same old new (ap (λ (p : Play). p.out) h.1)

  pub pump_writes : (fault : Option Fault) (old : Play) (result : Result More PumpFault) (new : Play) → PumpIn Refused fault old result new → Writes old.out new.out
  pump_writes None old result new h =
      writes_both old.out h.collected.out new.out (collects_writes h.replies old h.collected h.collects)
      (writes_both h.collected.out h.served.out new.out (serves_if_writes _ h.messages h.collected h.served h.serves) (writes_same h.served new (ap (λ (p : Play). p.out) h.ends)))
  pump_writes (Some why) old result new h = writes_same old new (ap (λ (p : Play). p.out) h.1)

pub pumps_write_frames : PumpsWriteFrames
pumps_write_frames old result new h = pump_writes (λ topic why. Unit {0}) old.client.fault old result new h
