-- A session's consumers stay in rising id.
use Rattle.std.proofs.Common.{◌≡◌, ◌⊎◌, inl, inr, ◌-◌, ℕ, zero, suc, List, [], ◌∷◌, Bool, true, false, cond, refl, sym, ap, ◌∙◌, subst, Option, Some, None, Result, Ok, Err}
use Rattle.commands.specs.declared.command.Command.{Command}
use Rattle.commands.specs.declared.command.Command.TheVariants.{Connect, Producer, Send, Subscribe, Ack, Flow, Unsubscribe, CloseProducer, CloseConsumer, Ping, Pong, RedeliverUnacknowledgedMessages, PartitionedMetadata, Lookup, Other}
use Rattle.commands.specs.declared.consuming.Subscribe.{Subscribe as Wanted}
use Rattle.commands.specs.declared.consuming.Ack.{Ack as Acked}
use Rattle.commands.specs.declared.consuming.Flow.{Flow as Given}
use Rattle.commands.specs.declared.consuming.Unsubscribe.{Unsubscribe as Removed}
use Rattle.commands.specs.declared.giving_back.CloseConsumer.{CloseConsumer as Detached}
use Rattle.commands.specs.declared.giving_back.Redeliver.{Redeliver as Returned}
use Rattle.commands.specs.declared.lookup.LookupTopic.{LookupTopic}
use Rattle.commands.specs.declared.lookup.PartitionedTopicMetadata.{PartitionedTopicMetadata}
use Rattle.commands.specs.declared.producing.CloseProducer.{CloseProducer as Closed}
use Rattle.commands.specs.declared.producing.Producer.{Producer as Asked}
use Rattle.commands.specs.declared.producing.Send.{Send as Sent}
use Rattle.commands.specs.declared.reply.Reply.{Reply}
use Rattle.commands.specs.declared.server_error.ServerError.{ServerError}
use Rattle.frames.specs.declared.frame.Frame.{Frame}
use Rattle.frames.specs.declared.frame.FrameEntry.{FrameEntry}
use Rattle.permits.specs.declared.plain.TooManyPermits.{TooManyPermits}
use Rattle.topic_core.specs.declared.command.Answer.{Answer}
use Rattle.topic_core.specs.declared.command.Answer.TheVariants.{Now, Later, Nothing, NoMemory}
use Rattle.topic_core.specs.declared.command.SentEntry.{SentEntry}
use Rattle.topic_core.specs.declared.dispatch.Outgoing.{Outgoing}
use Rattle.topic_core.specs.Steps.{first_standing}
use Rattle.session.specs.declared.entry.Entry.{Entry}
use Rattle.session.specs.declared.fault.Fault.{Fault}
use Rattle.session.specs.declared.port.Found.{Found}
use Rattle.session.specs.declared.port.Found.TheVariants as found
use Rattle.session.specs.declared.pumping.More.{More}
use Rattle.gated_log.specs.declared.read_error.ReadError.{ReadError}
use Rattle.session.specs.declared.pumping.PumpFault.{PumpFault}
use Rattle.session.specs.Client.{Client, Play, plain, Ends, Says, SaysAlone, Answered}
use Rattle.session.specs.Producing as producing
use Rattle.session.specs.Table.{has_entry, AreRising}
use Rattle.session.specs.Consuming.{is_live, own_refusals, is_later, with_consumer, granting, with_live_consumers, FoundStep, SubscribeIn, FlowIn, RefusesAck, AckIn, UnsubscribeIn}
use Rattle.session.specs.GivingBack.{CloseConsumerIn, RedeliverIn}
use Rattle.session.specs.Lookup.{LookupIn, PartitionsIn}
use Rattle.session.specs.Working.{WorksCommand, connected_client, Connects, FrameIn, FramesStep, FeedIn, FeedStep}
use Rattle.session.specs.Pumping.{Collects, Sends, FindsNoMemory, ServesEach, ServesAll, ServesIf, PumpIn, PumpStep}
use Rattle.session.proofs.Ordered.{rising-filter, rising-with}

-- what rises, where the consumers are the same
same : (a b : Client) → b.consumers ≡ a.consumers → AreRising a.consumers → AreRising b.consumers
same a b e rise = subst AreRising (sym e) rise

said : (a : Client) (out : List ℕ) (o : Outgoing) (b : Client) (out' : List ℕ) → Says a out o b out' → b.consumers ≡ a.consumers
said a out o b out' (inl went) = ap (λ (c : Client). c.consumers) went.0
said a out o b out' (inr lost) = ap (λ (c : Client). c.consumers) lost.0

answered : (x : Answer) (a : Client) (out : List ℕ) (b : Client) (out' : List ℕ) → Answered a out x b out' → b.consumers ≡ a.consumers
answered (Now r) a out b out' h = said a out (plain r) b out' h
answered Later a out b out' h = ap (λ (c : Client). c.consumers) h.0
answered Nothing a out b out' h = ap (λ (c : Client). c.consumers) h.0
answered NoMemory a out b out' h = ap (λ (c : Client). c.consumers) h.0

-- the consumers of two plays are the same
abbrev Keeps : Play → Play → Type 0
Keeps p q = q.client.consumers ≡ p.client.consumers

said_alone : (old : Play) (r : Reply) (new : Play) → SaysAlone old r new → Keeps old new
said_alone old r new h = said old.client old.out (plain r) new.client new.out h.0

still : (p q : Play) → q ≡ p → Keeps p q
still p q is = ap (λ (x : Play). x.client.consumers) is

ends : (old new : Play) (why : Fault) → Ends old why new → Keeps old new
ends old new why h = ap (λ (x : Play). x.client.consumers) h

producing_found : (f : Found) (old : Play) (asked : Asked) (new : Play) → producing.FoundStep (Unit {0}) old asked f new → Keeps old new
producing_found (found.Topic number) old asked new (inl h) = answered h.answer _ old.out new.client new.out h.answered
producing_found (found.Topic number) old asked new (inr h) = ends old new _ h
producing_found found.TooMany old asked new h = said_alone old _ new h
producing_found found.NoMemory old asked new h = ends old new _ h
producing_found found.Failed old asked new h = said_alone old _ new h.1

produces : (refusal : Option ServerError) (old : Play) (asked : Asked) (new : Play) → producing.ProducerIn (Unit {0}) refusal old asked new → Keeps old new
produces (Some error) old asked new h = said_alone old _ new h
produces None old asked new h = producing_found h.found (record old { broker = h.between }) asked new h.asks

sends : (topic : Option ℕ) (entry : Option SentEntry) (old : Play) (asked : Sent) (new : Play) → producing.SendIn topic entry old asked new → Keeps old new
sends None None old asked new h = ends old new _ h
sends (Some topic) None old asked new h = ends old new _ h
sends None (Some entry) old asked new h = said_alone old _ new h
sends (Some topic) (Some entry) old asked new h = answered h.answer old.client old.out new.client new.out h.answered

grants : (c : Client) (result : Result (Unit {0}) TooManyPermits) → (granting c result).consumers ≡ c.consumers
grants c (Ok done) = refl
grants c (Err why) = refl

flows : (topic : Option ℕ) (old : Play) (asked : Given) (new : Play) → FlowIn topic old asked new → Keeps old new
flows None old asked new h = still old new h
flows (Some topic) old asked new h = ap (λ (c : Client). c.consumers) h.client ∙ grants old.client h.result

refuses_ack : (request : Option ℕ) (old : Play) (id : ℕ) (new : Play) → RefusesAck request old id new → Keeps old new
refuses_ack None old id new h = still old new h
refuses_ack (Some request) old id new h = said_alone old _ new h

acks : (topic : Option ℕ) (old : Play) (asked : Acked) (new : Play) → AckIn topic old asked new → Keeps old new
acks None old asked new h = refuses_ack asked.request_id old asked.consumer_id new h
acks (Some topic) old asked new h = answered h.answer old.client old.out new.client new.out h.answered

closes : (topic : Option ℕ) (old : Play) (asked : Closed) (new : Play) → producing.CloseIn topic old asked new → Keeps old new
closes None old asked new h = said_alone old _ new h
closes (Some topic) old asked new h = answered h.answer old.client old.out new.client new.out h.answered

unsubscribes : (topic : Option ℕ) (old : Play) (asked : Removed) (new : Play) → UnsubscribeIn topic old asked new → Keeps old new
unsubscribes None old asked new h = said_alone old _ new h
unsubscribes (Some topic) old asked new h = answered h.answer old.client old.out new.client new.out h.answered

closes_consumer : (topic : Option ℕ) (old : Play) (asked : Detached) (new : Play) → CloseConsumerIn topic old asked new → Keeps old new
closes_consumer None old asked new h = said_alone old _ new h
closes_consumer (Some topic) old asked new h = answered h.answer old.client old.out new.client new.out h.answered

redelivers : (topic : Option ℕ) (old : Play) (asked : Returned) (new : Play) → RedeliverIn topic old asked new → Keeps old new
redelivers None old asked new h = still old new h
redelivers (Some topic) old asked new h = answered h.answer old.client old.out new.client new.out h.answered

-- SUBSCRIBE keeps them rising
abbrev Rises : Play → Play → Type 0
Rises p q = AreRising p.client.consumers → AreRising q.client.consumers

rises : (p q : Play) → Keeps p q → Rises p q
rises p q k = same p.client q.client k

subscribing_found : (f : Found) (old : Play) (asked : Wanted) (new : Play) → has_entry old.client.consumers asked.consumer_id ≡ false → FoundStep (Unit {0}) old asked f new → Rises old new
subscribing_found (found.Topic number) old asked new fresh (inl h) = λ rise.
    same (with_consumer old.client (is_later h.answer) asked.consumer_id number) new.client (answered h.answer _ old.out new.client new.out h.answered)
    (rising-with old.client.consumers (is_later h.answer) asked.consumer_id number fresh rise)
subscribing_found (found.Topic number) old asked new fresh (inr h) = rises old new (ends old new _ h)
subscribing_found found.TooMany old asked new fresh h = rises old new (said_alone old _ new h)
subscribing_found found.NoMemory old asked new fresh h = rises old new (ends old new _ h)
subscribing_found found.Failed old asked new fresh h = rises old new (said_alone old _ new h.1)

subscribes_in : (refusal : Option ServerError) (old : Play) (asked : Wanted) (new : Play) → (refusal ≡ None → has_entry old.client.consumers asked.consumer_id ≡ false) → SubscribeIn (Unit {0}) refusal old asked new → Rises old new
subscribes_in (Some error) old asked new fresh h = rises old new (said_alone old _ new h)
subscribes_in None old asked new fresh h = subscribing_found h.found (record old { broker = h.between }) asked new (fresh refl) h.asks

-- no refusal stands, so neither does the first one
first_is_false : (b : Bool) (error : ServerError) (others : Option ServerError) → cond b (Some error) others ≡ None → b ≡ false
first_is_false true error others h = absurd (let no : ⊥ = cc in no)
first_is_false false error others h = refl

subscribes : (old : Play) (asked : Wanted) (new : Play) → SubscribeIn (Unit {0}) (first_standing (own_refusals old.client.consumers asked)) old asked new → Rises old new
subscribes old asked new h = subscribes_in (first_standing (own_refusals old.client.consumers asked)) old asked new (first_is_false _ _ _) h

looks_up : (named : Bool) (old : Play) (asked : LookupTopic) (new : Play) → LookupIn named old asked new → Keeps old new
looks_up true old asked new h = said_alone old _ new h
looks_up false old asked new h = said_alone old _ new h

tells_partitions : (named : Bool) (old : Play) (asked : PartitionedTopicMetadata) (new : Play) → PartitionsIn named old asked new → Keeps old new
tells_partitions true old asked new h = said_alone old _ new h
tells_partitions false old asked new h = said_alone old _ new h

works : (c : Command) (old : Play) (entry : FrameEntry) (new : Play) → WorksCommand (Unit {0}) old c entry new → Rises old new
works (Connect c) old entry new h = rises old new (ends old new _ h)
works (Producer c) old entry new h = rises old new (produces _ (producing.with_live_producers old) c new h)
works (Send c) old entry new h = rises old new (sends _ _ old c new h)
works (Subscribe c) old entry new h = λ rise. subscribes (with_live_consumers old) c new h (rising-filter (is_live old.broker old.client.number) old.client.consumers rise)
works (Flow c) old entry new h = rises old new (flows _ old c new h)
works (Ack c) old entry new h = rises old new (acks _ old c new h)
works (Unsubscribe c) old entry new h = rises old new (unsubscribes _ old c new h)
works (CloseProducer c) old entry new h = rises old new (closes _ old c new h)
works (CloseConsumer c) old entry new h = rises old new (closes_consumer _ old c new h)
works Ping old entry new h = rises old new (said_alone old _ new h)
works Pong old entry new h = rises old new (still old new h)
works (RedeliverUnacknowledgedMessages c) old entry new h = rises old new (redelivers _ old c new h)
works (PartitionedMetadata c) old entry new h = rises old new (tells_partitions _ old c new h)
works (Lookup c) old entry new h = rises old new (looks_up _ old c new h)
works (Other k) old entry new h = rises old new (ends old new _ h)

connects : (c : Command) (old new : Play) → Connects old c new → Keeps old new
connects (Connect c) old new h = said_alone (record old { client = connected_client old.client }) _ new h
connects (Producer c) old new h = ends old new _ h
connects (Send c) old new h = ends old new _ h
connects (Subscribe c) old new h = ends old new _ h
connects (Flow c) old new h = ends old new _ h
connects (Ack c) old new h = ends old new _ h
connects (Unsubscribe c) old new h = ends old new _ h
connects (CloseProducer c) old new h = ends old new _ h
connects (CloseConsumer c) old new h = ends old new _ h
connects Ping old new h = ends old new _ h
connects Pong old new h = ends old new _ h
connects (RedeliverUnacknowledgedMessages c) old new h = ends old new _ h
connects (PartitionedMetadata c) old new h = ends old new _ h
connects (Lookup c) old new h = ends old new _ h
connects (Other k) old new h = ends old new _ h

frame_rises : (fault : Option Fault) (connected : Bool) (old : Play) (frame : Frame) (new : Play) → FrameIn (Unit {0}) fault connected old frame new → Rises old new
frame_rises None true old frame new h = works frame.command old frame.entry new h
frame_rises None false old frame new h = rises old new (connects frame.command old new h)
frame_rises (Some why) connected old frame new h = rises old new (still old new h)

frames_rise : (frames : List Frame) (old new : Play) → FramesStep (Unit {0}) old frames new → Rises old new
frames_rise [] old new h = rises old new (still old new h)
frames_rise (frame ∷ frames) old new h = λ rise. frames_rise frames h.0 new h.2 (frame_rises _ _ old frame h.0 h.1 rise)

feed_rises : (fault : Option Fault) (old : Play) (bytes : List ℕ) (result : Result (Unit {0}) Fault) (new : Play) → FeedIn (Unit {0}) fault old bytes result new → Rises old new
feed_rises None old bytes result new h = λ rise.
    same h.0.worked.client new.client (ap (λ (p : Play). p.client.consumers) h.0.ends) (frames_rise h.0.frames _ h.0.worked h.0.works rise)
feed_rises (Some why) old bytes result new h = rises old new (still old new h.1)

pub feeds_rise : (old : Play) (bytes : List ℕ) (result : Result (Unit {0}) Fault) (new : Play) → FeedStep (Unit {0}) old bytes result new → Rises old new
feeds_rise old bytes result new h = feed_rises old.client.fault old bytes result new h

collects : (count : ℕ) (old new : Play) → Collects count old new → Keeps old new
collects zero old new h = still old new h
collects (suc count) old new h = said h.0.client h.0.out (plain h.3.reply) new.client new.out h.3.says ∙ collects count old h.0 h.1

sends_messages : (consumer : Entry) (count : ℕ) (old new : Play) → Sends consumer count old new → Keeps old new
sends_messages consumer zero old new h = still old new h
sends_messages consumer (suc count) old new h = said h.0.client h.0.out h.2.message new.client new.out h.2.says ∙ sends_messages consumer count old h.0 h.1

module _ (Refused : ℕ → ReadError → Type 0) where
  stops : (topic : ℕ) (old new : Play) → (new ≡ old) ⊎ FindsNoMemory Refused topic old new → Keeps old new
  stops topic old new (inl h) = still old new h
  stops topic old new (inr h) = ends old new _ h.ends

  pub serves_each : (consumers : List Entry) (most count : ℕ) (old new : Play) → ServesEach Refused consumers most count old new → Keeps old new
  serves_each [] most count old new h = still old new h.1
  serves_each (c ∷ cs) most count old new h =
      serves_each cs (most - h.0) h.1 h.2 new h.4 ∙ stops c.topic h.3.sent h.2 h.3.stops ∙ sends_messages c h.0 old h.3.sent h.3.sends

  serves_all : (consumers : List Entry) (most : ℕ) (result : Result ℕ PumpFault) (old new : Play) → ServesAll Refused consumers most result old new → Keeps old new
  serves_all consumers most (Ok count) old new h = serves_each consumers most count old new h
  serves_all consumers most (Err why) old new h = sends_messages h.consumer h.until.count h.between new h.until.sends ∙ serves_each h.before most h.count old h.between h.served

  serves_if : (goes_on : Bool) (result : Result ℕ PumpFault) (old new : Play) → ServesIf Refused goes_on result old new → Keeps old new
  serves_if true result old new h = serves_all old.client.consumers 64 result old new h
  serves_if false result old new h = still old new h.1

  pump_keeps : (fault : Option Fault) (old : Play) (result : Result More PumpFault) (new : Play) → PumpIn Refused fault old result new → Keeps old new
  pump_keeps None old result new h =
      ap (λ (p : Play). p.client.consumers) h.ends ∙ serves_if _ h.messages h.collected h.served h.serves ∙ collects h.replies old h.collected h.collects
  pump_keeps (Some why) old result new h = still old new h.1

  pub pumps_rise : (old : Play) (result : Result More PumpFault) (new : Play) → PumpStep Refused old result new → Rises old new
  pumps_rise old result new h = rises old new (pump_keeps old.client.fault old result new h)
