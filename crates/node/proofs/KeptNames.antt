-- A number keeps its name, and a broker its URL and its ledgers.
use Rattle.std.proofs.Common.{◌≡◌, ◌⊎◌, inl, inr, ⊎_elim, ◌∙◌, ℕ, zero, suc, ◌-◌, ◌<◌, nat_lt, Bool, true, false, Option, Some, None, Result, Ok, Err, List, [], ◌∷◌, ◌++◌, length, map, slice_get, slice_set, refl, sym, ap, subst}
use Rattle.std.proofs.lemmas.Option.{none-some}
use Rattle.commands.specs.declared.command.Command.{Command}
use Rattle.commands.specs.declared.command.Command.TheVariants as command
use Rattle.commands.specs.declared.consuming.Ack.{Ack as Acked}
use Rattle.commands.specs.declared.consuming.Flow.{Flow as Given}
use Rattle.commands.specs.declared.consuming.Subscribe.{Subscribe as Wanted}
use Rattle.commands.specs.declared.consuming.Unsubscribe.{Unsubscribe as Unwanted}
use Rattle.commands.specs.declared.giving_back.CloseConsumer.{CloseConsumer as Detached}
use Rattle.commands.specs.declared.giving_back.Redeliver.{Redeliver as Redelivered}
use Rattle.commands.specs.declared.lookup.LookupTopic.{LookupTopic}
use Rattle.commands.specs.declared.lookup.PartitionedTopicMetadata.{PartitionedTopicMetadata}
use Rattle.commands.specs.declared.producing.CloseProducer.{CloseProducer as Closed}
use Rattle.commands.specs.declared.producing.Producer.{Producer as Asked}
use Rattle.commands.specs.declared.producing.Send.{Send as Sent}
use Rattle.commands.specs.declared.reply.Reply.{Reply}
use Rattle.commands.specs.declared.server_error.ServerError.{ServerError}
use Rattle.frames.specs.declared.frame.Frame.{Frame}
use Rattle.frames.specs.declared.frame.FrameEntry.{FrameEntry}
use Rattle.gated_log.specs.declared.read_error.ReadError.{ReadError}
use Rattle.gated_log.specs.declared.refusal.Refusal.TheVariants as refusal
use Rattle.topic_core.specs.State.{Topic}
use Rattle.topic_core.specs.Steps.{first_standing, collected, left}
use Rattle.topic_core.specs.declared.command.SentEntry.{SentEntry}
use Rattle.topic_core.specs.declared.command.TopicCommand.{TopicCommand}
use Rattle.session.specs.Broker.{Broker, topic_at, with_topic, sure, doubting, made, number_of, Settles, FindIn, FindStep, left_all}
use Rattle.session.specs.Client.{Client, Play, play, SaysAlone, Ends, left_if, left_if_ended}
use Rattle.session.specs.Consuming as consuming
use Rattle.session.specs.GivingBack as giving_back
use Rattle.session.specs.Lookup.{LookupIn, PartitionsIn}
use Rattle.session.specs.Producing.{Asks, FoundStep, ProducerIn, SendIn, CloseIn, own_refusals, with_live_producers, sent_entry, send_command, close_command}
use Rattle.session.specs.Pumping.{Collects, Sends, FindsNoMemory, ServesEach, ServesAll, ServesIf, PumpIn}
use Rattle.session.specs.Table.{topic_of}
use Rattle.session.specs.Working.{WorksCommand, Connects, FrameIn, FramesStep, FeedIn, with_progress, ended_if}
use Rattle.session.specs.declared.entry.Entry.{Entry}
use Rattle.session.specs.declared.fault.Fault.{Fault}
use Rattle.session.specs.declared.port.Found.{Found}
use Rattle.session.specs.declared.port.Found.TheVariants as found
use Rattle.session.specs.declared.pumping.More.{More}
use Rattle.session.specs.declared.pumping.PumpFault.{PumpFault}
use Rattle.names.specs.Names.{is_topic_name}
use Rattle.node.specs.State.{State, MayRefuse, over, place_in, place_of, is_full, with_session}
use Rattle.node.specs.Steps as steps
use Rattle.node.specs.Runs.{Run, Life, OpeningEnds, EventIn, HappeningStep, AllowedRun}
use Rattle.node.specs.Cuts.{Turn, Whole, Within, cut_in, TurnStep, AllowedLife, Amidst}
use Rattle.node.specs.Keeping.{Keeps}
use Rattle.node.specs.declared.event.Event.{Event}
use Rattle.node.specs.declared.event.Event.TheVariants as event
use Rattle.node.specs.declared.event.Happening.{Happening}
use Rattle.node.specs.declared.event.Happening.TheVariants as happening
use Rattle.node.specs.declared.event.Output.{Output}
use Rattle.node.specs.declared.event.TopicEvent.{TopicEvent}
use Rattle.node.specs.declared.event.Verdict.{Verdict}
use Rattle.node.specs.declared.event.Verdict.TheVariants as verdict
use Rattle.node.proofs.Carrying.{chain_keeps}

-- what stands in a list stands in a longer one
got_before : {X : Type 0} (xs ys : List X) (i : ℕ) (x : X) → slice_get xs i ≡ Some x → slice_get (xs ++ ys) i ≡ Some x
got_before [] ys i x is = absurd (none-some x is)
got_before (a ∷ xs) ys zero x is = is
got_before (a ∷ xs) ys (suc i) x is = got_before xs ys i x is

-- ---- brokers

still : (b : Broker) → Keeps b b
still b = record { names = λ number name is. is; service_url = refl; per_ledger = refl }

same : (b c : Broker) → c ≡ b → Keeps b c
same b c is = subst (λ (x : Broker). Keeps b x) (sym is) (still b)

both : (a b c : Broker) → Keeps a b → Keeps b c → Keeps a c
both a b c k l = record {
  names = λ number name is. l.names number name (k.names number name is);
  service_url = l.service_url ∙ k.service_url;
  per_ledger = l.per_ledger ∙ k.per_ledger;
}

becomes : (a b c : Broker) → Keeps a b → c ≡ b → Keeps a c
becomes a b c k is = subst (λ (x : Broker). Keeps a x) (sym is) k

-- its topics are others
others : (b : Broker) (topics : List Topic) → Keeps b (over b topics)
others b topics = record { names = λ number name is. is; service_url = refl; per_ledger = refl }

placed : (b c : Broker) (at : ℕ) (t : Topic) → c ≡ with_topic b at t → Keeps b c
placed b c at t is = becomes b (with_topic b at t) c (others b (slice_set b.topics at t)) is

gone : (fault : Option Fault) (b : Broker) (who : ℕ) → Keeps b (left_if fault b who)
gone None b who = still b
gone (Some why) b who = others b (map (λ t. left t who) b.topics)

doubts : (b : Broker) (doubt : Option (List ℕ)) → Keeps b (record b { doubtful = doubt })
doubts b doubt = record { names = λ number name is. is; service_url = refl; per_ledger = refl }

makes : (b : Broker) (name : List ℕ) → Keeps b (made b name)
makes b name = record { names = λ number other is. got_before b.names (name ∷ []) number other is; service_url = refl; per_ledger = refl }

settled : (doubt : Option (List ℕ)) (b c : Broker) → Settles doubt b c → Keeps b c
settled None b c s = same b c s
settled (Some name) b c (inl s) = becomes b (sure b) c (doubts b None) s
settled (Some name) b c (inr s) = becomes b (made (sure b) name) c (both b (sure b) (made (sure b) name) (doubts b None) (makes (sure b) name)) s

found_in : (there : Option ℕ) (b : Broker) (name : List ℕ) (f : Found) (c : Broker) → FindIn there b name f c → Keeps b c
found_in None b name found.NoMemory c s = same b c s
found_in (Some number) b name found.NoMemory c s = same b c s
found_in (Some number) b name (found.Topic n) c s = same b c s.1
found_in (Some number) b name found.TooMany c s = absurd s
found_in (Some number) b name found.Failed c s = absurd s
found_in None b name (found.Topic n) c s = becomes b (made b name) c (makes b name) s.2
found_in None b name found.TooMany c s = same b c s.1
found_in None b name found.Failed c s = ⊎_elim (λ is. same b c is) (λ is. becomes b (doubting b name) c (doubts b (Some name)) is) s.1

finds : (b : Broker) (name : List ℕ) (f : Found) (c : Broker) → FindStep b name f c → Keeps b c
finds b name f c s = ⊎_elim
    (λ outage. same b c outage.1)
    (λ is. both b is.0 c (settled b.doubtful b is.0 is.1) (found_in (number_of is.0 name) is.0 name f c is.2))
    s

-- ---- what a session does

alone : (old : Play) (r : Reply) (new : Play) → SaysAlone old r new → Keeps old.broker new.broker
alone old r new s = same old.broker new.broker s.1

unmoved : (old new : Play) → new ≡ old → Keeps old.broker new.broker
unmoved old new s = same old.broker new.broker (ap (λ (p : Play). p.broker) s)

ends : (old new : Play) (why : Fault) → Ends old why new → Keeps old.broker new.broker
ends old new why s = same old.broker new.broker (ap (λ (p : Play). p.broker) s)

asks : (old : Play) (topic : ℕ) (c : TopicCommand) (new : Play) → Asks old topic c new → Keeps old.broker new.broker
asks old topic c new s = placed old.broker new.broker topic (topic_at new.broker topic) s.step.others

module _ (F : Type 0) where
  opens : (f : Found) (old : Play) (c : Asked) (new : Play) → FoundStep F old c f new → Keeps old.broker new.broker
  opens (found.Topic number) old c new (inl s) = placed old.broker new.broker number (topic_at new.broker number) s.step.others
  opens (found.Topic number) old c new (inr s) = ends old new _ s
  opens found.TooMany old c new s = alone old _ new s
  opens found.NoMemory old c new s = ends old new _ s
  opens found.Failed old c new s = alone old _ new s.1

  produces : (refusal : Option ServerError) (old : Play) (c : Asked) (new : Play) → ProducerIn F refusal old c new → Keeps old.broker new.broker
  produces (Some error) old c new s = alone old _ new s
  produces None old c new s = both old.broker s.between new.broker (finds old.broker c.topic s.found s.between s.finds) (opens s.found (record old { broker = s.between }) c new s.asks)

  wanted : (f : Found) (old : Play) (c : Wanted) (new : Play) → consuming.FoundStep F old c f new → Keeps old.broker new.broker
  wanted (found.Topic number) old c new (inl s) = placed old.broker new.broker number (topic_at new.broker number) s.step.others
  wanted (found.Topic number) old c new (inr s) = ends old new _ s
  wanted found.TooMany old c new s = alone old _ new s
  wanted found.NoMemory old c new s = ends old new _ s
  wanted found.Failed old c new s = alone old _ new s.1

  subscribes : (refusal : Option ServerError) (old : Play) (c : Wanted) (new : Play) → consuming.SubscribeIn F refusal old c new → Keeps old.broker new.broker
  subscribes (Some error) old c new s = alone old _ new s
  subscribes None old c new s = both old.broker s.between new.broker (finds old.broker c.topic s.found s.between s.finds) (wanted s.found (record old { broker = s.between }) c new s.asks)

sends : (topic : Option ℕ) (entry : Option SentEntry) (old : Play) (c : Sent) (new : Play) → SendIn topic entry old c new → Keeps old.broker new.broker
sends None None old c new s = ends old new _ s
sends (Some topic) None old c new s = ends old new _ s
sends None (Some entry) old c new s = alone old _ new s
sends (Some topic) (Some entry) old c new s = asks old topic (send_command c entry) new s

grants : (topic : Option ℕ) (old : Play) (c : Given) (new : Play) → consuming.FlowIn topic old c new → Keeps old.broker new.broker
grants None old c new s = unmoved old new s
grants (Some topic) old c new s = placed old.broker new.broker topic (topic_at new.broker topic) s.step.others

refuses_ack : (request : Option ℕ) (old : Play) (id : ℕ) (new : Play) → consuming.RefusesAck request old id new → Keeps old.broker new.broker
refuses_ack None old id new s = unmoved old new s
refuses_ack (Some request) old id new s = alone old _ new s

acks : (topic : Option ℕ) (old : Play) (c : Acked) (new : Play) → consuming.AckIn topic old c new → Keeps old.broker new.broker
acks None old c new s = refuses_ack c.request_id old c.consumer_id new s
acks (Some topic) old c new s = asks old topic (consuming.ack_command c) new s

closes : (topic : Option ℕ) (old : Play) (c : Closed) (new : Play) → CloseIn topic old c new → Keeps old.broker new.broker
closes None old c new s = alone old _ new s
closes (Some topic) old c new s = asks old topic (close_command c) new s

unsubscribes : (topic : Option ℕ) (old : Play) (c : Unwanted) (new : Play) → consuming.UnsubscribeIn topic old c new → Keeps old.broker new.broker
unsubscribes None old c new s = alone old _ new s
unsubscribes (Some topic) old c new s = asks old topic (consuming.unsubscribe_command c) new s

closes_consumer : (topic : Option ℕ) (old : Play) (c : Detached) (new : Play) → giving_back.CloseConsumerIn topic old c new → Keeps old.broker new.broker
closes_consumer None old c new s = alone old _ new s
closes_consumer (Some topic) old c new s = asks old topic (giving_back.close_consumer_command c) new s

redelivers : (topic : Option ℕ) (old : Play) (c : Redelivered) (new : Play) → giving_back.RedeliverIn topic old c new → Keeps old.broker new.broker
redelivers None old c new s = unmoved old new s
redelivers (Some topic) old c new s = asks old topic (giving_back.redeliver_command c) new s

looks_up : (named : Bool) (old : Play) (c : LookupTopic) (new : Play) → LookupIn named old c new → Keeps old.broker new.broker
looks_up true old c new s = alone old _ new s
looks_up false old c new s = alone old _ new s

tells_partitions : (named : Bool) (old : Play) (c : PartitionedTopicMetadata) (new : Play) → PartitionsIn named old c new → Keeps old.broker new.broker
tells_partitions true old c new s = alone old _ new s
tells_partitions false old c new s = alone old _ new s

connects : (c : Command) (old new : Play) → Connects old c new → Keeps old.broker new.broker
connects (command.Connect c) old new s = same old.broker new.broker s.1
connects _ old new s = ends old new _ s

module _ (F : Type 0) where
  works : (c : Command) (old : Play) (entry : FrameEntry) (new : Play) → WorksCommand F old c entry new → Keeps old.broker new.broker
  works (command.Connect c) old entry new s = ends old new _ s
  works (command.Producer c) old entry new s = produces F (first_standing (own_refusals (with_live_producers old).client.producers c)) (with_live_producers old) c new s
  works (command.Send c) old entry new s = sends (topic_of old.client.producers c.producer_id) (sent_entry entry) old c new s
  works (command.Subscribe c) old entry new s =
      let live = consuming.with_live_consumers old in
      subscribes F (first_standing (consuming.own_refusals live.client.consumers c)) live c new s
  works (command.Flow c) old entry new s = grants (topic_of old.client.consumers c.consumer_id) old c new s
  works (command.Ack c) old entry new s = acks (topic_of old.client.consumers c.consumer_id) old c new s
  works (command.CloseProducer c) old entry new s = closes (topic_of old.client.producers c.producer_id) old c new s
  works (command.Unsubscribe c) old entry new s = unsubscribes (topic_of old.client.consumers c.consumer_id) old c new s
  works (command.CloseConsumer c) old entry new s = closes_consumer (topic_of old.client.consumers c.consumer_id) old c new s
  works (command.RedeliverUnacknowledgedMessages c) old entry new s = redelivers (topic_of old.client.consumers c.consumer_id) old c new s
  works (command.PartitionedMetadata c) old entry new s = tells_partitions (is_topic_name c.topic) old c new s
  works (command.Lookup c) old entry new s = looks_up (is_topic_name c.topic) old c new s
  works command.Ping old entry new s = alone old _ new s
  works command.Pong old entry new s = unmoved old new s
  works (command.Other k) old entry new s = ends old new _ s

  in_frame : (fault : Option Fault) (connected : Bool) (old : Play) (frame : Frame) (new : Play) → FrameIn F fault connected old frame new → Keeps old.broker new.broker
  in_frame None true old frame new s = works frame.command old frame.entry new s
  in_frame None false old frame new s = connects frame.command old new s
  in_frame (Some why) connected old frame new s = unmoved old new s

  frames : (old : Play) (fs : List Frame) (new : Play) → FramesStep F old fs new → Keeps old.broker new.broker
  frames old [] new s = unmoved old new s
  frames old (f ∷ fs) new s = both old.broker s.0.broker new.broker (in_frame old.client.fault old.client.connected old f s.0 s.1) (frames s.0 fs new s.2)

-- a session that ended leaves
leaves : (p new : Play) → new ≡ left_if_ended p → Keeps p.broker new.broker
leaves p new is = becomes p.broker (left_if_ended p).broker new.broker (gone p.client.fault p.broker p.client.number) (ap (λ (x : Play). x.broker) is)

fed : (F : Type 0) (fault : Option Fault) (old : Play) (bytes : List ℕ) (result : Result (Unit {0}) Fault) (new : Play) → FeedIn F fault old bytes result new → Keeps old.broker new.broker
fed F None old bytes result new s =
    both old.broker s.0.worked.broker new.broker (frames F (with_progress old s.0.progress) s.0.frames s.0.worked s.0.works) (leaves (ended_if s.0.read s.0.worked) new s.0.ends)
fed F (Some why) old bytes result new s = unmoved old new s.1

collects : (count : ℕ) (old new : Play) → Collects count old new → Keeps old.broker new.broker
collects zero old new s = unmoved old new s
collects (suc count) old new s =
    let last = s.3 in
    both old.broker s.0.broker new.broker (collects count old s.0 s.1)
    (placed s.0.broker new.broker s.2 (collected (topic_at s.0.broker s.2) s.0.client.number last.reply) last.takes.1)

messages : (consumer : Entry) (count : ℕ) (old new : Play) → Sends consumer count old new → Keeps old.broker new.broker
messages consumer zero old new s = unmoved old new s
messages consumer (suc count) old new s =
    both old.broker s.0.broker new.broker (messages consumer count old s.0 s.1) (placed s.0.broker new.broker consumer.topic (topic_at new.broker consumer.topic) s.2.takes.others)

module _ (Refused : ℕ → ReadError → Type 0) where
  stops : (topic : ℕ) (old new : Play) → (new ≡ old) ⊎ FindsNoMemory Refused topic old new → Keeps old.broker new.broker
  stops topic old new (inl s) = unmoved old new s
  stops topic old new (inr s) = ends old new _ s.ends

  serves_each : (consumers : List Entry) (most count : ℕ) (old new : Play) → ServesEach Refused consumers most count old new → Keeps old.broker new.broker
  serves_each [] most count old new s = unmoved old new s.1
  serves_each (c ∷ cs) most count old new s =
      both old.broker s.2.broker new.broker (both old.broker s.3.sent.broker s.2.broker (messages c s.0 old s.3.sent s.3.sends) (stops c.topic s.3.sent s.2 s.3.stops))
      (serves_each cs (most - s.0) s.1 s.2 new s.4)

  serves_all : (consumers : List Entry) (most : ℕ) (result : Result ℕ PumpFault) (old new : Play) → ServesAll Refused consumers most result old new → Keeps old.broker new.broker
  serves_all consumers most (Ok count) old new s = serves_each consumers most count old new s
  serves_all consumers most (Err why) old new s =
      both old.broker s.between.broker new.broker (serves_each s.before most s.count old s.between s.served) (messages s.consumer s.until.count s.between new s.until.sends)

  serves_if : (goes_on : Bool) (result : Result ℕ PumpFault) (old new : Play) → ServesIf Refused goes_on result old new → Keeps old.broker new.broker
  serves_if true result old new s = serves_all old.client.consumers 64 result old new s
  serves_if false result old new s = unmoved old new s.1

  pumped : (fault : Option Fault) (old : Play) (result : Result More PumpFault) (new : Play) → PumpIn Refused fault old result new → Keeps old.broker new.broker
  pumped None old result new s =
      both old.broker s.collected.broker new.broker (collects s.replies old s.collected s.collects)
      (both s.collected.broker s.served.broker new.broker (serves_if (nat_lt s.replies 65536) s.messages s.collected s.served s.serves) (leaves s.served new s.ends))
  pumped (Some why) old result new s = unmoved old new s.1

-- ---- events

same_state : (old new : State) → new ≡ old → Keeps old.broker new.broker
same_state old new is = same old.broker new.broker (ap (λ (s : State). s.broker) is)

opens_as : (answer : Verdict) (old : State) (output : Output) (new : State) → steps.OpensAs answer old output new → Keeps old.broker new.broker
opens_as verdict.Done old output new s = same_state (with_session old) new s.1
opens_as (verdict.Refused why) old output new s = same_state old new s.1
opens_as verdict.Full old output new s = absurd s
opens_as verdict.Unknown old output new s = absurd s
opens_as (verdict.Ended why) old output new s = absurd s

opens_session : (full : Bool) (old : State) (output : Output) (new : State) → steps.OpenStep full old output new → Keeps old.broker new.broker
opens_session true old output new s = same_state old new s.1
opens_session false old output new s = opens_as output.result old output new s

bytes_come : (place : Option ℕ) (old : State) (bytes : List ℕ) (output : Output) (new : State) → steps.BytesStep place old bytes output new → Keeps old.broker new.broker
bytes_come None old bytes output new s = same_state old new s.1
bytes_come (Some place) old bytes output new s =
    becomes old.broker s.played.broker new.broker (fed (old.faults < new.faults) s.client.fault (play s.client old.broker []) bytes s.result s.played s.step) s.settles.broker

pumps : (place : Option ℕ) (old : State) (output : Output) (new : State) → steps.PumpStep place old output new → Keeps old.broker new.broker
pumps None old output new s = same_state old new s.1
pumps (Some place) old output new s =
    becomes old.broker s.played.broker new.broker (pumped (MayRefuse old.stages old.faults new.faults) s.client.fault (play s.client old.broker []) s.result s.played s.step) s.settles.broker

ends_session : (place : Option ℕ) (old : State) (output : Output) (new : State) → steps.CloseStep place old output new → Keeps old.broker new.broker
ends_session None old output new s = same_state old new s.1
ends_session (Some place) old output new s = becomes old.broker (left_all old.broker s.client.number) new.broker (others old.broker (map (λ t. left t s.client.number) old.broker.topics)) s.broker

works_on : (e : TopicEvent) (place : Option ℕ) (old : State) (output : Output) (new : State) → steps.WorkStep e place old output new → Keeps old.broker new.broker
works_on e None old output new s = same_state old new s.1
works_on e (Some at) old output new s = ⊎_elim
    (λ (w : (at < length old.broker.topics) × steps.WorksOn e old at output new). placed old.broker new.broker at w.1.next w.1.moves.broker)
    (λ idle. same_state old new idle.1.1)
    s

event_keeps : (old : State) (e : Event) (output : Output) (new : State) → steps.BrokerStep old e output new → Keeps old.broker new.broker
event_keeps old event.Open output new s = opens_session (is_full old) old output new s
event_keeps old (event.Bytes who bytes) output new s = bytes_come (place_of old.sessions who) old bytes output new s
event_keeps old (event.Pump who) output new s = pumps (place_of old.sessions who) old output new s
event_keeps old (event.Close who) output new s = ends_session (place_of old.sessions who) old output new s
event_keeps old (event.OnTopic topic e) output new s = works_on e (place_in old.broker.topics topic) old output new s

-- while it goes on
amid_keeps : (sessions : List Client) (b : Broker) (e : Event) (c : Broker) → steps.Amid sessions b e c → Keeps b c
amid_keeps sessions b event.Open c s = same b c s
amid_keeps sessions b (event.Bytes who bytes) c s = subst (λ (x : Broker). Keeps b x) (sym s.holds.gained)
    (record { names = λ number name is. got_before b.names s.holds.more number name is; service_url = refl; per_ledger = refl })
amid_keeps sessions b (event.Pump who) c s = same b c s
amid_keeps sessions b (event.Close who) c s = same b c s
amid_keeps sessions b (event.OnTopic at e) c s = placed b c at (steps.amid_work e (topic_at b at) s.0) s.2

pub run_keeps : (old : State) (events : List Event) (outputs : List Output) (new : State) → Run old events outputs new → Keeps old.broker new.broker
run_keeps old events outputs new run =
    chain_keeps steps.BrokerStep (λ (s : State). Keeps old.broker s.broker) (λ a e o b s h. both old.broker a.broker b.broker h (event_keeps a e o b s)) old events outputs new run (still old.broker)

-- ---- lives

opening_keeps : (answer : Verdict) (old : State) (new : Life) → OpeningEnds answer old new → Keeps old.broker new.state.broker
opening_keeps verdict.Done old new s =
    let c = s.crash in
    record {
      names = λ number name is. subst (λ (names : List (List ℕ)). slice_get names number ≡ Some name) (sym c.names) ((settled old.broker.doubtful old.broker c.settled c.settles).names number name is);
      service_url = c.service_url;
      per_ledger = c.per_ledger;
    }
opening_keeps (verdict.Refused refusal.NoMemory) old new s = same old.broker new.state.broker (ap (λ (x : State). x.broker) s.state)
opening_keeps (verdict.Refused refusal.Device) old new s = same old.broker new.state.broker (ap (λ (x : State). x.broker) s.0.state)
opening_keeps _ old new s = absurd s

event_in : (up : Bool) (old : Life) (e : Event) (output : Output) (new : Life) → EventIn up old e output new → Keeps old.state.broker new.state.broker
event_in true old e output new s = event_keeps old.state e output new.state s.1
event_in false old e output new s = same old.state.broker new.state.broker (ap (λ (l : Life). l.state.broker) s.1)

happening_keeps : (old : Life) (h : Happening) (output : Output) (new : Life) → HappeningStep old h output new → Keeps old.state.broker new.state.broker
happening_keeps old (happening.Event e) output new s = event_in old.up old e output new s
happening_keeps old (happening.Crash) output new s = opening_keeps output.result old.state new s.1

turn_keeps : (old : Life) (t : Turn) (output : Output) (new : Life) → TurnStep old t output new → Keeps old.state.broker new.state.broker
turn_keeps old (Whole h) output new s = happening_keeps old h output new s
turn_keeps old (Within e) output new s =
    both old.state.broker s.broker new.state.broker (amid_keeps old.state.sessions old.state.broker e s.broker s.amid) (opening_keeps output.result (cut_in old.state s.broker s.faults) new s.opening.1)

pub life_keeps : (old : Life) (happenings : List Happening) (outputs : List Output) (new : Life) → AllowedRun old happenings outputs new → Keeps old.state.broker new.state.broker
life_keeps old happenings outputs new run =
    chain_keeps HappeningStep (λ (l : Life). Keeps old.state.broker l.state.broker) (λ a h o b s k. both old.state.broker a.state.broker b.state.broker k (happening_keeps a h o b s)) old happenings outputs new run
    (still old.state.broker)

pub cut_life_keeps : (old : Life) (turns : List Turn) (outputs : List Output) (new : Life) → AllowedLife old turns outputs new → Keeps old.state.broker new.state.broker
cut_life_keeps old turns outputs new run =
    chain_keeps TurnStep (λ (l : Life). Keeps old.state.broker l.state.broker) (λ a t o b s k. both old.state.broker a.state.broker b.state.broker k (turn_keeps a t o b s)) old turns outputs new run
    (still old.state.broker)

-- a broker that a front of happenings reaches
pub amidst_keeps : (old : Life) (happenings : List Happening) (b : Broker) → Amidst old happenings b → Keeps old.state.broker b
amidst_keeps old happenings b at = both old.state.broker at.between.state.broker b (life_keeps old at.worked at.outputs at.between at.run)
    (⊎_elim (λ is. same at.between.state.broker b is) (λ within. amid_keeps at.between.state.sessions at.between.state.broker within.0 b within.4) at.here)
