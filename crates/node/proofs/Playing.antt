-- Whatever a session does goes out in whole frames, and moves each topic.
use Rattle.std.proofs.Common.{◌≡◌, ◌⊎◌, inl, inr, ⊎_elim, ◌∙◌, ℕ, zero, suc, ◌-◌, ◌<◌, nat_lt, Bool, true, false, Option, Some, None, Result, Ok, Err, List, [], ◌∷◌, ◌++◌, length, get_or, get_or-set_same, refl, sym, ap, subst, append-nil, append_assoc, arith, MatchOption}
use Rattle.commands.specs.declared.command.Command.{Command}
use Rattle.commands.specs.declared.command.Command.TheVariants as command
use Rattle.commands.specs.declared.producing.Producer.{Producer as Producing}
use Rattle.commands.specs.declared.producing.Send.{Send as Sent}
use Rattle.commands.specs.declared.consuming.Subscribe.{Subscribe as Wanted}
use Rattle.commands.specs.declared.consuming.Ack.{Ack as Acked}
use Rattle.commands.specs.declared.consuming.Flow.{Flow as Given}
use Rattle.commands.specs.declared.consuming.Unsubscribe.{Unsubscribe as Unwanted}
use Rattle.commands.specs.declared.giving_back.CloseConsumer.{CloseConsumer as Detached}
use Rattle.commands.specs.declared.giving_back.Redeliver.{Redeliver as Redelivered}
use Rattle.commands.specs.declared.producing.CloseProducer.{CloseProducer as Closed}
use Rattle.commands.specs.declared.lookup.LookupTopic.{LookupTopic}
use Rattle.commands.specs.declared.lookup.PartitionedTopicMetadata.{PartitionedTopicMetadata}
use Rattle.commands.specs.declared.reply.Reply.{Reply}
use Rattle.commands.specs.declared.reply.Reply.TheVariants as reply
use Rattle.commands.specs.declared.server_error.ServerError.{ServerError}
use Rattle.commands.specs.declared.server_error.ServerError.TheVariants.{TooManyRequests, InvalidTopicName, NotAllowedError, ConsumerNotFound, PersistenceError}
use Rattle.frames.specs.declared.fault.Fault.{Fault as FrameFault}
use Rattle.frames.specs.declared.frame.Frame.{Frame}
use Rattle.frames.specs.declared.frame.FrameEntry.{FrameEntry}
use Rattle.frames.specs.Streams.{BeginsWith, Progress, Feeds}
use Rattle.gated_log.specs.declared.read_error.ReadError.{ReadError}
use Rattle.topic_core.specs.State.{Topic}
use Rattle.std.specs.Ordering.{nat_cmp}
use Rattle.std.specs.Cmp.Lexicographic.{slice_cmp}
use Rattle.std.specs.FinMap as kept
use Rattle.cursor.specs.Positions.{Positions}
use Rattle.subscriptions.specs.Steps as subscriptions
use Rattle.subscriptions.specs.Steps.{opened_all}
use Rattle.holds.specs.declared.consumer.ConsumerKey.{ConsumerKey}
use Rattle.topic_core.specs.declared.dispatch.Outgoing.{Outgoing}
use Rattle.reply_queues.specs.Replies.{due_to}
use Rattle.topic_core.specs.Steps.{first_standing, collected, left, key_of, Fits}
use Rattle.topic_core.specs.Dispatch.{Admits}
use Rattle.topic_core.specs.declared.command.Answer.{Answer}
use Rattle.topic_core.specs.declared.command.Answer.TheVariants.{Now, Later, Nothing, NoMemory}
use Rattle.topic_core.specs.declared.command.SentEntry.{SentEntry}
use Rattle.topic_core.specs.declared.command.TopicCommand.{TopicCommand}
use Rattle.topic_core.specs.declared.command.TopicCommand.TheVariants as topic_command
use Rattle.topic_core.proofs.Steps.{step-fits}
use Rattle.permits.specs.declared.plain.TooManyPermits.{TooManyPermits}
use Rattle.session.specs.Broker.{Broker, fresh, topic_at, with_topic, sure, doubting, made, number_of, Settles, FindIn, FindStep, CommandStep, CollectedAt, DispatchAt, left_all}
use Rattle.session.specs.Client.{Client, Play, plain, Says, SaysAlone, Answered, Ends, IsBounded, frame_of, left_if, left_if_ended}
use Rattle.session.specs.Producing.{FoundStep, ProducerIn, own_refusals, with_live_producers, sent_entry, send_command, SendIn, producer_command, CloseIn, close_command}
use Rattle.session.specs.Consuming as consuming
use Rattle.session.specs.Table.{topic_of}
use Rattle.session.specs.GivingBack as giving_back
use Rattle.session.specs.Lookup.{LookupIn, PartitionsIn}
use Rattle.names.specs.Names.{is_topic_name}
use Rattle.session.proofs.Causes.{fed_caused}
use Rattle.session.specs.Working.{WorksCommand, Connects, FrameIn, FramesStep, FeedIn, connected_client, first_fault, with_progress, ended_if}
use Rattle.session.specs.Pumping.{Collects, Sends, FindsNoMemory, ServesEach, ServesAll, ServesIf, PumpIn}
use Rattle.session.specs.declared.entry.Entry.{Entry}
use Rattle.session.specs.declared.fault.Fault.{Fault}
use Rattle.session.specs.declared.port.Found.{Found}
use Rattle.session.specs.declared.port.Found.TheVariants as found
use Rattle.session.specs.declared.pumping.More.{More}
use Rattle.session.specs.declared.pumping.PumpFault.{PumpFault}
use Rattle.node.specs.Moves.{Handed, Move, Command as Commands, Tell, Lose, Grant, Deliver, Miss, Leave, Takes}
use Rattle.node.specs.Origins.{Asked, Origin, Worked, Opened, AsksFor, AsksOnly}
use Rattle.node.specs.Telling.{From, Talk, Unfolds}
use Rattle.node.specs.Brokers.{set_at, map_at, one_more_at}
use Rattle.node.proofs.Saying.{IsPlain, still_talk, one_talk, told_at, silently, silent, becomes, alike, one_frame, at_once, then, asks_one, tells_at_once}

-- what a session's bytes in alone change: its number stays, and where its stream stands
pub record Known : Type 0 where
  pub number : ℕ
  pub progress : Progress

abbrev pub known_of : Client → Known
known_of c = record { number = c.number; progress = c.progress }

-- of a session
pub record Plays (origins : List Origin) (p q : Play) : Type 0 where
  pub known : known_of q.client ≡ known_of p.client
  pub bytes : List ℕ
  pub out : q.out ≡ p.out ++ bytes
  pub unfolds : Unfolds p.client.number origins p.broker bytes q.broker

pub same_number : (c d : Client) → known_of d ≡ known_of c → d.number ≡ c.number
same_number c d is = ap (λ (k : Known). k.number) is

-- one topic moves, and tells nothing
pub placed_each : (b c : Broker) (at : ℕ) (t : Topic) → Talk (topic_at b at) [] [] t → c ≡ with_topic b at t → (number : ℕ) → Talk (topic_at b number) [] [] (topic_at c number)
placed_each b c at t moved is = λ number.
    subst (λ (x : Broker). Talk (topic_at b number) [] [] (topic_at x number)) (sym is)
    (set_at (λ x y. Talk x [] [] y) still_talk b.topics at number t (fresh b.per_ledger) moved)

placed : (hears : ℕ) (b c : Broker) (at : ℕ) (t : Topic) → Talk (topic_at b at) [] [] t → c ≡ with_topic b at t → Unfolds hears [] b [] c
placed hears b c at t moved is = silently hears [] b c (placed_each b c at t moved is)

pub gone_each : (b : Broker) (who number : ℕ) → Talk (topic_at b number) [] [] (topic_at (left_all b who) number)
gone_each b who number = map_at (λ x y. Talk x [] [] y) still_talk (λ t. left t who) (λ t. one_talk t (Leave who) (left t who) refl refl) b.topics number (fresh b.per_ledger)

gone : (hears : ℕ) (b : Broker) (who : ℕ) → Unfolds hears [] b [] (left_all b who)
gone hears b who = silently hears [] b (left_all b who) (λ number. gone_each b who number)

made_one : (hears : ℕ) (b : Broker) (name : List ℕ) → Unfolds hears [] b [] (made b name)
made_one hears b name = silently hears [] b (made b name) (λ number.
    subst (λ (t : Topic). Talk (topic_at b number) [] [] t) (sym (one_more_at b.topics number (fresh b.per_ledger))) (still_talk (topic_at b number)))

-- a name in doubt is no topic's
sure_one : (hears : ℕ) (b : Broker) → Unfolds hears [] b [] (sure b)
sure_one hears b = silently hears [] b (sure b) (λ number. still_talk (topic_at b number))

doubts_one : (hears : ℕ) (b : Broker) (name : List ℕ) → Unfolds hears [] b [] (doubting b name)
doubts_one hears b name = silently hears [] b (doubting b name) (λ number. still_talk (topic_at b number))

settles_one : (hears : ℕ) (doubt : Option (List ℕ)) (b : Broker) (c : Broker) → Settles doubt b c → Unfolds hears [] b [] c
settles_one hears None b c s = alike hears b c [] refl s
settles_one hears (Some name) b c (inl s) = becomes hears [] b (sure b) c [] [] (sure_one hears b) refl s
settles_one hears (Some name) b c (inr s) = becomes hears [] b (made (sure b) name) c [] [] (then hears [] [] b (sure b) (made (sure b) name) [] [] (sure_one hears b) (made_one hears (sure b) name)) refl s

finds_in : (hears : ℕ) (there : Option ℕ) (b : Broker) (name : List ℕ) (f : Found) (c : Broker) → FindIn there b name f c → Unfolds hears [] b [] c
finds_in hears None b name found.NoMemory c s = alike hears b c [] refl s
finds_in hears (Some number) b name found.NoMemory c s = alike hears b c [] refl s
finds_in hears (Some number) b name (found.Topic n) c s = alike hears b c [] refl s.1
finds_in hears (Some number) b name found.TooMany c s = absurd s
finds_in hears (Some number) b name found.Failed c s = absurd s
finds_in hears None b name (found.Topic n) c s = becomes hears [] b (made b name) c [] [] (made_one hears b name) refl s.2
finds_in hears None b name found.TooMany c s = alike hears b c [] refl s.1
finds_in hears None b name found.Failed c s = ⊎_elim (λ same. alike hears b c [] refl same) (λ doubt. becomes hears [] b (doubting b name) c [] [] (doubts_one hears b name) refl doubt) s.1

finds_one : (hears : ℕ) (b : Broker) (name : List ℕ) (f : Found) (c : Broker) → FindStep b name f c → Unfolds hears [] b [] c
finds_one hears b name f c s = ⊎_elim
    (λ outage. alike hears b c [] refl outage.1)
    (λ found. then hears [] [] b found.0 c [] [] (settles_one hears b.doubtful b found.0 found.1) (finds_in hears (number_of found.0 name) found.0 name f c found.2)) s

stays : (origins : List Origin) (p q : Play) → known_of q.client ≡ known_of p.client → q.out ≡ p.out → Unfolds p.client.number origins p.broker [] q.broker → Plays origins p q
stays origins p q same out s = record { known = same; bytes = []; out = out ∙ sym (append-nil p.out); unfolds = s }

still_play : (p q : Play) → q ≡ p → Plays [] p q
still_play p q is = stays [] p q (ap (λ (x : Play). known_of x.client) is) (ap (λ (x : Play). x.out) is) (alike p.client.number p.broker q.broker [] refl (ap (λ (x : Play). x.broker) is))

then_play : (origins later : List Origin) (p q r : Play) → Plays origins p q → Plays later q r → Plays (origins ++ later) p r
then_play origins later p q r first second = record {
  known = second.known ∙ first.known;
  bytes = first.bytes ++ second.bytes;
  out = second.out ∙ ap (λ (l : List ℕ). l ++ second.bytes) first.out ∙ append_assoc p.out first.bytes second.bytes;
  unfolds = then p.client.number origins later p.broker q.broker r.broker first.bytes second.bytes first.unfolds
      (subst (λ (n : ℕ). Unfolds n later q.broker second.bytes r.broker) (same_number p.client q.client first.known) second.unfolds);
}

-- only the client is another
for_client : (origins : List Origin) (client : Client) (p q : Play) → known_of client ≡ known_of p.client → Plays origins (record p { client = client }) q → Plays origins p q
for_client origins client p q same s = record {
  known = s.known ∙ same;
  bytes = s.bytes;
  out = s.out;
  unfolds = subst (λ (n : ℕ). Unfolds n origins p.broker s.bytes q.broker) (same_number p.client client same) s.unfolds;
}

says_alone : (old : Play) (r : Reply) (new : Play) → IsPlain r → SaysAlone old r new → Plays [] old new
says_alone old r new may (inl went, same) = record { known = ap (λ (c : Client). known_of c) went.0; bytes = frame_of (plain r); out = went.1; unfolds = at_once old.client.number old.broker new.broker r may went.2 same }
says_alone old r new may (inr lost, same) = stays [] old new (ap (λ (c : Client). known_of c) lost.0) lost.1 (alike old.client.number old.broker new.broker [] refl same)

-- it is the SUCCESS of a CLOSE_CONSUMER
abbrev IsDetaching : TopicCommand → Reply → Type 0
IsDetaching c r = (close : Detached) × (c ≡ topic_command.CloseConsumer close) × (r ≡ reply.Success close.request_id)

-- what a topic answers at once is no receipt, no message and no acceptance, but the SUCCESS of a CLOSE_CONSUMER
now_is : (c : TopicCommand) (r : Reply) → Fits c (Now r) → IsPlain r ⊎ IsDetaching c r
now_is (topic_command.Producer id request name) (reply.ProducerSuccess q n) h = inl (record { no_receipt = refl; no_message = refl; no_acceptance = refl })
now_is (topic_command.Producer id request name) (reply.Error q e) h = inl (record { no_receipt = refl; no_message = refl; no_acceptance = refl })
now_is (topic_command.Producer id request name) _ h = absurd h
now_is (topic_command.Send send) (reply.SendError p s e) h = inl (record { no_receipt = refl; no_message = refl; no_acceptance = refl })
now_is (topic_command.Send send) _ h = absurd h
now_is (topic_command.Subscribe subscribe) (reply.Error q e) h = inl (record { no_receipt = refl; no_message = refl; no_acceptance = refl })
now_is (topic_command.Subscribe subscribe) _ h = absurd h
now_is (topic_command.Ack ack) (reply.AckResponse i (Some e) q) h = inl (record { no_receipt = refl; no_message = refl; no_acceptance = refl })
now_is (topic_command.Ack ack) _ h = absurd h
now_is (topic_command.CloseProducer close) (reply.Error q e) h = inl (record { no_receipt = refl; no_message = refl; no_acceptance = refl })
now_is (topic_command.CloseProducer close) _ h = absurd h
now_is (topic_command.Unsubscribe unsubscribe) (reply.Error q e) h = inl (record { no_receipt = refl; no_message = refl; no_acceptance = refl })
now_is (topic_command.Unsubscribe unsubscribe) _ h = absurd h
now_is (topic_command.CloseConsumer close) (reply.Success q) h = inr (close, refl, ap (λ n. reply.Success n) h)
now_is (topic_command.CloseConsumer close) (reply.Error q e) h = inl (record { no_receipt = refl; no_message = refl; no_acceptance = refl })
now_is (topic_command.CloseConsumer close) _ h = absurd h
now_is (topic_command.Redeliver redeliver) _ h = absurd h

ended_play : (old new : Play) (why : Fault) → Ends old why new → Plays [] old new
ended_play old new why s = stays [] old new (ap (λ (p : Play). known_of p.client) s) (ap (λ (p : Play). p.out) s) (alike old.client.number old.broker new.broker [] refl (ap (λ (p : Play). p.broker) s))

granting_known : (c : Client) (result : Result (Unit {0}) TooManyPermits) → known_of (consuming.granting c result) ≡ known_of c
granting_known c (Ok done) = refl
granting_known c (Err why) = refl

-- ---- what a frame makes a session do

module _ (who : ℕ) (frame : Frame) (Is : Move → Type 0) where
  -- it asks at most one topic for a move, which is this
  record Does (p q : Play) : Type 0 where
    asks : Option Asked
    is : AsksOnly Is asks
    plays : Plays (Worked who frame asks ∷ []) p q

  alone : (p q : Play) → Plays [] p q → Does p q
  alone p q s = record {
    asks = None;
    is = tt;
    plays = record {
      known = s.known;
      bytes = s.bytes;
      out = s.out;
      unfolds = record { said = s.unfolds.said; written = s.unfolds.written; bounded = s.unfolds.bounded; heard = s.unfolds.heard; each = s.unfolds.each; at_once = s.unfolds.at_once };
    };
  }

  first_alone : (p q r : Play) → Plays [] p q → Does q r → Does p r
  first_alone p q r a b = record { asks = b.asks; is = b.is; plays = then_play [] (Worked who frame b.asks ∷ []) p q r a b.plays }

  does_for : (client : Client) (p q : Play) → known_of client ≡ known_of p.client → Does (record p { client = client }) q → Does p q
  does_for client p q same d = record { asks = d.asks; is = d.is; plays = for_client (Worked who frame d.asks ∷ []) client p q same d.plays }

  -- where it comes from that a topic was asked for this
  abbrev asking : ℕ → Move → List Origin
  asking at move = Worked who frame (Some (record { topic = at; move = move })) ∷ []

  commanded : (session : ℕ) (b c : Broker) (at : ℕ) (asked : TopicCommand) (answer : Answer) → CommandStep b at session asked answer c → Unfolds session (asking at (Commands session asked answer)) b [] c
  commanded session b c at asked answer s = asks_one b c at (Commands session asked answer) s.step refl refl refl s.others session who frame

  -- its answer goes out
  replies : (session : ℕ) (b c : Broker) (at : ℕ) (asked : TopicCommand) (r : Reply) → CommandStep b at session asked (Now r) c → IsBounded (plain r)
      → Unfolds session (asking at (Commands session asked (Now r))) b (frame_of (plain r)) c
  replies session b c at asked r step bounded = ⊎_elim
      (λ is. then session (asking at (Commands session asked (Now r))) [] b c c [] (frame_of (plain r)) (commanded session b c at asked (Now r) step) (at_once session c c r is bounded refl))
      (λ d. tells_at_once b c at (Commands session asked (Now r)) step.step refl refl refl step.others session who frame d.0 r (ap (λ (x : TopicCommand). Commands session x (Now r)) d.1) d.2 bounded)
      (now_is asked r (step-fits (topic_at b at) session asked (Now r) (topic_at c at) step.step))

  answered : (origins : List Origin) (old new : Play) (client : Client) (a : Answer) → known_of client ≡ known_of old.client
      → ((r : Reply) → a ≡ Now r → IsBounded (plain r) → Unfolds old.client.number origins old.broker (frame_of (plain r)) new.broker) → Unfolds old.client.number origins old.broker [] new.broker
      → Answered client old.out a new.client new.out → Plays origins old new
  answered origins old new client (Now r) same tells b (inl went) = record { known = ap (λ (c : Client). known_of c) went.0 ∙ same; bytes = frame_of (plain r); out = went.1; unfolds = tells r refl went.2 }
  answered origins old new client (Now r) same tells b (inr lost) = stays origins old new (ap (λ (c : Client). known_of c) lost.0 ∙ same) lost.1 b
  answered origins old new client Later same tells b s = stays origins old new (ap (λ (c : Client). known_of c) s.0 ∙ same) s.1 b
  answered origins old new client Nothing same tells b s = stays origins old new (ap (λ (c : Client). known_of c) s.0 ∙ same) s.1 b
  answered origins old new client NoMemory same tells b s = stays origins old new (ap (λ (c : Client). known_of c) s.0 ∙ same) s.1 b

  asked : (old new : Play) (client : Client) (at : ℕ) (c : TopicCommand) (a : Answer) → known_of client ≡ known_of old.client → CommandStep old.broker at old.client.number c a new.broker
      → Answered client old.out a new.client new.out → Is (Commands old.client.number c a) → Does old new
  asked old new client at c a same step s is =
      let session : ℕ = old.client.number in
      record {
        asks = Some (record { topic = at; move = Commands session c a });
        is = is;
        plays = answered (asking at (Commands session c a)) old new client a same
            (λ r now.
            subst (λ (x : Answer). CommandStep old.broker at session c x new.broker → IsBounded (plain r) → Unfolds session (asking at (Commands session c x)) old.broker (frame_of (plain r)) new.broker)
            (sym now) (replies session old.broker new.broker at c r) step)
            (commanded session old.broker new.broker at c a step) s;
      }

  refuses : (old : Play) (r : Reply) (new : Play) → IsPlain r → SaysAlone old r new → Does old new
  refuses old r new may s = alone old new (says_alone old r new may s)

  ends : (old new : Play) (why : Fault) → Ends old why new → Does old new
  ends old new why s = alone old new (ended_play old new why s)

  still : (old new : Play) → new ≡ old → Does old new
  still old new s = alone old new (still_play old new s)

  opens : (f : Found) (old : Play) (c : Producing) (new : Play) → ((a : Answer) → Is (Commands old.client.number (producer_command old.client.number c) a)) → FoundStep (Unit {0}) old c f new → Does old new
  opens (found.Topic number) old c new is (inl s) = asked old new _ number (producer_command old.client.number c) s.answer refl s.step s.answered (is s.answer)
  opens (found.Topic number) old c new is (inr s) = ends old new _ s
  opens found.TooMany old c new is s = refuses old (reply.Error c.request_id TooManyRequests) new (record { no_receipt = refl; no_message = refl; no_acceptance = refl }) s
  opens found.NoMemory old c new is s = ends old new _ s
  opens found.Failed old c new is s = refuses old (reply.Error c.request_id PersistenceError) new (record { no_receipt = refl; no_message = refl; no_acceptance = refl }) s.1

  produces : (refusal : Option ServerError) (old : Play) (c : Producing) (new : Play) → ((a : Answer) → Is (Commands old.client.number (producer_command old.client.number c) a)) → ProducerIn (Unit {0}) refusal old c new → Does old new
  produces (Some error) old c new is s = refuses old (reply.Error c.request_id error) new (record { no_receipt = refl; no_message = refl; no_acceptance = refl }) s
  produces None old c new is s =
      let between : Play = record old { broker = s.between } in
      first_alone old between new (stays [] old between refl refl (finds_one old.client.number old.broker c.topic s.found s.between s.finds)) (opens s.found between c new is s.asks)

  sends : (topic : Option ℕ) (entry : Option SentEntry) (old : Play) (c : Sent) (new : Play) → ((x : SentEntry) (a : Answer) → entry ≡ Some x → Is (Commands old.client.number (send_command c x) a)) → SendIn topic entry old c new → Does old new
  sends None None old c new is s = ends old new _ s
  sends (Some topic) None old c new is s = ends old new _ s
  sends None (Some entry) old c new is s = refuses old (reply.SendError c.producer_id c.sequence_id NotAllowedError) new (record { no_receipt = refl; no_message = refl; no_acceptance = refl }) s
  sends (Some topic) (Some entry) old c new is s = asked old new old.client topic (send_command c entry) s.answer refl s.step s.answered (is entry s.answer refl)

  wanted : (f : Found) (old : Play) (c : Wanted) (new : Play) → ((named : consuming.IsNamed c) (a : Answer) → Is (Commands old.client.number (consuming.subscribe_command c named) a)) → consuming.FoundStep (Unit {0}) old c f new → Does old new
  wanted (found.Topic number) old c new is (inl s) = asked old new _ number (consuming.subscribe_command c s.named) s.answer refl s.step s.answered (is s.named s.answer)
  wanted (found.Topic number) old c new is (inr s) = ends old new _ s
  wanted found.TooMany old c new is s = refuses old (reply.Error c.request_id TooManyRequests) new (record { no_receipt = refl; no_message = refl; no_acceptance = refl }) s
  wanted found.NoMemory old c new is s = ends old new _ s
  wanted found.Failed old c new is s = refuses old (reply.Error c.request_id PersistenceError) new (record { no_receipt = refl; no_message = refl; no_acceptance = refl }) s.1

  subscribes : (refusal : Option ServerError) (old : Play) (c : Wanted) (new : Play) → ((named : consuming.IsNamed c) (a : Answer) → Is (Commands old.client.number (consuming.subscribe_command c named) a))
      → consuming.SubscribeIn (Unit {0}) refusal old c new → Does old new
  subscribes (Some error) old c new is s = refuses old (reply.Error c.request_id error) new (record { no_receipt = refl; no_message = refl; no_acceptance = refl }) s
  subscribes None old c new is s =
      let between : Play = record old { broker = s.between } in
      first_alone old between new (stays [] old between refl refl (finds_one old.client.number old.broker c.topic s.found s.between s.finds)) (wanted s.found between c new is s.asks)

  grants : (topic : Option ℕ) (old : Play) (c : Given) (new : Play) → ((result : Result (Unit {0}) TooManyPermits) → Is (Grant old.client.number c.consumer_id c.message_permits result)) → consuming.FlowIn topic old c new → Does old new
  grants None old c new is s = still old new s
  grants (Some topic) old c new is s =
      let m = Grant old.client.number c.consumer_id c.message_permits s.result in
      record {
        asks = Some (record { topic = topic; move = m });
        is = is s.result;
        plays = stays (asking topic m) old new (ap (λ (x : Client). known_of x) s.client ∙ granting_known old.client s.result) s.out
            (asks_one old.broker new.broker topic m s.step.step refl refl refl s.step.others old.client.number who frame);
      }

  refuses_ack : (request : Option ℕ) (old : Play) (id : ℕ) (new : Play) → consuming.RefusesAck request old id new → Does old new
  refuses_ack None old id new s = still old new s
  refuses_ack (Some request) old id new s = refuses old (reply.AckResponse id (Some ConsumerNotFound) request) new (record { no_receipt = refl; no_message = refl; no_acceptance = refl }) s

  acks : (topic : Option ℕ) (old : Play) (c : Acked) (new : Play) → ((a : Answer) → Is (Commands old.client.number (consuming.ack_command c) a)) → consuming.AckIn topic old c new → Does old new
  acks None old c new is s = refuses_ack c.request_id old c.consumer_id new s
  acks (Some topic) old c new is s = asked old new old.client topic (consuming.ack_command c) s.answer refl s.step s.answered (is s.answer)

  closes : (topic : Option ℕ) (old : Play) (c : Closed) (new : Play) → ((a : Answer) → Is (Commands old.client.number (close_command c) a)) → CloseIn topic old c new → Does old new
  closes None old c new is s = refuses old (reply.Error c.request_id NotAllowedError) new (record { no_receipt = refl; no_message = refl; no_acceptance = refl }) s
  closes (Some topic) old c new is s = asked old new old.client topic (close_command c) s.answer refl s.step s.answered (is s.answer)

  unsubscribes : (topic : Option ℕ) (old : Play) (c : Unwanted) (new : Play) → ((a : Answer) → Is (Commands old.client.number (consuming.unsubscribe_command c) a)) → consuming.UnsubscribeIn topic old c new → Does old new
  unsubscribes None old c new is s = refuses old (reply.Error c.request_id ConsumerNotFound) new (record { no_receipt = refl; no_message = refl; no_acceptance = refl }) s
  unsubscribes (Some topic) old c new is s = asked old new old.client topic (consuming.unsubscribe_command c) s.answer refl s.step s.answered (is s.answer)

  detaches : (topic : Option ℕ) (old : Play) (c : Detached) (new : Play) → ((a : Answer) → Is (Commands old.client.number (giving_back.close_consumer_command c) a)) → giving_back.CloseConsumerIn topic old c new → Does old new
  detaches None old c new is s = refuses old (reply.Error c.request_id ConsumerNotFound) new (record { no_receipt = refl; no_message = refl; no_acceptance = refl }) s
  detaches (Some topic) old c new is s = asked old new old.client topic (giving_back.close_consumer_command c) s.answer refl s.step s.answered (is s.answer)

  redelivers : (topic : Option ℕ) (old : Play) (c : Redelivered) (new : Play) → ((a : Answer) → Is (Commands old.client.number (giving_back.redeliver_command c) a)) → giving_back.RedeliverIn topic old c new → Does old new
  redelivers None old c new is s = still old new s
  redelivers (Some topic) old c new is s = asked old new old.client topic (giving_back.redeliver_command c) s.answer refl s.step s.answered (is s.answer)

  looks_up : (named : Bool) (old : Play) (c : LookupTopic) (new : Play) → LookupIn named old c new → Does old new
  looks_up true old c new s = refuses old (reply.LookupResponse c.request_id (Ok old.broker.service_url)) new (record { no_receipt = refl; no_message = refl; no_acceptance = refl }) s
  looks_up false old c new s = refuses old (reply.LookupResponse c.request_id (Err InvalidTopicName)) new (record { no_receipt = refl; no_message = refl; no_acceptance = refl }) s

  tells_partitions : (named : Bool) (old : Play) (c : PartitionedTopicMetadata) (new : Play) → PartitionsIn named old c new → Does old new
  tells_partitions true old c new s = refuses old (reply.PartitionedMetadataResponse c.request_id None) new (record { no_receipt = refl; no_message = refl; no_acceptance = refl }) s
  tells_partitions false old c new s = refuses old (reply.PartitionedMetadataResponse c.request_id (Some InvalidTopicName)) new (record { no_receipt = refl; no_message = refl; no_acceptance = refl }) s

  connects : (c : Command) (old new : Play) → Connects old c new → Does old new
  connects (command.Connect c) old new s =
      let old' : Play = record old { client = connected_client old.client } in
      does_for old'.client old new refl (refuses old' reply.Connected new (record { no_receipt = refl; no_message = refl; no_acceptance = refl }) s)
  connects _ old new s = ends old new _ s

-- a frame's command asks for what it says
abbrev Works : Frame → Command → FrameEntry → Play → Play → Type 0
Works frame c entry old new = Does old.client.number frame (AsksFor old.client.number c entry) old new

works : (frame : Frame) (c : Command) (old : Play) (entry : FrameEntry) (new : Play) → WorksCommand (Unit {0}) old c entry new → Works frame c entry old new
works frame (command.Connect c) old entry new s = ends old.client.number frame _ old new _ s
works frame (command.Producer c) old entry new s =
    let old' = with_live_producers old in
    does_for old.client.number frame _ old'.client old new refl (produces old.client.number frame _ (first_standing (own_refusals old'.client.producers c)) old' c new (λ a. (a, refl)) s)
works frame (command.Send c) old entry new s = sends old.client.number frame _ (topic_of old.client.producers c.producer_id) (sent_entry entry) old c new (λ x a is. (x, is, (a, refl))) s
works frame (command.Subscribe c) old entry new s =
    let old' = consuming.with_live_consumers old in
    does_for old.client.number frame _ old'.client old new refl
    (subscribes old.client.number frame _ (first_standing (consuming.own_refusals old'.client.consumers c)) old' c new (λ named a. (named, (a, refl))) s)
works frame (command.Flow c) old entry new s = grants old.client.number frame _ (topic_of old.client.consumers c.consumer_id) old c new (λ result. (result, refl)) s
works frame (command.Ack c) old entry new s = acks old.client.number frame _ (topic_of old.client.consumers c.consumer_id) old c new (λ a. (a, refl)) s
works frame (command.CloseProducer c) old entry new s = closes old.client.number frame _ (topic_of old.client.producers c.producer_id) old c new (λ a. (a, refl)) s
works frame (command.Unsubscribe c) old entry new s = unsubscribes old.client.number frame _ (topic_of old.client.consumers c.consumer_id) old c new (λ a. (a, refl)) s
works frame (command.CloseConsumer c) old entry new s = detaches old.client.number frame _ (topic_of old.client.consumers c.consumer_id) old c new (λ a. (a, refl)) s
works frame (command.RedeliverUnacknowledgedMessages c) old entry new s = redelivers old.client.number frame _ (topic_of old.client.consumers c.consumer_id) old c new (λ a. (a, refl)) s
works frame (command.PartitionedMetadata c) old entry new s = tells_partitions old.client.number frame _ (is_topic_name c.topic) old c new s
works frame (command.Lookup c) old entry new s = looks_up old.client.number frame _ (is_topic_name c.topic) old c new s
works frame command.Ping old entry new s = refuses old.client.number frame _ old reply.Pong new (record { no_receipt = refl; no_message = refl; no_acceptance = refl }) s
works frame command.Pong old entry new s = still old.client.number frame _ old new s
works frame (command.Other k) old entry new s = ends old.client.number frame _ old new _ s

in_frame : (fault : Option Fault) (connected : Bool) (old : Play) (frame : Frame) (new : Play) → FrameIn (Unit {0}) fault connected old frame new → Works frame frame.command frame.entry old new
in_frame None true old frame new s = works frame frame.command old frame.entry new s
in_frame None false old frame new s = connects old.client.number frame _ frame.command old new s
in_frame (Some why) connected old frame new s = still old.client.number frame _ old new s

-- ---- frames that were read

-- these come from a session's frames, each from one of them, in order
abbrev pub AreOf : ℕ → List Frame → List Origin → Type 0
AreOf who [] [] = Unit {0}
AreOf who [] (origin ∷ origins) = ⊥
AreOf who (frame ∷ frames) [] = ⊥
AreOf who (frame ∷ frames) (Opened ∷ origins) = ⊥
AreOf who (frame ∷ frames) (Worked other worked asks ∷ origins) = (other ≡ who) × (worked ≡ frame) × AsksOnly (AsksFor who frame.command frame.entry) asks × AreOf who frames origins

pub record WorksFrames (who : ℕ) (frames : List Frame) (p q : Play) : Type 0 where
  pub origins : List Origin
  pub are : AreOf who frames origins
  pub plays : Plays origins p q

works_frames : (who : ℕ) (old : Play) (fs : List Frame) (new : Play) → old.client.number ≡ who → FramesStep (Unit {0}) old fs new → WorksFrames who fs old new
works_frames who old [] new is s = record { origins = []; are = tt; plays = still_play old new s }
works_frames who old (f ∷ fs) new is s =
    let d = subst (λ n. Does n f (AsksFor n f.command f.entry) old s.0) is (in_frame old.client.fault old.client.connected old f s.0 s.1) in
    let later = works_frames who s.0 fs new (same_number old.client s.0.client d.plays.known ∙ is) s.2 in
    record {
      origins = Worked who f d.asks ∷ later.origins;
      are = (refl, refl, d.is, later.are);
      plays = then_play (Worked who f d.asks ∷ []) later.origins old s.0 new d.plays later.plays;
    }

leaves : (hears : ℕ) (fault : Option Fault) (b : Broker) (who : ℕ) → Unfolds hears [] b [] (left_if fault b who)
leaves hears None b who = silent hears b
leaves hears (Some why) b who = gone hears b who

-- a session that ended leaves
settles : (p new : Play) → new ≡ left_if_ended p → Plays [] p new
settles p new is = then_play [] [] p (left_if_ended p) new (stays [] p (left_if_ended p) refl refl (leaves p.client.number p.client.fault p.broker p.client.number)) (still_play (left_if_ended p) new is)

-- a stream's bytes begin with the frames that are found in them; where no fault is, the rest is kept
record Finds (stream : List ℕ) (frames : List Frame) (read : Result (Unit {0}) FrameFault) (now : Progress) : Type 0 where
  left : List ℕ
  begins : BeginsWith stream frames left
  kept : (first : Option Fault) → first_fault first read ≡ None → now.rest ≡ left

flawed : (first : Option Fault) (flaw : FrameFault) → first_fault first (Err flaw) ≡ None → ⊥
flawed None flaw is = cc
flawed (Some why) flaw is = cc

finds : (stream : List ℕ) (frames : List Frame) (read : Result (Unit {0}) FrameFault) (now : Progress) → Feeds stream [] frames read now → Finds stream frames read now
finds stream frames (Ok u) now h = record { left = now.rest; begins = subst (λ (fs : List Frame). BeginsWith stream fs now.rest) (sym h.0.gains) h.0.begins; kept = λ first none. refl }
finds stream frames (Err flaw) now h = record {
  left = h.0;
  begins = subst (λ (fs : List Frame). BeginsWith stream fs h.0) (sym h.1.gains) h.1.begins;
  kept = λ first none. absurd (flawed first flaw none);
}

finds_on : (fault : Option FrameFault) (old : Progress) (bytes : List ℕ) (frames : List Frame) (read : Result (Unit {0}) FrameFault) (now : Progress)
    → MatchOption fault (Feeds (old.rest ++ bytes) [] frames read now) (λ flaw. (read ≡ Err flaw) × (frames ≡ []) × (now ≡ old)) → Finds (old.rest ++ bytes) frames read now
finds_on None old bytes frames read now h = finds (old.rest ++ bytes) frames read now h
finds_on (Some flaw) old bytes frames read now h = record {
  left = old.rest ++ bytes;
  begins = subst (λ (fs : List Frame). BeginsWith (old.rest ++ bytes) fs (old.rest ++ bytes)) (sym h.1) refl;
  kept = λ first none. absurd (flawed first flaw (ap (λ (r : Result (Unit {0}) FrameFault). first_fault first r) (sym h.0) ∙ none));
}

-- bytes come to a session: what it does comes from the frames that are whole then, and it keeps the rest, unless it ends
pub record Fed (who : ℕ) (old : Play) (bytes : List ℕ) (new : Play) : Type 0 where
  pub frames : List Frame
  pub left : List ℕ
  pub begins : BeginsWith (old.client.progress.rest ++ bytes) frames left
  pub progress : Progress
  pub kept : new.client.fault ≡ None → progress.rest ≡ left
  pub works : WorksFrames who frames (with_progress old progress) new

still_ended : (why : Fault) → Some why ≡ None → ⊥
still_ended why is = cc

fed_any : (who : ℕ) (fault : Option Fault) (old : Play) (bytes : List ℕ) (result : Result (Unit {0}) Fault) (new : Play) → old.client.number ≡ who → old.client.fault ≡ fault → FeedIn (Unit {0}) fault old bytes result new → Fed who old bytes new
fed_any who None old bytes result new is none s =
    let f = s.0 in
    let found = finds_on old.client.progress.fault old.client.progress bytes f.frames f.read f.progress f.feeds in
    let begun = with_progress old f.progress in
    let ended = ended_if f.read f.worked in
    let w = works_frames who begun f.frames f.worked is f.works in
    let last : Plays [] f.worked new = for_client [] ended.client f.worked new refl (settles ended new f.ends) in
    record {
      frames = f.frames;
      left = found.left;
      begins = found.begins;
      progress = f.progress;
      kept = λ goes_on. found.kept f.worked.client.fault (sym (ap (λ (p : Play). p.client.fault) f.ends) ∙ goes_on);
      works = record {
        origins = w.origins;
        are = w.are;
        plays = subst (λ (os : List Origin). Plays os begun new) (append-nil w.origins) (then_play w.origins [] begun f.worked new w.plays last);
      };
    }
fed_any who (Some why) old bytes result new is ended s = record {
  frames = [];
  left = old.client.progress.rest ++ bytes;
  begins = refl;
  progress = old.client.progress;
  kept = λ goes_on. absurd (still_ended why (sym (ap (λ (p : Play). p.client.fault) s.1 ∙ ended) ∙ goes_on));
  works = record { origins = []; are = tt; plays = still_play old new s.1 };
}

-- whatever a search meets
pub fed : (who : ℕ) (Fails : Type 0) (old : Play) (bytes : List ℕ) (result : Result (Unit {0}) Fault) (new : Play) → old.client.number ≡ who → FeedIn Fails old.client.fault old bytes result new → Fed who old bytes new
fed who Fails old bytes result new is s = fed_any who old.client.fault old bytes result new is refl (fed_caused Fails (Unit {0}) (λ failed. tt) old.client.fault old bytes result new s)

-- a topic that has something due is there
is_there : (topics : List Topic) (at who n : ℕ) (r : Reply) (rs : List Reply) → due_to who (get_or topics at (fresh n)).queues ≡ r ∷ rs → at < length topics
is_there [] at who n r rs is = absurd cc
is_there (x ∷ xs) zero who n r rs is = omega arith
is_there (x ∷ xs) (suc at) who n r rs is = omega (arith, is_there xs at who n r rs is)

-- it is due to the session, which takes it
takes_due : (b c : Broker) (at who : ℕ) (r : Reply) → CollectedAt b at who (Some r) c
    → Takes (topic_at b at) (record { session = who; reply = r; entry = [] }) (collected (topic_at b at) who r)
takes_due b c at who r s =
    let t = topic_at b at in
    let u = collected t who r in
    let within = is_there b.topics at who b.per_ledger r _ s.0 in
    let there : topic_at c at ≡ u = ap (λ (x : Broker). topic_at x at) s.1 ∙ get_or-set_same b.topics at u (fresh b.per_ledger) within in
    record { plain = refl; first = s.0 ∙ ap (λ (x : Topic). r ∷ due_to who x.queues) there; taken = refl }

abbrev handed_to : Client → Outgoing → Handed
handed_to client message = record { session = client.number; reply = message.reply; entry = message.entry }

-- what a topic hands to the session goes out, or finds no memory
hands_out : (at : ℕ) (old new : Play) (message : Outgoing) (u : Topic) → at < length old.broker.topics → Talk (topic_at old.broker at) (handed_to old.client message ∷ []) [] u → Talk (topic_at old.broker at) [] [] u
    → new.broker ≡ with_topic old.broker at u → Says old.client old.out message new.client new.out → Plays [] old new
hands_out at old new message u within tells loses is (inl went) = record {
  known = ap (λ (c : Client). known_of c) went.0;
  bytes = frame_of message;
  out = went.1;
  unfolds = becomes old.client.number [] old.broker (with_topic old.broker at u) new.broker (frame_of message) (frame_of message)
      (record {
        said = From at (handed_to old.client message) ∷ [];
        written = one_frame message;
        bounded = (went.2, tt);
        heard = (refl, tt);
        each = λ number. told_at old.broker.topics at number u (fresh old.broker.per_ledger) (handed_to old.client message) within tells;
        at_once = tt;
      }) refl is;
}
hands_out at old new message u within tells loses is (inr lost) = stays [] old new (ap (λ (c : Client). known_of c) lost.0) lost.1 (placed old.client.number old.broker new.broker at u loses is)

-- so does the first due reply of a topic
collects_from : (at : ℕ) (old new : Play) (r : Reply) → CollectedAt old.broker at old.client.number (Some r) new.broker → Says old.client old.out (plain r) new.client new.out → Plays [] old new
collects_from at old new r takes says =
    let handed = handed_to old.client (plain r) in
    let t = topic_at old.broker at in
    let u = collected t old.client.number r in
    let taken : Takes t handed u = takes_due old.broker new.broker at old.client.number r takes in
    hands_out at old new (plain r) u (is_there old.broker.topics at old.client.number old.broker.per_ledger r _ takes.0) (one_talk t (Tell handed) u taken refl) (one_talk t (Lose handed) u taken refl) takes.1 says

collects : (count : ℕ) (old new : Play) → Collects count old new → Plays [] old new
collects zero old new s = still_play old new s
collects (suc count) old new s = then_play [] [] old s.0 new (collects count old s.0 s.1) (collects_from s.2 s.0 new s.3.reply s.3.takes s.3.says)

length_none : {A : Type 0} (xs : List A) → length xs ≡ 0 → xs ≡ []
length_none [] is = refl
length_none (x ∷ xs) is = absurd (omega (arith, is))

-- a fresh topic admits nothing
admits_none : (entries : List (List ℕ × Positions)) (key : ConsumerKey) (i : ℕ) → entries ≡ [] → subscriptions.Admits (opened_all entries) key 0 i → ⊥
admits_none entries key i is admits = let P : List (List ℕ × Positions) → Type 0 = λ l. subscriptions.Admits (opened_all l) key 0 i in subst P is admits

no_entries : {X : Type 0} → kept.entries (kept.empty {X = X} {R = slice_cmp nat_cmp}) ≡ []
no_entries {X} = length_none _ (sym (kept.len-entries (kept.empty {X = X} {R = slice_cmp nat_cmp})) ∙ kept.len-empty (slice_cmp nat_cmp) X)

-- a topic that admits something is there
is_served : (topics : List Topic) (at n : ℕ) (key : ConsumerKey) (i : ℕ) → Admits (get_or topics at (fresh n)) key i → at < length topics
is_served [] at n key i admits = absurd (admits_none (kept.entries kept.empty) key i no_entries admits.admitted)
is_served (x ∷ xs) zero n key i admits = omega arith
is_served (x ∷ xs) (suc at) n key i admits = omega (arith, is_served xs at n key i admits)

-- so does a message
sends_from : (at id : ℕ) (old new : Play) (message : Outgoing) → DispatchAt old.broker at old.client.number id (Ok (Some message)) new.broker → Says old.client old.out message new.client new.out → Plays [] old new
sends_from at id old new message takes says =
    let handed = handed_to old.client message in
    let t = topic_at old.broker at in
    let u = topic_at new.broker at in
    let sent = takes.step in
    hands_out at old new message u (is_served old.broker.topics at old.broker.per_ledger (key_of old.client.number id) sent.0 sent.1.admitted)
    (one_talk t (Deliver id handed) u takes.step refl) (one_talk t (Miss id handed) u takes.step refl) takes.others says

messages : (consumer : Entry) (count : ℕ) (old new : Play) → Sends consumer count old new → Plays [] old new
messages consumer zero old new s = still_play old new s
messages consumer (suc count) old new s =
    then_play [] [] old s.0 new (messages consumer count old s.0 s.1) (sends_from consumer.topic consumer.id s.0 new s.2.message s.2.takes s.2.says)

module _ (Refused : ℕ → ReadError → Type 0) where
  stops : (topic : ℕ) (old new : Play) → (new ≡ old) ⊎ FindsNoMemory Refused topic old new → Plays [] old new
  stops topic old new (inl s) = still_play old new s
  stops topic old new (inr s) = ended_play old new _ s.ends

  serves_each : (consumers : List Entry) (most count : ℕ) (old new : Play) → ServesEach Refused consumers most count old new → Plays [] old new
  serves_each [] most count old new s = still_play old new s.1
  serves_each (c ∷ cs) most count old new s =
      then_play [] [] old s.2 new (then_play [] [] old s.3.sent s.2 (messages c s.0 old s.3.sent s.3.sends) (stops c.topic s.3.sent s.2 s.3.stops)) (serves_each cs (most - s.0) s.1 s.2 new s.4)

  serves_all : (consumers : List Entry) (most : ℕ) (result : Result ℕ PumpFault) (old new : Play) → ServesAll Refused consumers most result old new → Plays [] old new
  serves_all consumers most (Ok count) old new s = serves_each consumers most count old new s
  serves_all consumers most (Err why) old new s =
      then_play [] [] old s.between new (serves_each s.before most s.count old s.between s.served) (messages s.consumer s.until.count s.between new s.until.sends)

  serves_if : (goes_on : Bool) (result : Result ℕ PumpFault) (old new : Play) → ServesIf Refused goes_on result old new → Plays [] old new
  serves_if true result old new s = serves_all old.client.consumers 64 result old new s
  serves_if false result old new s = still_play old new s.1

  pub pumped : (fault : Option Fault) (old : Play) (result : Result More PumpFault) (new : Play) → PumpIn Refused fault old result new → Plays [] old new
  pumped None old result new s =
      then_play [] [] old s.collected new (collects s.replies old s.collected s.collects)
      (then_play [] [] s.collected s.served new (serves_if (nat_lt s.replies 65536) s.messages s.collected s.served s.serves) (settles s.served new s.ends))
  pumped (Some why) old result new s = still_play old new s.1
