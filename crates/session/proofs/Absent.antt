-- A topic that isn't there has no producers and nothing due.
use Rattle.std.proofs.Common.{◌≡◌, ℕ, ◌≤◌, List, [], ◌∷◌, length, refl, ap, sym, ◌∙◌, subst, false, Option, Some, None, Ok, arith}
use Rattle.std.proofs.lemmas.List.{get_or_past, set-get_or}
use Rattle.std.specs.FinMap as map
use Rattle.records.specs.Maps.{Kept}
use Rattle.subscriptions.specs.State.{Subscriptions}
use Rattle.subscriptions.specs.Steps as subscriptions
use Rattle.commands.specs.declared.reply.Reply.TheVariants.{SendError, Error, AckResponse}
use Rattle.commands.specs.declared.server_error.ServerError.{ServerError}
use Rattle.commands.specs.declared.server_error.ServerError.TheVariants.{NotAllowedError, ConsumerNotFound}
use Rattle.topic_core.specs.State.{Topic, just_made}
use Rattle.reply_queues.specs.Replies.{due_to}
use Rattle.topic_core.specs.declared.command.Send.{Send}
use Rattle.topic_core.specs.declared.command.TopicCommand.{TopicCommand}
use Rattle.topic_core.specs.declared.command.TopicCommand.TheVariants as command
use Rattle.topic_core.specs.declared.command.Answer.TheVariants.{Now, Nothing}
use Rattle.commands.specs.declared.consuming.Ack.{Ack as Asked}
use Rattle.commands.specs.declared.consuming.Unsubscribe.{Unsubscribe}
use Rattle.commands.specs.declared.giving_back.CloseConsumer.{CloseConsumer}
use Rattle.commands.specs.declared.giving_back.Redeliver.{Redeliver}
use Rattle.commands.specs.declared.producing.CloseProducer.{CloseProducer}
use Rattle.commands.specs.declared.consuming.AckType.{AckType}
use Rattle.ids.specs.declared.message_id.MessageIdData.{MessageIdData}
use Rattle.holds.specs.declared.consumer.ConsumerKey.{ConsumerKey}
use Rattle.topic_core.specs.Steps.{TopicStep, GrantStep, has_consumer, ack_refused, left}
use Rattle.topic_core.specs.Dispatch.{Admits}
use Rattle.session.specs.Broker.{Broker, fresh, topic_at, with_topic, due_at, CommandStep, GrantAt}
use Rattle.session.specs.Client.{Play, SaysAlone}
use Rattle.session.specs.Producing.{Asks, close_command}
use Rattle.session.specs.Consuming.{RefusesAck, ack_command, unsubscribe_command}
use Rattle.session.specs.GivingBack.{close_consumer_command, redeliver_command}

pub topic_at-absent : (b : Broker) (number : ℕ) → length b.topics ≤ number → topic_at b number ≡ fresh b.per_ledger
topic_at-absent b number h = get_or_past b.topics number (fresh b.per_ledger) h

pub due_at-absent : (b : Broker) (number who : ℕ) → length b.topics ≤ number → due_at b number who ≡ []
due_at-absent b number who h = ap (λ (t : Topic). due_to who t.queues) (topic_at-absent b number h)

-- nothing changes where the topic of a number is set to what it is
pub with_topic-same : (b : Broker) (number : ℕ) → with_topic b number (topic_at b number) ≡ b
with_topic-same b number = ap (λ (ts : List Topic). let x : Broker = record b { topics = ts } in x) (set-get_or b.topics number (fresh b.per_ledger))

nothing_in : {A : Type 0} (xs : List A) → length xs ≡ 0 → xs ≡ []
nothing_in [] h = refl
nothing_in (x ∷ xs) h = absurd (omega arith)

-- no subscription is durable
abbrev none_kept : Kept
none_kept = map.empty

none_kept-len : map.len none_kept ≡ 0
none_kept-len = map.len-empty _ _

none_kept-entries : map.entries none_kept ≡ []
none_kept-entries = nothing_in (map.entries none_kept) (sym (map.len-entries none_kept) ∙ none_kept-len)

abbrev no_subs : Subscriptions
no_subs = record { subs = []; changes = []; slots = []; messages = [] }

none_opened : subscriptions.opened none_kept ≡ no_subs
none_opened = ap (λ es. subscriptions.opened_all es) none_kept-entries

-- a topic over no entry and no durable subscription
abbrev over : ℕ → Subscriptions → Topic
over n subs = record (just_made n) { subs = subs }

-- a fresh topic has no subscription
fresh-over : (n : ℕ) → fresh n ≡ over n no_subs
fresh-over n = ap (λ subs. over n subs) none_opened

-- nobody leaves it
pub fresh-left : (n who : ℕ) → left (fresh n) who ≡ fresh n
fresh-left n who = let P : Topic → Type 0 = λ t. left t who ≡ t in subst P (sym (fresh-over n)) refl

-- nobody has a consumer on a topic that isn't there
pub has_consumer-absent : (b : Broker) (number who id : ℕ) → length b.topics ≤ number → has_consumer (topic_at b number) who id ≡ false
has_consumer-absent b number who id h = ap (λ (t : Topic). has_consumer t who id) (topic_at-absent b number h ∙ fresh-over b.per_ledger)

-- a fresh topic refuses a SEND
pub fresh-refuses : (n who : ℕ) (send : Send) → TopicStep (fresh n) who (command.Send send) (Now (SendError send.producer_id send.sequence_id NotAllowedError)) (fresh n)
fresh-refuses n who send = (refl, refl)

-- so a SEND to a topic that isn't there is refused
pub absent-refuses : (b : Broker) (number who : ℕ) (send : Send) → length b.topics ≤ number → CommandStep b number who (command.Send send) (Now (SendError send.producer_id send.sequence_id NotAllowedError)) b
absent-refuses b number who send h = record {
  step = let P : Topic → Type 0 = λ t. TopicStep t who (command.Send send) (Now (SendError send.producer_id send.sequence_id NotAllowedError)) t in
      subst P (sym (topic_at-absent b number h)) (fresh-refuses b.per_ledger who send);
  others = sym (with_topic-same b number);
}

-- the session may say it by itself
pub asks-absent : (old : Play) (number : ℕ) (send : Send) (new : Play) → length old.broker.topics ≤ number →
    SaysAlone old (SendError send.producer_id send.sequence_id NotAllowedError) new → Asks old number (command.Send send) new
asks-absent old number send new h s = record {
  answer = Now (SendError send.producer_id send.sequence_id NotAllowedError);
  step = let P : Broker → Type 0 = λ b. CommandStep old.broker number old.client.number (command.Send send) (Now (SendError send.producer_id send.sequence_id NotAllowedError)) b in
      subst P (sym s.1) (absent-refuses old.broker number old.client.number send h);
  answered = s.0;
}

-- a topic without subscriptions refuses an ACK
over-acks : (n who id : ℕ) (kind : AckType) (ids : List MessageIdData) (request : Option ℕ) →
    TopicStep (over n no_subs) who (command.Ack (record { consumer_id = id; ack_type = kind; message_ids = ids; request_id = request })) (ack_refused id request ConsumerNotFound) (over n no_subs)
over-acks n who id kind ids None = (refl, refl)
over-acks n who id kind ids (Some request) = (refl, refl)

-- so does a fresh one
fresh-acks : (n who id : ℕ) (kind : AckType) (ids : List MessageIdData) (request : Option ℕ) →
    TopicStep (fresh n) who (command.Ack (record { consumer_id = id; ack_type = kind; message_ids = ids; request_id = request })) (ack_refused id request ConsumerNotFound) (fresh n)
fresh-acks n who id kind ids request =
    let P : Topic → Type 0 = λ t. TopicStep t who (command.Ack (record { consumer_id = id; ack_type = kind; message_ids = ids; request_id = request })) (ack_refused id request ConsumerNotFound) t in
    subst P (sym (fresh-over n)) (over-acks n who id kind ids request)

-- so does one that isn't there
pub absent-acks : (b : Broker) (number who : ℕ) (asked : Asked) → length b.topics ≤ number → CommandStep b number who (ack_command asked) (ack_refused asked.consumer_id asked.request_id ConsumerNotFound) b
absent-acks b number who asked h = record {
  step = let P : Topic → Type 0 = λ t. TopicStep t who (ack_command asked) (ack_refused asked.consumer_id asked.request_id ConsumerNotFound) t in
      subst P (sym (topic_at-absent b number h)) (fresh-acks b.per_ledger who asked.consumer_id asked.ack_type asked.message_ids asked.request_id);
  others = sym (with_topic-same b number);
}

acks-answer : (request : Option ℕ) (old : Play) (number : ℕ) (asked : Asked) (new : Play) →
    CommandStep old.broker number old.client.number (ack_command asked) (ack_refused asked.consumer_id request ConsumerNotFound) old.broker →
    RefusesAck request old asked.consumer_id new → Asks old number (ack_command asked) new
acks-answer None old number asked new step h = record {
  answer = Nothing;
  step = let P : Broker → Type 0 = λ b. CommandStep old.broker number old.client.number (ack_command asked) Nothing b in
      subst P (sym (ap (λ (p : Play). p.broker) h)) step;
  answered = (ap (λ (p : Play). p.client) h, ap (λ (p : Play). p.out) h);
}
acks-answer (Some request) old number asked new step h = record {
  answer = Now (AckResponse asked.consumer_id (Some ConsumerNotFound) request);
  step = let P : Broker → Type 0 = λ b. CommandStep old.broker number old.client.number (ack_command asked) (Now (AckResponse asked.consumer_id (Some ConsumerNotFound) request)) b in
      subst P (sym h.1) step;
  answered = h.0;
}

-- the session may refuse it by itself
pub acks-absent : (old : Play) (number : ℕ) (asked : Asked) (new : Play) → length old.broker.topics ≤ number →
    RefusesAck asked.request_id old asked.consumer_id new → Asks old number (ack_command asked) new
acks-absent old number asked new h r = acks-answer asked.request_id old number asked new (absent-acks old.broker number old.client.number asked h) r

-- a topic without producers refuses a CLOSE_PRODUCER
over-closes : (n who : ℕ) (asked : CloseProducer) → TopicStep (over n no_subs) who (close_command asked) (Now (Error asked.request_id NotAllowedError)) (over n no_subs)
over-closes n who asked = (refl, refl)

-- and one without subscriptions an UNSUBSCRIBE
over-unsubscribes : (n who : ℕ) (asked : Unsubscribe) → TopicStep (over n no_subs) who (unsubscribe_command asked) (Now (Error asked.request_id ConsumerNotFound)) (over n no_subs)
over-unsubscribes n who asked = (refl, refl)

-- and a CLOSE_CONSUMER
over-close-consumers : (n who : ℕ) (asked : CloseConsumer) → TopicStep (over n no_subs) who (close_consumer_command asked) (Now (Error asked.request_id ConsumerNotFound)) (over n no_subs)
over-close-consumers n who asked = (refl, refl)

-- what such a topic refuses at once, one that isn't there does
abbrev Refused : Play → TopicCommand → ℕ → ServerError → Type 0
Refused old asked request error = TopicStep (over old.broker.per_ledger no_subs) old.client.number asked (Now (Error request error)) (over old.broker.per_ledger no_subs)

refuses-absent : (old : Play) (number : ℕ) (asked : TopicCommand) (request : ℕ) (error : ServerError) (new : Play) → length old.broker.topics ≤ number →
    Refused old asked request error → SaysAlone old (Error request error) new → Asks old number asked new
refuses-absent old number asked request error new h step said = record {
  answer = Now (Error request error);
  step = let P : Broker → Type 0 = λ b. CommandStep old.broker number old.client.number asked (Now (Error request error)) b in
      let Q : Topic → Type 0 = λ t. TopicStep t old.client.number asked (Now (Error request error)) t in
      subst P (sym said.1) (record {
        step = subst Q (sym (topic_at-absent old.broker number h ∙ fresh-over old.broker.per_ledger)) step;
        others = sym (with_topic-same old.broker number);
      });
  answered = said.0;
}

-- so the session may refuse them by itself
pub closes-absent : (old : Play) (number : ℕ) (asked : CloseProducer) (new : Play) → length old.broker.topics ≤ number →
    SaysAlone old (Error asked.request_id NotAllowedError) new → Asks old number (close_command asked) new
closes-absent old number asked new h said = refuses-absent old number (close_command asked) asked.request_id NotAllowedError new h (over-closes old.broker.per_ledger old.client.number asked) said

pub unsubscribes-absent : (old : Play) (number : ℕ) (asked : Unsubscribe) (new : Play) → length old.broker.topics ≤ number →
    SaysAlone old (Error asked.request_id ConsumerNotFound) new → Asks old number (unsubscribe_command asked) new
unsubscribes-absent old number asked new h said = refuses-absent old number (unsubscribe_command asked) asked.request_id ConsumerNotFound new h (over-unsubscribes old.broker.per_ledger old.client.number asked) said

pub close-consumer-absent : (old : Play) (number : ℕ) (asked : CloseConsumer) (new : Play) → length old.broker.topics ≤ number →
    SaysAlone old (Error asked.request_id ConsumerNotFound) new → Asks old number (close_consumer_command asked) new
close-consumer-absent old number asked new h said =
    refuses-absent old number (close_consumer_command asked) asked.request_id ConsumerNotFound new h (over-close-consumers old.broker.per_ledger old.client.number asked) said

-- nothing is given back on a topic that isn't there
over-redelivers : (n who : ℕ) (asked : Redeliver) → TopicStep (over n no_subs) who (redeliver_command asked) Nothing (over n no_subs)
over-redelivers n who asked = (refl, refl)

pub redelivers-absent : (old : Play) (number : ℕ) (asked : Redeliver) → length old.broker.topics ≤ number → Asks old number (redeliver_command asked) old
redelivers-absent old number asked h = record {
  answer = Nothing;
  step = record {
    step = let P : Topic → Type 0 = λ t. TopicStep t old.client.number (redeliver_command asked) Nothing t in
        subst P (sym (topic_at-absent old.broker number h ∙ fresh-over old.broker.per_ledger)) (over-redelivers old.broker.per_ledger old.client.number asked);
    others = sym (with_topic-same old.broker number);
  };
  answered = (refl, refl);
}

-- a topic that isn't there grants nothing
pub grants-absent : (b : Broker) (number who id permits : ℕ) → length b.topics ≤ number → GrantAt b number who id permits (Ok tt) b
grants-absent b number who id permits h = record {
  step = let P : Topic → Type 0 = λ t. GrantStep t who id permits (Ok tt) t in
      subst P (sym (topic_at-absent b number h ∙ fresh-over b.per_ledger)) (refl, refl);
  others = sym (with_topic-same b number);
}

-- and admits nothing
pub admits-absent : (b : Broker) (number : ℕ) (key : ConsumerKey) (i : ℕ) → length b.topics ≤ number → Admits (topic_at b number) key i → ⊥
admits-absent b number key i h a =
    let P : Topic → Type 0 = λ t. Admits t key i in
    (subst P (topic_at-absent b number h ∙ fresh-over b.per_ledger) a).admitted
