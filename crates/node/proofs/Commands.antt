-- What a command leaves of a topic, by its answer.
use Rattle.std.proofs.Common.{◌≡◌, ◌⊎◌, inl, inr, ⊎_elim, ℕ, Bool, true, false, cond, Option, Some, None, Result, Ok, Err, List, [], refl, sym, subst}
use Rattle.commands.specs.declared.reply.Reply.{Reply}
use Rattle.commands.specs.declared.reply.Reply.TheVariants.{ProducerSuccess, SendError, Success, Error, AckResponse}
use Rattle.commands.specs.declared.server_error.ServerError.{ServerError}
use Rattle.commands.specs.declared.server_error.ServerError.TheVariants.{PersistenceError}
use Rattle.topic_core.specs.declared.command.Answer.{Answer}
use Rattle.topic_core.specs.declared.command.Answer.TheVariants.{Now, Later, Nothing, NoMemory}
use Rattle.topic_core.specs.declared.command.Send.{Send}
use Rattle.topic_core.specs.declared.command.TopicCommand.{TopicCommand}
use Rattle.topic_core.specs.declared.command.TopicCommand.TheVariants as asked
use Rattle.topic_core.specs.declared.command.Subscribe.{Subscribe}
use Rattle.commands.specs.declared.consuming.Ack.{Ack}
use Rattle.commands.specs.declared.producing.CloseProducer.{CloseProducer}
use Rattle.commands.specs.declared.consuming.Unsubscribe.{Unsubscribe}
use Rattle.commands.specs.declared.giving_back.CloseConsumer.{CloseConsumer}
use Rattle.commands.specs.declared.giving_back.Redeliver.{Redeliver}
use Rattle.topic_core.specs.State.{Topic}
use Rattle.reply_queues.specs.Replies.{queued, is_receipt}
use Rattle.holds.specs.declared.consumer.ConsumerKey.{ConsumerKey}
use Rattle.subscriptions.specs.State.{Subscriptions}
use Rattle.subscriptions.specs.Steps as subscriptions
use Rattle.permits.specs.declared.plain.TooManyPermits.{TooManyPermits}
use Rattle.topic_core.specs.Dispatch.{sent}
use Rattle.permits.specs.Ends.{Word}
use Rattle.topic_core.proofs.Meeting.{met}
use Rattle.topic_core.specs.Steps.{Outcome, outcome_of, GrantStep, key_of, TopicStep, refused_or, first_standing, producer_refusals, send_refusals, subscribe_refusal, attach_refusal, ack_refusals, ack_refused, ack_accepted, close_refusals, closing, unsubscribe_refusal, unsubscribed, detach_refusals, detached, asked_back, with_producer, accepted, subscribed, bytes_of}
use Rattle.topic_core.proofs.Sends.{takes_entry}
use Rattle.topic_core.proofs.Subscribing.{accepts}
use Rattle.topic_core.proofs.Closings.{close-works, unsubscribe-works}
use Rattle.node.specs.Telling.{is_message}
use Rattle.node.specs.Finding.{sent_by}

producer_cases : (o : Option ServerError) (t : Topic) (who id request : ℕ) (name : List ℕ) (u : Topic)
    → u ≡ (refused_or o (λ error. Now (Error request error)) t (record { answer = Now (ProducerSuccess request name); topic = with_producer t who id name })).topic
    → (u ≡ t) ⊎ (u ≡ with_producer t who id name)
producer_cases None t who id request name u is = inr is
producer_cases (Some e) t who id request name u is = inl is

pub producer_topic : (answer : Answer) (t : Topic) (who id request : ℕ) (name : List ℕ) (u : Topic) → TopicStep t who (asked.Producer id request name) answer u → (u ≡ t) ⊎ (u ≡ with_producer t who id name)
producer_topic NoMemory t who id request name u step = inl step.0
producer_topic (Now r) t who id request name u step = producer_cases (first_standing (producer_refusals t name)) t who id request name u step.1
producer_topic Nothing t who id request name u step = producer_cases (first_standing (producer_refusals t name)) t who id request name u step.1
producer_topic Later t who id request name u step = producer_cases (first_standing (producer_refusals t name)) t who id request name u step.1

send_cases : (o : Option ServerError) (t : Topic) (who : ℕ) (send : Send) (a : Answer) (u : Topic)
    → let made : Outcome = refused_or o (λ error. Now (SendError send.producer_id send.sequence_id error)) t (record { answer = Later; topic = accepted t who send.producer_id send.sequence_id (bytes_of send.entry) }) in
    a ≡ made.answer → u ≡ made.topic → ((u ≡ t) × (a ≡ Later → ⊥)) ⊎ ((a ≡ Later) × (o ≡ None) × (u ≡ accepted t who send.producer_id send.sequence_id (bytes_of send.entry)))
send_cases None t who send a u answer is = inr (answer, refl, is)
send_cases (Some e) t who send a u answer is = inl (is, λ later. cc)

-- a SEND is never left without an answer
pub silent_topic : (t : Topic) (who : ℕ) (send : Send) (u : Topic) → TopicStep t who (asked.Send send) Nothing u → u ≡ t
silent_topic t who send u step =
    ⊎_elim (λ same. same.0) (λ is. absurd (let later : Nothing ≡ Later = is.0 in cc)) (send_cases (first_standing (send_refusals t who send)) t who send Nothing u step.0 step.1)

pub refused_topic : (t : Topic) (who : ℕ) (send : Send) (r : Reply) (u : Topic) → TopicStep t who (asked.Send send) (Now r) u → u ≡ t
refused_topic t who send r u step =
    ⊎_elim (λ same. same.0) (λ is. absurd (let later : Now r ≡ Later = is.0 in cc)) (send_cases (first_standing (send_refusals t who send)) t who send (Now r) u step.0 step.1)

-- a SEND is accepted by a topic that works
pub accepted_topic : (t : Topic) (who : ℕ) (send : Send) (u : Topic) → TopicStep t who (asked.Send send) Later u → (t.failed ≡ false) × (u ≡ accepted t who send.producer_id send.sequence_id (bytes_of send.entry))
accepted_topic t who send u step =
    let is = ⊎_elim (λ same. absurd (same.1 refl)) (λ is. is) (send_cases (first_standing (send_refusals t who send)) t who send Later u step.0 step.1) in
    ((takes_entry t who send is.1).0, is.2)

-- nothing refuses a SEND that is accepted
pub unrefused : (t : Topic) (who : ℕ) (send : Send) (u : Topic) → TopicStep t who (asked.Send send) Later u → first_standing (send_refusals t who send) ≡ None
unrefused t who send u step = ⊎_elim (λ same. absurd (same.1 refl)) (λ is. is.1) (send_cases (first_standing (send_refusals t who send)) t who send Later u step.0 step.1)

-- neither a receipt nor a message
pub record IsNeither (reply : Reply) : Type 0 where
  pub no_receipt : is_receipt reply ≡ false
  pub no_message : is_message reply ≡ false

-- a session's command leaves the entries as they are; a topic that works may then owe the session one more reply
pub record Awaits (who : ℕ) (t u : Topic) : Type 0 where
  pub per_ledger : u.per_ledger ≡ t.per_ledger
  pub committed : u.committed ≡ t.committed
  pub ledger : u.ledger ≡ t.ledger
  pub waiting : u.waiting ≡ t.waiting
  pub doubt : u.doubt ≡ t.doubt
  pub handed : u.handed ≡ t.handed
  pub failed : u.failed ≡ t.failed
  pub queues : (u.queues ≡ t.queues) ⊎ ((r : Reply) × IsNeither r × (t.failed ≡ false) × (u.queues ≡ queued who r t.queues))

awaits_nothing : (who : ℕ) (t : Topic) → Awaits who t t
awaits_nothing who t = record { per_ledger = refl; committed = refl; ledger = refl; waiting = refl; doubt = refl; handed = refl; failed = refl; queues = inl refl }

-- by its outcome
awaits_by : (who : ℕ) (c : TopicCommand) (t : Topic) (a : Answer) (u : Topic) → ((word : Word) → Awaits who t (outcome_of t who c word).topic) → TopicStep t who c a u → Awaits who t u
awaits_by who c t NoMemory u h step = subst (λ (x : Topic). Awaits who t x) (sym step.0) (awaits_nothing who t)
awaits_by who c t Nothing u h step = let m = met t who c Nothing u step in subst (λ (x : Topic). Awaits who t x) (sym m.1.1) (h m.0)
awaits_by who c t (Now r) u h step = let m = met t who c (Now r) u step in subst (λ (x : Topic). Awaits who t x) (sym m.1.1) (h m.0)
awaits_by who c t Later u h step = let m = met t who c Later u step in subst (λ (x : Topic). Awaits who t x) (sym m.1.1) (h m.0)

refused_awaits : (who : ℕ) (o : Option ServerError) (refused : ServerError → Answer) (t : Topic) (effect : Outcome) → (o ≡ None → Awaits who t effect.topic) → Awaits who t (refused_or o refused t effect).topic
refused_awaits who None refused t effect h = h refl
refused_awaits who (Some e) refused t effect h = awaits_nothing who t

pub no_first : (b : Bool) (e : ServerError) (o : Option ServerError) → cond b (Some e) o ≡ None → b ≡ false
no_first true e o h = absurd cc
no_first false e o h = refl

-- a reply that is no receipt and no message awaits a flush
awaits_one : (who : ℕ) (r : Reply) → IsNeither r → (t u : Topic) → u.per_ledger ≡ t.per_ledger → u.committed ≡ t.committed → u.ledger ≡ t.ledger → u.waiting ≡ t.waiting → u.doubt ≡ t.doubt → u.handed ≡ t.handed
    → u.failed ≡ t.failed → t.failed ≡ false → u.queues ≡ queued who r t.queues → Awaits who t u
awaits_one who r plain t u per_ledger committed ledger waiting doubt handed failed works queues = record {
  per_ledger = per_ledger;
  committed = committed;
  ledger = ledger;
  waiting = waiting;
  doubt = doubt;
  handed = handed;
  failed = failed;
  queues = inr (r, plain, works, queues);
}

pub subscribe_topic : (a : Answer) (t : Topic) (who : ℕ) (subscribe : Subscribe) (u : Topic) → TopicStep t who (asked.Subscribe subscribe) a u → Awaits who t u
subscribe_topic a t who subscribe u step = awaits_by who (asked.Subscribe subscribe) t a u
    (λ word. refused_awaits who (subscribe_refusal t subscribe) (λ error. Now (Error subscribe.request_id error)) t (record { answer = Later; topic = subscribed t who subscribe word })
    (λ none. awaits_one who (Success subscribe.request_id) (record { no_receipt = refl; no_message = refl }) t (subscribed t who subscribe word) refl refl refl refl refl refl refl (no_first t.failed PersistenceError (attach_refusal t subscribe) none) refl))
    step

accepted_awaits : (request : Option ℕ) (t : Topic) (who : ℕ) (ack : Ack) → t.failed ≡ false → Awaits who t (ack_accepted t who ack request).topic
accepted_awaits None t who ack works = record { per_ledger = refl; committed = refl; ledger = refl; waiting = refl; doubt = refl; handed = refl; failed = refl; queues = inl refl }
accepted_awaits (Some request) t who ack works =
    awaits_one who (AckResponse ack.consumer_id None request) (record { no_receipt = refl; no_message = refl }) t (ack_accepted t who ack (Some request)).topic refl refl refl refl refl refl refl works refl

pub ack_topic : (a : Answer) (t : Topic) (who : ℕ) (ack : Ack) (u : Topic) → TopicStep t who (asked.Ack ack) a u → Awaits who t u
ack_topic a t who ack u step = awaits_by who (asked.Ack ack) t a u
    (λ word. refused_awaits who (first_standing (ack_refusals t who ack)) (ack_refused ack.consumer_id ack.request_id) t (ack_accepted t who ack ack.request_id)
    (λ none. accepted_awaits ack.request_id t who ack (accepts t who ack none).works))
    step

pub close_topic : (a : Answer) (t : Topic) (who : ℕ) (close : CloseProducer) (u : Topic) → TopicStep t who (asked.CloseProducer close) a u → Awaits who t u
close_topic a t who close u step = awaits_by who (asked.CloseProducer close) t a u
    (λ word. refused_awaits who (first_standing (close_refusals t who close)) (λ error. Now (Error close.request_id error)) t (record { answer = Later; topic = closing t who close })
    (λ none. awaits_one who (Success close.request_id) (record { no_receipt = refl; no_message = refl }) t (closing t who close) refl refl refl refl refl refl refl (close-works t who close none) refl))
    step

pub unsubscribe_topic : (a : Answer) (t : Topic) (who : ℕ) (unsubscribe : Unsubscribe) (u : Topic) → TopicStep t who (asked.Unsubscribe unsubscribe) a u → Awaits who t u
unsubscribe_topic a t who unsubscribe u step = awaits_by who (asked.Unsubscribe unsubscribe) t a u
    (λ word. refused_awaits who (unsubscribe_refusal t who unsubscribe) (λ error. Now (Error unsubscribe.request_id error)) t (record { answer = Later; topic = unsubscribed t who unsubscribe })
    (λ none. awaits_one who (Success unsubscribe.request_id) (record { no_receipt = refl; no_message = refl }) t (unsubscribed t who unsubscribe) refl refl refl refl refl refl refl (unsubscribe-works t who unsubscribe none) refl))
    step

granted_by : (failed : Bool) (who : ℕ) (t : Topic) (subs : Subscriptions) → Awaits who t (cond failed t (record t { subs = subs }))
granted_by true who t subs = awaits_nothing who t
granted_by false who t subs = record { per_ledger = refl; committed = refl; ledger = refl; waiting = refl; doubt = refl; handed = refl; failed = refl; queues = inl refl }

-- a consumer is detached at once
pub detach_topic : (a : Answer) (t : Topic) (who : ℕ) (close : CloseConsumer) (u : Topic) → TopicStep t who (asked.CloseConsumer close) a u → Awaits who t u
detach_topic a t who close u step = awaits_by who (asked.CloseConsumer close) t a u
    (λ word. refused_awaits who (first_standing (detach_refusals t who close)) (λ error. Now (Error close.request_id error)) t (record { answer = Now (Success close.request_id); topic = detached t who close })
    (λ none. record { per_ledger = refl; committed = refl; ledger = refl; waiting = refl; doubt = refl; handed = refl; failed = refl; queues = inl refl }))
    step

-- what a consumer gives back is free at once
pub redeliver_topic : (a : Answer) (t : Topic) (who : ℕ) (redeliver : Redeliver) (u : Topic) → TopicStep t who (asked.Redeliver redeliver) a u → Awaits who t u
redeliver_topic a t who redeliver u step = awaits_by who (asked.Redeliver redeliver) t a u
    (λ word. granted_by t.failed who t (subscriptions.redelivered t.subs (key_of who redeliver.consumer_id) (asked_back t.per_ledger t.committed redeliver.message_ids)))
    step

-- so do permits
pub granted_topic : (result : Result (Unit {0}) TooManyPermits) (t : Topic) (who id permits : ℕ) (u : Topic) → GrantStep t who id permits result u → Awaits who t u
granted_topic (Ok done) t who id permits u step = subst (λ (x : Topic). Awaits who t x) (sym step.1) (granted_by t.failed who t (subscriptions.granted t.subs (key_of who id) permits))
granted_topic (Err why) t who id permits u step = subst (λ (x : Topic). Awaits who t x) (sym step.1) (awaits_nothing who t)

-- and a message
pub sent_topic : (who : ℕ) (t : Topic) (key : ConsumerKey) (i : ℕ) (u : Topic) → u ≡ sent t key i → Awaits who t u
sent_topic who t key i u is = subst (λ (x : Topic). Awaits who t x) (sym is) (record { per_ledger = refl; committed = refl; ledger = refl; waiting = refl; doubt = refl; handed = refl; failed = refl; queues = inl refl })

-- a producer that is attached, or not
attach_topic : (a : Answer) (t : Topic) (who id request : ℕ) (name : List ℕ) (u : Topic) → TopicStep t who (asked.Producer id request name) a u → Awaits who t u
attach_topic a t who id request name u step = ⊎_elim
    (λ same. subst (λ (x : Topic). Awaits who t x) (sym same) (awaits_nothing who t))
    (λ more. subst (λ (x : Topic). Awaits who t x) (sym more) (record { per_ledger = refl; committed = refl; ledger = refl; waiting = refl; doubt = refl; handed = refl; failed = refl; queues = inl refl }))
    (producer_topic a t who id request name u step)

-- What a SEND that is accepted has, and any other command, has each command.
module _ (t : Topic) (who : ℕ) (R : TopicCommand → Answer → Topic → Type 0)
    (other : (c : TopicCommand) (a : Answer) (u : Topic) → ((per_ledger position : ℕ) → sent_by per_ledger position who c a ≡ []) → Awaits who t u → R c a u)
    (sends : (send : Send) (u : Topic) → t.failed ≡ false → u ≡ accepted t who send.producer_id send.sequence_id (bytes_of send.entry) → R (asked.Send send) Later u) where
  same : (c : TopicCommand) (a : Answer) (u : Topic) → ((per_ledger position : ℕ) → sent_by per_ledger position who c a ≡ []) → u ≡ t → R c a u
  same c a u none is = other c a u none (subst (λ (x : Topic). Awaits who t x) (sym is) (awaits_nothing who t))

  pub by_command : (c : TopicCommand) (a : Answer) (u : Topic) → TopicStep t who c a u → R c a u
  by_command (asked.Producer id request name) a u step = other (asked.Producer id request name) a u (λ n p. refl) (attach_topic a t who id request name u step)
  by_command (asked.Send send) (Now r) u step = same (asked.Send send) (Now r) u (λ n p. refl) (refused_topic t who send r u step)
  by_command (asked.Send send) Later u step = let is = accepted_topic t who send u step in sends send u is.0 is.1
  by_command (asked.Send send) Nothing u step = same (asked.Send send) Nothing u (λ n p. refl) (silent_topic t who send u step)
  by_command (asked.Send send) NoMemory u step = same (asked.Send send) NoMemory u (λ n p. refl) step.0
  by_command (asked.Subscribe subscribe) a u step = other (asked.Subscribe subscribe) a u (λ n p. refl) (subscribe_topic a t who subscribe u step)
  by_command (asked.Ack ack) a u step = other (asked.Ack ack) a u (λ n p. refl) (ack_topic a t who ack u step)
  by_command (asked.CloseProducer close) a u step = other (asked.CloseProducer close) a u (λ n p. refl) (close_topic a t who close u step)
  by_command (asked.Unsubscribe unsubscribe) a u step = other (asked.Unsubscribe unsubscribe) a u (λ n p. refl) (unsubscribe_topic a t who unsubscribe u step)
  by_command (asked.CloseConsumer close) a u step = other (asked.CloseConsumer close) a u (λ n p. refl) (detach_topic a t who close u step)
  by_command (asked.Redeliver redeliver) a u step = other (asked.Redeliver redeliver) a u (λ n p. refl) (redeliver_topic a t who redeliver u step)
