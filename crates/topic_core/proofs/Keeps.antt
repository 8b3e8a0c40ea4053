-- Each step keeps a topic sound; what a flush commits.
use Rattle.std.proofs.lemmas.List.{length-take, take-append-le}
use Rattle.std.proofs.Common.{◌≡◌, inl, ⊎_elim, ℕ, ◌+◌, ◌≤◌, ◌^◌, max, min, Bool, true, false, cond, not, ◌&&◌, nat_eq, Option, Some, None, Result, Ok, Err, List, [], ◌∷◌, ◌++◌, length, map, take, refl, subst, sym, ap, ◌∙◌, arith}
use Rattle.commands.specs.declared.reply.Reply.{Reply}
use Rattle.topic_core.specs.declared.producer.Producer.{Producer}
use Rattle.gated_log.specs.declared.refusal.Refusal.{Refusal}
use Rattle.gated_log.specs.declared.refusal.Refusal.TheVariants as refusal
use Rattle.topic_stores.specs.declared.batch.Batch.{Batch}
use Rattle.topic_stores.specs.declared.error.WriteError.{WriteError}
use Rattle.topic_stores.specs.declared.error.WriteError.TheVariants as write
use Rattle.gated_log.specs.declared.read_error.ReadError.{ReadError}
use Rattle.gated_log.specs.declared.read_error.ReadError.TheVariants as read
use Rattle.std.specs.List.{find, list_all}
use Rattle.std.proofs.lemmas.Bool.{eqb-true}
use Rattle.records.specs.declared.record.Record.TheVariants.{Made}
use Rattle.subscriptions.specs.Marks.{Marks, marks_in}
use Rattle.subscriptions.specs.declared.consumer.Mode.{Mode}
use Rattle.commands.specs.declared.consuming.Ack.{Ack}
use Rattle.commands.specs.declared.server_error.ServerError.{ServerError}
use Rattle.topic_core.specs.declared.command.TopicCommand.{TopicCommand}
use Rattle.topic_core.specs.declared.command.TopicCommand.TheVariants as command
use Rattle.topic_core.specs.declared.command.Answer.{Answer}
use Rattle.topic_core.specs.declared.command.Answer.TheVariants.{Now, Later, Nothing, NoMemory}
use Rattle.holds.specs.declared.consumer.ConsumerKey.{ConsumerKey}
use Rattle.holds.specs.declared.consumer.Consumer.{Consumer as Seat}
use Rattle.records.specs.Maps.{Kept}
use Rattle.records.specs.Records.{after_all}
use Rattle.subscriptions.specs.Laws.{IsKept}
use Rattle.subscriptions.specs.Steps as subscriptions
use Rattle.subscriptions.specs.State.{Subscriptions}
use Rattle.subscriptions.specs.Soundness.{IsCommitted, IsSound as AreSound}
use Rattle.records.specs.declared.record.Record.{Record}
use Rattle.subscriptions.specs.Laws.{AreDurable}
use Rattle.permits.specs.declared.plain.TooManyPermits.{TooManyPermits}
use Rattle.subscriptions.proofs.Limits.{each_sound, each_committed, picked}
use Rattle.subscriptions.proofs.Durable.{are_kept}
use Rattle.topic_core.specs.declared.dispatch.Outgoing.{Outgoing}
use Rattle.reply_queues.specs.Replies.{SessionReplies, is_for, due_to, pending_to, make_all_due}
use Rattle.managed_ledger.specs.Entries.{Ledger, end_of, lengthened}
use Rattle.managed_ledger.specs.Trims.{end_lengthened, entry_within, lengthened_both}
use Rattle.records.specs.Floors.{HaveBelow}
use Rattle.topic_core.specs.Slots.{slot_of_entry, slots_of}
use Rattle.topic_core.specs.Messages.{messages_of_entry, messages_of, marks_of}
use Rattle.topic_core.proofs.Slotted.{known_of, known_lengthened, are_marks, marks_none}
use Rattle.topic_core.specs.State.{Topic, opened, floor, entries_of, changes_of, entries_in_doubt, changes_in_doubt}
use Rattle.topic_core.specs.Soundness.{IsSound, AreReceipts, IsSoundTopic}
use Rattle.topic_core.specs.Steps.{TopicStep, Outcome, Collects, GrantStep, outcome_of, refused_or, first_standing, producer_refusals, send_refusals, bytes_of, subscribe_refusal, close_refusals, unsubscribe_refusal, ack_refusals, ack_accepted, detach_refusals, asked_back, has_consumer, key_of, seat_of, start_of, granted, grants_too_many, learnt, HasLearnt, left}
use Rattle.topic_core.specs.Dispatch.{Admits, DispatchStep, sent}
use Rattle.topic_core.specs.Flush.{IsTrimPoint, has_no_flush, is_idle, handed_on, finished, taken_back, failed, TakeStep, FinishStep, FlushStep, FlushIn, FlushEnds}
use Rattle.topic_core.specs.Crashes.{IsLeft, TopicCrash, ReopenStep, ReopenEnds, ReopenIn, reopened, longer, changed}
use Rattle.topic_core.proofs.Openings.{sound-opened, receipts-opened, sound-reopened, receipts-reopened}
use Rattle.topic_core.specs.Laws.{IsFlushed, IsAdmitted}
use Rattle.topic_core.proofs.Sends.{takes_entry, sound-accepted, receipts-accepted}
use Rattle.topic_core.proofs.Collects.{sound-collected, receipts-collected, sound-left, receipts-left}
use Rattle.topic_core.proofs.Subscribing.{sound-subs, receipts-subs, sound-subscribed, receipts-subscribed, kept-subscribed, accepts, sound-acked, receipts-acked, kept-acked, first-acked, marks-attached, marks-acked}
use Rattle.topic_core.proofs.Floors.{adds_none, same_acknowledged, handed_on_acknowledged, taken_back_acknowledged, failed_acknowledged, trimmed_end, finished_acknowledged, finished_marks, opened_acknowledged, reopened_acknowledged, left_below, left_end, trimmed_at_base}
use Rattle.topic_core.proofs.States.{AreKeptBack, all_opened}
use Rattle.topic_core.proofs.Meeting.{met}
use Rattle.topic_core.proofs.Closings.{sound-producers, receipts-producers, close-works, sound-closing, receipts-closing, sound-unsubscribed, receipts-unsubscribed, kept-unsubscribed, changes-unsubscribed}
use Rattle.topic_core.proofs.Flushes.{sound-handed_on, receipts-handed_on, sound-finished, receipts-finished, sound-taken_back, receipts-taken_back, sound-failed, receipts-failed}
use Rattle.topic_core.proofs.Flushing.{finished-handed_on, empty, and_first, and_second, idle-append, idle-lengthened, idle-waiting, idle-changes, idle-queues-of, idle-producers, idle-where}
use Rattle.topic_core.proofs.States.{open_stay}
use Rattle.permits.specs.Ends.{Seen, Word}

-- a core that is sound, with as many committed entries as before, over the same durable subscriptions
pub record Stays (old new : Topic) : Type 0 where
  pub sound : IsSound new
  pub receipts : AreReceipts new
  pub committed : new.committed ≡ old.committed
  pub kept : (kept : Kept) → IsKept old.committed kept old.subs → IsKept old.committed kept new.subs
  -- what is in doubt stays so
  pub failed : new.failed ≡ old.failed
  pub entries : entries_in_doubt new ≡ entries_in_doubt old
  pub changes : changes_in_doubt new ≡ changes_in_doubt old
  pub per_ledger : new.per_ledger ≡ old.per_ledger
  pub ledger : new.ledger ≡ old.ledger
  pub durable : new.kept ≡ old.kept
  pub doubt : new.doubt ≡ old.doubt
  -- where each entry had its marks, each has
  pub marks : (ledger : Ledger) → marks_in old.subs ≡ marks_of (lengthened ledger old.waiting) → marks_in new.subs ≡ marks_of (lengthened ledger new.waiting)

abbrev pub Keeps : Topic → Topic → Type 0
Keeps old new = IsSound old → AreReceipts old → Stays old new

-- what a call of a session may change
abbrev framed : Topic → Topic → Topic
framed t new = record t { waiting = new.waiting; accepted = new.accepted; handed = new.handed; producers = new.producers; subs = new.subs; queues = new.queues }

stays : (t new : Topic) → new ≡ framed t new → IsSound new → AreReceipts new → ((kept : Kept) → IsKept t.committed kept t.subs → IsKept t.committed kept new.subs)
    → entries_in_doubt new ≡ entries_in_doubt t
    → changes_in_doubt new ≡ changes_in_doubt t → ((ledger : Ledger) → marks_in t.subs ≡ marks_of (lengthened ledger t.waiting) → marks_in new.subs ≡ marks_of (lengthened ledger new.waiting))
    → Stays t new
stays t new frame sound receipts kept entries changes marks = record {
  sound = sound;
  receipts = receipts;
  committed = ap (λ (x : Topic). x.committed) frame;
  kept = kept;
  failed = ap (λ (x : Topic). x.failed) frame;
  entries = entries;
  changes = changes;
  per_ledger = ap (λ (x : Topic). x.per_ledger) frame;
  ledger = ap (λ (x : Topic). x.ledger) frame;
  durable = ap (λ (x : Topic). x.kept) frame;
  doubt = ap (λ (x : Topic). x.doubt) frame;
  marks = marks;
}

still : (t : Topic) → Keeps t t
still t sound are = stays t t refl sound are (λ kept is. is) refl refl (λ ledger is. is)

with-producers : (t : Topic) (ps : List Producer) → (AreKeptBack t.producers → AreKeptBack ps) → Keeps t (record t { producers = ps })
with-producers t ps to sound are = stays t _ refl (sound-producers t ps to sound) (receipts-producers t ps are) (λ kept is. is) refl refl (λ ledger is. is)

doubt-attached : (t : Topic) (name : List ℕ) (mode : Mode) (seat : Seat) (word : Word) (start : ℕ) → changes_of t.doubt ≤ length t.subs.changes
    → take (changes_of t.doubt) (subscriptions.attached t.subs name mode seat word start).changes ≡ take (changes_of t.doubt) t.subs.changes
doubt-attached t name mode seat word start low =
    elim (find (subscriptions.is_named name) t.subs.subs) as (λ o. take (changes_of t.doubt) (subscriptions.attached_at o t.subs name mode seat word start).changes ≡ take (changes_of t.doubt) t.subs.changes) [
      | None ↦ take-append-le (changes_of t.doubt) t.subs.changes (Made name start ∷ []) low
      | Some s ↦ refl
    ]

frame-acked : (t : Topic) (who : ℕ) (ack : Ack) (request : Option ℕ) → (let new = (ack_accepted t who ack request).topic in new ≡ framed t new)
frame-acked t who ack None = refl
frame-acked t who ack (Some request) = refl

entries-acked : (t : Topic) (who : ℕ) (ack : Ack) (request : Option ℕ) → entries_in_doubt (ack_accepted t who ack request).topic ≡ entries_in_doubt t
entries-acked t who ack None = refl
entries-acked t who ack (Some request) = refl

changes-acked : (t : Topic) (who : ℕ) (ack : Ack) → changes_of t.doubt ≤ length t.subs.changes → (request : Option ℕ) → changes_in_doubt (ack_accepted t who ack request).topic ≡ changes_in_doubt t
changes-acked t who ack low None = first-acked (changes_of t.doubt) ack.ack_type t.subs _ _ low
changes-acked t who ack low (Some request) = first-acked (changes_of t.doubt) ack.ack_type t.subs _ _ low

marks-answered : (t : Topic) (who : ℕ) (ack : Ack) (ledger : Ledger) → marks_in t.subs ≡ marks_of (lengthened ledger t.waiting)
    → (request : Option ℕ) → marks_in (ack_accepted t who ack request).topic.subs ≡ marks_of (lengthened ledger (ack_accepted t who ack request).topic.waiting)
marks-answered t who ack ledger is None = marks-acked ack.ack_type t.subs _ _ ∙ is
marks-answered t who ack ledger is (Some request) = marks-acked ack.ack_type t.subs _ _ ∙ is

-- what is known of an accepted entry comes last
known-accepted : (gone : ℕ) (of : List ℕ → ℕ) (known : List ℕ) (ledger : Ledger) (waiting : List (List ℕ)) (entry : List ℕ) → known ≡ known_of gone of (lengthened ledger waiting)
    → known ++ of entry ∷ [] ≡ known_of gone of (lengthened ledger (waiting ++ entry ∷ []))
known-accepted gone of known ledger waiting entry is =
    ap (λ (l : List ℕ). l ++ of entry ∷ []) is
    ∙ sym (known_lengthened gone of (lengthened ledger waiting) (entry ∷ []))
    ∙ ap (λ (l : Ledger). known_of gone of l) (lengthened_both ledger waiting (entry ∷ []))

marks-accepted : (t : Topic) (ledger : Ledger) (entry : List ℕ) → marks_in t.subs ≡ marks_of (lengthened ledger t.waiting)
    → marks_in (subscriptions.marked t.subs (slot_of_entry entry ∷ []) (messages_of_entry entry ∷ [])) ≡ marks_of (lengthened ledger (t.waiting ++ entry ∷ []))
marks-accepted t ledger entry is =
    let slots = known-accepted 0 slot_of_entry t.subs.slots ledger t.waiting entry (ap (λ (m : Marks). m.slots) is) in
    let messages = known-accepted 1 messages_of_entry t.subs.messages ledger t.waiting entry (ap (λ (m : Marks). m.messages) is) in
    (λ i. record { slots = slots i; messages = messages i })

-- the subscriptions alone change, and add no change
with-subs : (t : Topic) (subs : Subscriptions) → (AreSound t.subs → AreSound subs) → (IsCommitted t.committed t.subs → IsCommitted t.committed subs)
    → ((kept : Kept) → IsKept t.committed kept t.subs → IsKept t.committed kept subs)
    → subs.changes ≡ t.subs.changes → marks_in subs ≡ marks_in t.subs → Keeps t (record t { subs = subs })
with-subs t subs sound-to sent-to kept changes marks sound are = stays t _ refl
    (sound-subs t subs sound (sound-to sound.subs) (sent-to sound.sent) (adds_none (floor t) t.subs subs changes) marks) (receipts-subs t subs are)
    kept refl (ap (λ (cs : List Record). take (changes_of t.doubt) cs) changes) (λ ledger is. marks ∙ is)

pub detached-keeps : (t : Topic) (key : ConsumerKey) → Keeps t (record t { subs = subscriptions.detached t.subs key })
detached-keeps t key = with-subs t _ (λ s. each_sound.detach t.subs key s) (λ s. each_committed.detach t.committed t.subs key s) (λ kept is. are_kept.detach t.committed kept t.subs key is) refl refl

pub redelivered-keeps : (t : Topic) (key : ConsumerKey) (asked : Option (List ℕ)) → Keeps t (record t { subs = subscriptions.redelivered t.subs key asked })
redelivered-keeps t key asked =
    with-subs t _ (λ s. each_sound.redeliver t.subs key asked s) (λ s. each_committed.redeliver t.committed t.subs key asked s) (λ kept is. are_kept.redeliver t.committed kept t.subs key asked is)
    refl refl

-- where nothing is refused the effect keeps the topic, else it stays
either-keeps : (t : Topic) (o : Option ServerError) (refused : ServerError → Answer) (effect : Outcome) → (o ≡ None → Keeps t effect.topic) → Keeps t (refused_or o refused t effect).topic
either-keeps t None refused effect keeps = keeps refl
either-keeps t (Some e) refused effect keeps = still t

outcome-keeps : (t : Topic) (who : ℕ) (c : TopicCommand) (word : Word) → Keeps t (outcome_of t who c word).topic
outcome-keeps t who (command.Producer id request name) word = either-keeps t (first_standing (producer_refusals t name)) _ _ (λ none. with-producers t _ (all_opened t.producers _ refl))
outcome-keeps t who (command.Send send) word = either-keeps t (first_standing (send_refusals t who send)) _ _ (λ none sound are. let fits = takes_entry t who send none in stays t _ refl
    (sound-accepted t who send.producer_id send.sequence_id (bytes_of send.entry) sound fits.0 fits.1 fits.2 fits.3)
    (receipts-accepted t who send.producer_id send.sequence_id (bytes_of send.entry) sound are)
    (λ kept is. are_kept.mark t.committed kept t.subs (slot_of_entry (bytes_of send.entry) ∷ []) (messages_of_entry (bytes_of send.entry) ∷ []) is)
    (take-append-le (entries_of t.doubt) t.waiting (bytes_of send.entry ∷ []) (omega (arith, sound.promises))) refl
    (λ ledger is. marks-accepted t ledger (bytes_of send.entry) is))
outcome-keeps t who (command.Subscribe s) word = either-keeps t (subscribe_refusal t s) _ _ (λ none sound are.
    let start = subscriptions.start_of (start_of s.initial) (floor t) t.committed in
    stays t _ refl (sound-subscribed t who s word sound none) (receipts-subscribed t who s word sound none are) (λ kept is. kept-subscribed t who s word sound none kept is)
    refl (doubt-attached t s.subscription s.mode (seat_of who s) word start sound.changes) (λ ledger is. marks-attached t.subs s.subscription s.mode (seat_of who s) word start ∙ is))
outcome-keeps t who (command.Ack ack) word =
    either-keeps t (first_standing (ack_refusals t who ack)) _ _ (λ none sound are. let fits = accepts t who ack none in stays t _ (frame-acked t who ack ack.request_id)
    (sound-acked t who ack sound ack.request_id fits) (receipts-acked t who ack sound ack.request_id fits are) (λ kept is. kept-acked t who ack sound ack.request_id fits kept is)
    (entries-acked t who ack ack.request_id) (changes-acked t who ack sound.changes ack.request_id) (λ ledger is. marks-answered t who ack ledger is ack.request_id))
outcome-keeps t who (command.CloseProducer close) word = either-keeps t (first_standing (close_refusals t who close)) _ _ (λ none sound are.
    stays t _ refl (sound-closing t who close sound (close-works t who close none)) (receipts-closing t who close sound are) (λ kept is. is) refl refl (λ ledger is. is))
outcome-keeps t who (command.Unsubscribe u) word = either-keeps t (unsubscribe_refusal t who u) _ _ (λ none sound are.
    stays t _ refl (sound-unsubscribed t who u none sound) (receipts-unsubscribed t who u none sound are)
    (λ kept is. kept-unsubscribed t who u none sound kept is) refl (changes-unsubscribed t who u none sound) (λ ledger is. is))
outcome-keeps t who (command.CloseConsumer close) word = either-keeps t (first_standing (detach_refusals t who close)) _ _ (λ none. detached-keeps t (key_of who close.consumer_id))
outcome-keeps t who (command.Redeliver r) word =
    elim t.failed as (λ b. Keeps t (cond b t (record t { subs = subscriptions.redelivered t.subs (key_of who r.consumer_id) (asked_back t.per_ledger t.committed r.message_ids) }))) [
      | true ↦ still t
      | false ↦ redelivered-keeps t (key_of who r.consumer_id) (asked_back t.per_ledger t.committed r.message_ids)
    ]

to : (old a b : Topic) → a ≡ b → Keeps old b → Keeps old a
to old a b e h = let P : Topic → Type 0 = λ x. Keeps old x in subst P (sym e) h

pub step-keeps : (t : Topic) (who : ℕ) (c : TopicCommand) (a : Answer) (new : Topic) → TopicStep t who c a new → Keeps t new
step-keeps t who c NoMemory new h = to t new t h.0 (still t)
step-keeps t who c (Now r) new h = let m = met t who c (Now r) new h in to t new _ m.1.1 (outcome-keeps t who c m.0)
step-keeps t who c Later new h = let m = met t who c Later new h in to t new _ m.1.1 (outcome-keeps t who c m.0)
step-keeps t who c Nothing new h = let m = met t who c Nothing new h in to t new _ m.1.1 (outcome-keeps t who c m.0)

-- what keeps the parts of a topic keeps all that is said of it
pub stays-sound : (old new : Topic) → Stays old new → IsSoundTopic old → IsSoundTopic new
stays-sound old new stays sound = record {
  state = stays.sound;
  receipts = stays.receipts;
  counted = ap (λ (l : Ledger). end_of l) stays.ledger ∙ sound.counted ∙ sym stays.committed;
  kept = let P : Kept → Type 0 = λ k. IsKept new.committed k new.subs in subst P (sym stays.durable) (subst (λ c. IsKept c old.kept new.subs) (sym stays.committed) (stays.kept old.kept sound.kept));
  marks = stays.marks old.ledger sound.marks ∙ ap (λ (l : Ledger). marks_of (lengthened l new.waiting)) (sym stays.ledger);
  acknowledged = same_acknowledged old new stays.ledger stays.durable stays.doubt stays.changes sound.acknowledged;
}

pub command-sound : (old : Topic) (who : ℕ) (c : TopicCommand) (answer : Answer) (new : Topic) → TopicStep old who c answer new → IsSoundTopic old → IsSoundTopic new
command-sound old who c answer new step sound = stays-sound old new (step-keeps old who c answer new step sound.state sound.receipts) sound

-- what is learnt of a consumer's permits
pub known-keeps : (t : Topic) (key : ConsumerKey) (known : Seen) → (subscriptions.has_consumer t.subs key ≡ true → known.granted ≤ 2 ^ 62) → Keeps t (record t { subs = subscriptions.learnt t.subs key known })
known-keeps t key known bound =
    with-subs t _ (λ s. each_sound.learn t.subs key known bound s) (λ s. each_committed.learn t.committed t.subs key known s) (λ kept is. are_kept.learn t.committed kept t.subs key known is)
    refl refl

pub learn-sound : (t : Topic) (who id : ℕ) (known : Seen) → (has_consumer t who id ≡ true → known.granted ≤ 2 ^ 62) → IsSoundTopic t → IsSoundTopic (learnt t who id known)
learn-sound t who id known bound sound = stays-sound t (learnt t who id known) (known-keeps t (key_of who id) known bound sound.state sound.receipts) sound

pub look-keeps : (t : Topic) (who : ℕ) (new : Topic) → HasLearnt who t new → Keeps t new
look-keeps t who new h =
    to t new (record t { subs = new.subs }) h.same
    (with-subs t new.subs (λ s. each_sound.look t.subs new.subs who h.subs s) (λ s. each_committed.look t.committed t.subs new.subs who h.subs s)
    (λ kept is. are_kept.look t.committed kept t.subs new.subs who h.subs is) (ap (λ (s : Subscriptions). s.changes) h.subs.same) (ap (λ (s : Subscriptions). marks_in s) h.subs.same))

pub look-sound : (t : Topic) (who : ℕ) (new : Topic) → HasLearnt who t new → IsSoundTopic t → IsSoundTopic new
look-sound t who new h sound = stays-sound t new (look-keeps t who new h sound.state sound.receipts) sound

-- a FLOW
permitted-keeps : (t : Topic) (permits : ℕ) (key : ConsumerKey) → subscriptions.grants_too_many t.subs key permits ≡ false → Keeps t (record t { subs = subscriptions.granted t.subs key permits })
permitted-keeps t permits key few =
    with-subs t _ (λ s. each_sound.grant t.subs key permits few s) (λ s. each_committed.grant t.committed t.subs key permits s) (λ kept is. are_kept.grant t.committed kept t.subs key permits is)
    refl refl

granted-keeps : (t : Topic) (who id permits : ℕ) → grants_too_many t who id permits ≡ false → Keeps t (granted t who id permits)
granted-keeps t who id permits =
    elim t.failed as (λ b. (not b && subscriptions.grants_too_many t.subs (key_of who id) permits) ≡ false
    → Keeps t (cond b t (record t { subs = subscriptions.granted t.subs (key_of who id) permits }))) [
      | true ↦ λ _. still t
      | false ↦ λ few. permitted-keeps t permits (key_of who id) few
    ]

pub grant-keeps : (t : Topic) (who id permits : ℕ) (result : Result (Unit {0}) TooManyPermits) (new : Topic) → GrantStep t who id permits result new → Keeps t new
grant-keeps t who id permits (Ok done) new h = to t new _ h.1 (granted-keeps t who id permits h.0)
grant-keeps t who id permits (Err e) new h = to t new t h.1 (still t)

pub grant-sound : (old : Topic) (who id permits : ℕ) (result : Result (Unit {0}) TooManyPermits) (new : Topic) → GrantStep old who id permits result new → IsSoundTopic old → IsSoundTopic new
grant-sound old who id permits result new h sound = stays-sound old new (grant-keeps old who id permits result new h sound.state sound.receipts) sound

-- a dispatch
pub sent-keeps : (t : Topic) (key : ConsumerKey) (i : ℕ) → Admits t key i → Keeps t (sent t key i)
sent-keeps t key i a =
    with-subs t _ (λ s. each_sound.send t.subs key t.committed i a.admitted s) (λ s. each_committed.send t.committed t.subs key i a.admitted s)
    (λ kept is. are_kept.send t.committed kept t.subs key i is) refl refl

pub dispatch-keeps : (t : Topic) (who id : ℕ) (result : Result (Option Outgoing) ReadError) (new : Topic) → DispatchStep t who id result new → Keeps t new
dispatch-keeps t who id (Ok None) new h = to t new t h.0 (still t)
dispatch-keeps t who id (Ok (Some outgoing)) new h = to t new _ h.1.sent (sent-keeps t (key_of who id) h.0 h.1.admitted)
dispatch-keeps t who id (Err read.NoMemory) new h = to t new t h (still t)
dispatch-keeps t who id (Err read.Device) new h = to t new t h (still t)
dispatch-keeps t who id (Err (read.Damaged file offset)) new h = absurd h

pub dispatch-sound : (old : Topic) (who id : ℕ) (result : Result (Option Outgoing) ReadError) (new : Topic) → DispatchStep old who id result new → IsSoundTopic old → IsSoundTopic new
dispatch-sound old who id result new step sound = stays-sound old new (dispatch-keeps old who id result new step sound.state sound.receipts) sound

pub dispatch-admits : (old : Topic) (who id : ℕ) (outgoing : Outgoing) (new : Topic) → DispatchStep old who id (Ok (Some outgoing)) new → (i : ℕ) × IsAdmitted old who id outgoing i
dispatch-admits old who id outgoing new step = (
  step.0,
  record {
    there = (entry_within old.ledger step.0 outgoing.entry step.1.entry).0;
    named = step.1.reply;
    published = step.1.entry;
    admitted = step.1.admitted;
    is_open = picked old.subs (key_of who id) old.committed step.0 step.1.admitted.admitted;
  },
)

pub kept-finished : (t : Topic) (trim : ℕ) → IsKept t.committed t.kept t.subs → IsKept (finished t trim).committed (finished t trim).kept (finished t trim).subs
kept-finished t trim is = are_kept.longer t.committed (finished t trim).committed (finished t trim).kept (finished t trim).subs (omega arith)
    (are_kept.forget t.committed (changed t) (subscriptions.settled t.subs (changes_of t.doubt)) (max t.ledger.base trim) (are_kept.settle t.committed t.kept t.subs (changes_of t.doubt) is))

handed_on-few : (t : Topic) → IsSound t → entries_of t.doubt ≤ length t.waiting
handed_on-few t sound = omega (arith, sound.promises)

-- the ends of a flush
pub finished-sound : (old : Topic) (trim : ℕ) → trim ≤ floor old → IsSoundTopic old → IsSoundTopic (finished old trim)
finished-sound old trim low sound =
    let few = handed_on-few old sound.state in
    record {
      state = sound-finished old sound.state trim low;
      receipts = receipts-finished old sound.state trim sound.receipts;
      counted = trimmed_end old trim few sound.state.trims low;
      kept = kept-finished old trim sound.kept;
      marks = finished_marks old trim few sound.state.trims low sound.marks;
      acknowledged = finished_acknowledged old trim few sound.state.trims low sound.acknowledged;
    }

taken_back-sound : (old : Topic) → IsSoundTopic old → IsSoundTopic (taken_back old)
taken_back-sound old sound = record {
  state = sound-taken_back old sound.state;
  receipts = receipts-taken_back old sound.state sound.receipts;
  counted = sound.counted;
  kept = sound.kept;
  marks = sound.marks;
  acknowledged = taken_back_acknowledged old sound.acknowledged;
}

failed-sound : (old : Topic) → IsSoundTopic old → IsSoundTopic (failed old)
failed-sound old sound = record {
  state = sound-failed old sound.state;
  receipts = receipts-failed old sound.state sound.receipts;
  counted = sound.counted;
  kept = sound.kept;
  marks = sound.marks;
  acknowledged = failed_acknowledged old sound.acknowledged;
}

-- its beginning
pub handed_on-sound : (old : Topic) (trim : ℕ) → IsTrimPoint old trim → IsSoundTopic old → IsSoundTopic (handed_on old trim)
handed_on-sound old trim point sound = record {
  state = sound-handed_on old sound.state trim point;
  receipts = receipts-handed_on old sound.state trim sound.receipts;
  counted = sound.counted;
  kept = sound.kept;
  marks = sound.marks;
  acknowledged = handed_on_acknowledged old sound.kept sound.state.trims sound.acknowledged trim point;
}

along : (a b : Topic) → a ≡ b → IsSoundTopic b → IsSoundTopic a
along a b e h = let P : Topic → Type 0 = λ x. IsSoundTopic x in subst P (sym e) h

pub take-sound : (old : Topic) (result : Result (Option Batch) WriteError) (new : Topic) → TakeStep old result new → IsSoundTopic old → IsSoundTopic new
take-sound old (Ok None) new h sound = along new old h.2 sound
take-sound old (Ok (Some batch)) new h sound = along new (handed_on old batch.trim) h.2 (handed_on-sound old batch.trim h.5 sound)
take-sound old (Err write.Device) new h sound = along new old h.1 sound
take-sound old (Err write.NoMemory) new h sound = along new old h.2 sound

pub finish-sound : (old : Topic) (written : Result ℕ WriteError) (result : Result ℕ WriteError) (new : Topic) → FinishStep old written result new → IsSoundTopic old → IsSoundTopic new
finish-sound old (Ok base) result new h sound = along new (finished old (min base (floor old))) h.1 (finished-sound old (min base (floor old)) (omega arith) sound)
finish-sound old (Err write.NoMemory) result new h sound = along new (taken_back old) h.1 (taken_back-sound old sound)
finish-sound old (Err write.Device) result new h sound = along new (failed old) h.1 (failed-sound old sound)

ends-sound : (old : Topic) (result : Result ℕ WriteError) (new : Topic) → FlushEnds old result new → IsSoundTopic old → IsSoundTopic new
ends-sound old (Ok n) new h sound =
    along new (finished (handed_on old h.1.limit) h.1.trim) (h.1.is ∙ sym (finished-handed_on old h.1.limit h.1.trim)) (finished-sound (handed_on old h.1.limit) h.1.trim h.1.within (handed_on-sound old h.1.limit h.1.allowed sound))
ends-sound old (Err write.NoMemory) new h sound = along new old h sound
ends-sound old (Err write.Device) new h sound = along new (failed (handed_on old h.limit)) h.is (failed-sound (handed_on old h.limit) (handed_on-sound old h.limit h.allowed sound))

in-sound : (failed under_way : Bool) (old : Topic) (result : Result ℕ WriteError) (new : Topic) → FlushIn failed under_way old result new → IsSoundTopic old → IsSoundTopic new
in-sound true under_way old result new h sound = along new old h.1 sound
in-sound false true old result new h sound = along new old h.1 sound
in-sound false false old result new h sound = ends-sound old result new h sound

pub flush-sound : (old : Topic) (result : Result ℕ WriteError) (new : Topic) → FlushStep old result new → IsSoundTopic old → IsSoundTopic new
flush-sound old result new h sound = in-sound old.failed (has_no_flush old) old result new h sound

-- ---- crashes

length-take-most : {X : Type 0} (n : ℕ) (xs : List X) → length (take n xs) ≤ length xs
length-take-most n xs = omega (arith, length-take n xs)

-- no crash leaves more than fits, nor fewer entries, and what it leaves is durable, and acknowledged below its first entry
pub record Leaves (old : Topic) (ledger : Ledger) (kept : Kept) : Type 0 where
  pub more : old.committed ≤ end_of ledger
  pub few : end_of ledger ≤ 2 ^ 62
  pub durable : AreDurable kept
  pub below : HaveBelow ledger.base kept

left_durable : (old : Topic) (ledger : Ledger) (kept : Kept) → IsSoundTopic old → IsLeft old ledger kept → AreDurable kept
left_durable old ledger kept sound is =
    let old_kept : kept ≡ old.kept → AreDurable kept = λ e. subst AreDurable (sym e) sound.kept.durable in
    let new_kept : kept ≡ changed old → AreDurable kept = λ e. subst AreDurable (sym e) (are_kept.settle old.committed old.kept old.subs (changes_of old.doubt) sound.kept).durable in
    ⊎_elim (λ e. old_kept e.1) (λ es. ⊎_elim (λ e. old_kept e.1) (λ e. new_kept e.1) es) is

pub left-fits : (old : Topic) (ledger : Ledger) (kept : Kept) → IsSoundTopic old → IsLeft old ledger kept → Leaves old ledger kept
left-fits old ledger kept sound is =
    let part : length (take (entries_of old.doubt) old.waiting) ≤ length old.waiting = length-take-most (entries_of old.doubt) old.waiting in
    let long : end_of (longer old) ≡ end_of old.ledger + length (take (entries_of old.doubt) old.waiting) = end_lengthened old.ledger (take (entries_of old.doubt) old.waiting) in
    let end = left_end old ledger kept sound.state.trims is in
    record {
      more = ⊎_elim (λ e. omega (arith, e)) (λ e. omega (arith, e, long, sound.counted)) end;
      few = ⊎_elim (λ e. omega (arith, e, sound.state.entries)) (λ e. omega (arith, e, long, part, sound.counted, sound.state.entries)) end;
      durable = left_durable old ledger kept sound is;
      below = left_below old ledger kept sound.acknowledged is;
    }

pub crash-sound : (old new : Topic) → TopicCrash old new → IsSoundTopic old → IsSoundTopic new
crash-sound old new crash sound =
    let fits = left-fits old new.ledger new.kept sound crash.left in
    along new (opened old.per_ledger new.ledger (marks_of new.ledger) new.kept) crash.again (record {
      state = sound-opened old.per_ledger new.ledger (marks_of new.ledger) new.kept sound.state.numbered fits.few (are_marks new.ledger) fits.durable;
      receipts = receipts-opened old.per_ledger new.ledger (marks_of new.ledger) new.kept;
      counted = refl;
      kept = are_kept.mark (end_of new.ledger) new.kept (subscriptions.opened new.kept) (slots_of new.ledger) (messages_of new.ledger) (are_kept.opened (end_of new.ledger) new.kept fits.durable);
      marks = marks_none new.ledger;
      acknowledged = opened_acknowledged old.per_ledger new.ledger (marks_of new.ledger) new.kept fits.below;
    })

reopen-ends-sound : (old : Topic) (result : Result (Unit {0}) Refusal) (new : Topic) → old.failed ≡ true → ReopenEnds old result new → IsSoundTopic old → IsSoundTopic new
reopen-ends-sound old (Ok done) new was h sound =
    let fits = left-fits old new.ledger new.kept sound h.0 in
    along new (reopened old new.ledger (marks_of new.ledger) new.kept) h.1 (record {
      state = sound-reopened old new.ledger (marks_of new.ledger) new.kept sound.state was fits.more fits.few (are_marks new.ledger) fits.durable;
      receipts = receipts-reopened old new.ledger (marks_of new.ledger) new.kept sound.state sound.receipts was fits.more;
      counted = refl;
      kept = are_kept.mark (end_of new.ledger) new.kept (subscriptions.opened new.kept) (slots_of new.ledger) (messages_of new.ledger) (are_kept.opened (end_of new.ledger) new.kept fits.durable);
      marks = marks_none new.ledger;
      acknowledged = reopened_acknowledged old new.ledger (marks_of new.ledger) new.kept fits.below;
    })
reopen-ends-sound old (Err refusal.NoMemory) new was h sound = along new old h sound
reopen-ends-sound old (Err refusal.Device) new was h sound = along new old h sound
reopen-ends-sound old (Err (refusal.Damaged file offset)) new was h sound = absurd h
reopen-ends-sound old (Err refusal.NotInitialised) new was h sound = absurd h
reopen-ends-sound old (Err refusal.Version) new was h sound = absurd h
reopen-ends-sound old (Err refusal.TooLarge) new was h sound = absurd h

pub reopen-sound : (old : Topic) (result : Result (Unit {0}) Refusal) (new : Topic) → ReopenStep old result new → IsSoundTopic old → IsSoundTopic new
reopen-sound old result new h sound = elim old.failed as (λ b. old.failed ≡ b → ReopenIn b old result new → IsSoundTopic new) [
  | true ↦ λ was h. reopen-ends-sound old result new was h sound
  | false ↦ λ was h. along new old h.1 sound
] refl h

pub collect-keeps : (t : Topic) (who : ℕ) (reply : Option Reply) (new : Topic) → Collects t who reply new → Keeps t new
collect-keeps t who None new h = to t new t h.1 (still t)
collect-keeps t who (Some reply) new h = to t new _ h.1 (λ s r. stays t _ refl (sound-collected t who s reply _ h.0) (receipts-collected t who s reply r) (λ kept is. is) refl refl (λ ledger is. is))

pub leave-keeps : (t : Topic) (who : ℕ) → Keeps t (left t who)
leave-keeps t who s r = stays t _ refl (sound-left t who s) (receipts-left t who s r) (λ kept is. are_kept.leave t.committed kept t.subs who is) refl refl (λ ledger is. is)

pub collected-sound : (old : Topic) (who : ℕ) (reply : Option Reply) (new : Topic) → Collects old who reply new → IsSoundTopic old → IsSoundTopic new
collected-sound old who reply new h sound = stays-sound old new (collect-keeps old who reply new h sound.state sound.receipts) sound

pub leave-sound : (old : Topic) (who : ℕ) → IsSoundTopic old → IsSoundTopic (left old who)
leave-sound old who sound = stays-sound old (left old who) (leave-keeps old who sound.state sound.receipts) sound

ok_same : (n m : ℕ) → (let a : Result ℕ WriteError = Ok n in let b : Result ℕ WriteError = Ok m in a ≡ b) → n ≡ m
ok_same n m e = cc

-- the replies of a session, when all are made due
due_to-all : (who : ℕ) (qs : List SessionReplies) → due_to who (map (λ q. make_all_due q) qs) ≡ due_to who qs ++ pending_to who qs
due_to-all who [] = refl
due_to-all who (q ∷ qs) =
    elim (is_for who q) as (λ b. cond b (q.due ++ q.pending) (due_to who (map (λ x. make_all_due x) qs)) ≡ cond b q.due (due_to who qs) ++ cond b q.pending (pending_to who qs)) [
      | true ↦ refl
      | false ↦ due_to-all who qs
    ]

pending_to-all : (who : ℕ) (qs : List SessionReplies) → pending_to who (map (λ q. make_all_due q) qs) ≡ []
pending_to-all who [] = refl
pending_to-all who (q ∷ qs) = elim (is_for who q) as (λ b. cond b [] (pending_to who (map (λ x. make_all_due x) qs)) ≡ []) [ true ↦ refl | false ↦ pending_to-all who qs ]

pending_to-idle : (who : ℕ) (qs : List SessionReplies) → list_all (λ q. nat_eq (length q.pending) 0) qs ≡ true → pending_to who qs ≡ []
pending_to-idle who [] idle = refl
pending_to-idle who (q ∷ qs) idle = elim (is_for who q) as (λ b. cond b q.pending (pending_to who qs) ≡ []) [
  | true ↦ sym (empty q.pending (eqb-true (length q.pending) 0 (and_first (nat_eq (length q.pending) 0) _ idle)))
  | false ↦ pending_to-idle who qs (and_second (nat_eq (length q.pending) 0) _ idle)
]

-- nothing waits, and a flush commits all of it
idle-commits : (old : Topic) → is_idle old ≡ true → IsFlushed old 0 old
idle-commits old idle =
    let waiting = empty old.waiting (idle-waiting old idle) in
    let changes = empty old.subs.changes (idle-changes old idle) in
    let none : (who : ℕ) → pending_to who old.queues ≡ [] = λ who. pending_to-idle who old.queues (idle-queues-of old idle) in
    record {
      limit = old.ledger.base;
      allowed = inl refl;
      trim = old.ledger.base;
      within = omega arith;
      ledger = sym (trimmed_at_base (lengthened old.ledger old.waiting) ∙ idle-lengthened old.ledger old.waiting waiting);
      count = sym (idle-waiting old idle);
      kept = ap (λ (cs : List Record). after_all cs old.kept) changes;
      changes = sym changes;
      producers = sym (open_stay old.producers (idle-producers old idle));
      due = λ who. sym (idle-append (due_to who old.queues) (pending_to who old.queues) (sym (none who)));
      pending = none;
    }

commits : (failed nothing : Bool) (old : Topic) (n : ℕ) (new : Topic) → FlushIn failed nothing old (Ok n) new → (nothing ≡ true → is_idle old ≡ true) → IsFlushed old n new
commits true nothing old n new h idle = cc
commits false true old n new h idle = subst (λ (x : Topic). IsFlushed old n x) (sym h.1) (subst (λ m. IsFlushed old m old) (sym (ok_same n 0 h.0)) (idle-commits old (idle refl)))
commits false false old n new h idle = record {
  limit = h.1.limit;
  allowed = h.1.allowed;
  trim = h.1.trim;
  within = h.1.within;
  ledger = ap (λ (t : Topic). t.ledger) h.1.is;
  count = h.0;
  kept = ap (λ (t : Topic). t.kept) h.1.is;
  changes = ap (λ (t : Topic). t.subs.changes) h.1.is;
  producers = ap (λ (t : Topic). t.producers) h.1.is;
  due = λ who. ap (λ (t : Topic). due_to who t.queues) h.1.is ∙ due_to-all who old.queues;
  pending = λ who. ap (λ (t : Topic). pending_to who t.queues) h.1.is ∙ pending_to-all who old.queues;
}

pub flush-commits : (old : Topic) (n : ℕ) (new : Topic) → FlushStep old (Ok n) new → old.doubt ≡ None → IsFlushed old n new
flush-commits old n new h none = commits old.failed (has_no_flush old) old n new h (λ nothing. idle-where old none nothing)
