-- What holds of every step of a topic.
use Rattle.std.specs.Prelude.{◌≡◌, ℕ, ◌+◌, ◌<◌, ◌≤◌, ◌^◌, ◌↔◌, true, false, Option, None, Some, Result, Ok, List, [], ◌∷◌, ◌++◌, length, filter, slice_index, IsTrue, IsSomeAnd}
use Rattle.std.specs.List.{find}
use Rattle.ids.specs.Ids.{message_id_at, Names}
use Rattle.ids.specs.declared.message_id.MessageIdData.{MessageIdData}
use Rattle.holds.specs.Backlog.{in_ranges, attached}
use Rattle.subscriptions.specs.State.{Subscription}
use Rattle.subscriptions.specs.declared.consumer.Mode.TheVariants.{KeyShared}
use Rattle.subscriptions.specs.Steps.{is_on, sent_before}
use Rattle.subscriptions.specs.Laws.{IsOpenFor}
use Rattle.records.specs.Records.{after_all}
use Rattle.permits.specs.declared.plain.TooManyPermits.{TooManyPermits}
use Rattle.commands.specs.declared.reply.Reply.{Reply}
use Rattle.commands.specs.declared.reply.Reply.TheVariants.{Message}
use Rattle.gated_log.specs.declared.refusal.Refusal.{Refusal}
use Rattle.managed_ledger.specs.Entries.{Ledger, end_of, entry_at, lengthened, trimmed}
use Rattle.topic_stores.specs.declared.batch.Batch.{Batch}
use Rattle.topic_stores.specs.declared.error.WriteError.{WriteError}
use Rattle.gated_log.specs.declared.read_error.ReadError.{ReadError}
use Rattle.topic_core.specs.declared.command.TopicCommand.{TopicCommand}
use Rattle.topic_core.specs.declared.command.TopicCommand.TheVariants as asked
use Rattle.topic_core.specs.declared.command.Answer.{Answer}
use Rattle.topic_core.specs.declared.command.Answer.TheVariants.{Now, Later, Nothing, NoMemory}
use Rattle.reply_queues.specs.Replies.{is_receipt, due_to, pending_to}
use Rattle.topic_core.specs.declared.dispatch.Outgoing.{Outgoing}
use Rattle.topic_core.specs.Slots.{slot_of_entry}
use Rattle.topic_core.specs.Messages.{messages_of_entry}
use Rattle.topic_core.specs.State.{Topic, receipts_due}
use Rattle.records.specs.Maps.{Kept}
use Rattle.topic_core.specs.Soundness.{IsSound, AreReceipts, IsSoundTopic}
use Rattle.topic_core.specs.Steps.{TopicStep, Collects, GrantStep, Fits, bytes_of, has_consumer, key_of, learnt, HasLearnt, is_open, is_committed, position_at, left}
use Rattle.topic_core.specs.Dispatch.{DispatchStep, Admits, IsSent}
use Rattle.topic_core.specs.Flush.{FlushStep, TakeStep, FinishStep, IsTrimPoint, handed_on}
use Rattle.topic_core.specs.Crashes.{IsLeft, TopicCrash, ReopenStep}
use Rattle.permits.specs.Ends.{Seen}
use Rattle.topic_core.specs.Standing.{GoesOn}

-- an answer fits its command
abbrev pub AnswersFit : Type 0
AnswersFit = (old : Topic) (who : ℕ) (c : TopicCommand) (answer : Answer) (new : Topic) → TopicStep old who c answer new → Fits c answer

-- an answer at once is no receipt
abbrev pub AnswersNoReceipt : Type 0
AnswersNoReceipt = (old : Topic) (who : ℕ) (c : TopicCommand) (reply : Reply) (new : Topic) → TopicStep old who c (Now reply) new → is_receipt reply ≡ false

-- the entries that a command with this answer adds to what waits
abbrev pub entries_added : TopicCommand → Answer → List (List ℕ)
entries_added (asked.Producer id request name) answer = []
entries_added (asked.Send send) (Now reply) = []
entries_added (asked.Send send) Later = bytes_of send.entry ∷ []
entries_added (asked.Send send) Nothing = []
entries_added (asked.Send send) NoMemory = []
entries_added (asked.Subscribe subscribe) answer = []
entries_added (asked.Ack ack) answer = []
entries_added (asked.CloseProducer close) answer = []
entries_added (asked.Unsubscribe unsubscribe) answer = []
entries_added (asked.CloseConsumer close) answer = []
entries_added (asked.Redeliver redeliver) answer = []

-- what waits are the entries of accepted SENDs, and each is counted once
pub record IsPublished (old : Topic) (c : TopicCommand) (answer : Answer) (new : Topic) : Type 0 where
  pub waiting : new.waiting ≡ old.waiting ++ entries_added c answer
  pub accepted : new.accepted ≡ old.accepted + length (entries_added c answer)

-- a command hands out no receipt
abbrev pub CommandsHandOutNothing : Type 0
CommandsHandOutNothing = (old : Topic) (who : ℕ) (c : TopicCommand) (answer : Answer) (new : Topic) → TopicStep old who c answer new → new.handed ≡ old.handed

abbrev pub EntriesArePublished : Type 0
EntriesArePublished = (old : Topic) (who : ℕ) (c : TopicCommand) (answer : Answer) (new : Topic) → TopicStep old who c answer new → IsPublished old c answer new

-- each call keeps a topic sound, and so does a crash
pub record StaysSound : Type 0 where
  pub command : (old : Topic) (who : ℕ) (c : TopicCommand) (answer : Answer) (new : Topic) → TopicStep old who c answer new → IsSoundTopic old → IsSoundTopic new
  pub flush : (old : Topic) (result : Result ℕ WriteError) (new : Topic) → FlushStep old result new → IsSoundTopic old → IsSoundTopic new
  pub take : (old : Topic) (result : Result (Option Batch) WriteError) (new : Topic) → TakeStep old result new → IsSoundTopic old → IsSoundTopic new
  pub finish : (old : Topic) (written : Result ℕ WriteError) (result : Result ℕ WriteError) (new : Topic) → FinishStep old written result new → IsSoundTopic old → IsSoundTopic new
  pub reopen : (old : Topic) (result : Result (Unit {0}) Refusal) (new : Topic) → ReopenStep old result new → IsSoundTopic old → IsSoundTopic new
  pub crash : (old new : Topic) → TopicCrash old new → IsSoundTopic old → IsSoundTopic new
  pub grant : (old : Topic) (who id permits : ℕ) (result : Result (Unit {0}) TooManyPermits) (new : Topic) → GrantStep old who id permits result new → IsSoundTopic old → IsSoundTopic new
  pub learn : (old : Topic) (who id : ℕ) (seen : Seen) → (has_consumer old who id ≡ true → seen.granted ≤ 2 ^ 62) → IsSoundTopic old → IsSoundTopic (learnt old who id seen)
  pub look : (old : Topic) (who : ℕ) (new : Topic) → HasLearnt who old new → IsSoundTopic old → IsSoundTopic new
  pub dispatch : (old : Topic) (who id : ℕ) (result : Result (Option Outgoing) ReadError) (new : Topic) → DispatchStep old who id result new → IsSoundTopic old → IsSoundTopic new
  pub collect : (old : Topic) (who : ℕ) (reply : Option Reply) (new : Topic) → Collects old who reply new → IsSoundTopic old → IsSoundTopic new
  pub leave : (old : Topic) (who : ℕ) → IsSoundTopic old → IsSoundTopic (left old who)

-- a message that is sent is the published entry of a position from the ledger's first on that its consumer was admitted to; nobody acknowledged it on the subscription, and nobody holds it
pub record IsAdmitted (old : Topic) (who id : ℕ) (outgoing : Outgoing) (i : ℕ) : Type 0 where
  pub there : old.ledger.base ≤ i
  pub named : outgoing.reply ≡ Message id (message_id_at old.per_ledger i) (sent_before old.subs (key_of who id) i)
  pub published : entry_at old.ledger i ≡ Some outgoing.entry
  pub admitted : Admits old (key_of who id) i
  pub is_open : IsOpenFor (find (is_on (key_of who id)) old.subs.subs) old.committed i

abbrev pub MessagesAreAdmitted : Type 0
MessagesAreAdmitted = (old : Topic) (who id : ℕ) (outgoing : Outgoing) (new : Topic) → DispatchStep old who id (Ok (Some outgoing)) new → (i : ℕ) × IsAdmitted old who id outgoing i

-- a message on a Key_Shared subscription is an entry whose slot lies in the ranges of its consumer's seat
abbrev pub MessagesGoToTheirRanges : Type 0
MessagesGoToTheirRanges = (old : Topic) (who id : ℕ) (outgoing : Outgoing) (new : Topic) → IsSoundTopic old → DispatchStep old who id (Ok (Some outgoing)) new
    → (s : Subscription) → find (is_on (key_of who id)) old.subs.subs ≡ Some s → s.mode ≡ KeyShared
    → IsSomeAnd (attached (key_of who id) s.seats) (λ seat. IsTrue (in_ranges seat.ranges (slot_of_entry outgoing.entry)))

-- a message counts for its consumer as many messages as the entry has that goes out
abbrev pub MessagesAreCounted : Type 0
MessagesAreCounted = (old : Topic) (who id : ℕ) (outgoing : Outgoing) (new : Topic) → IsSoundTopic old → DispatchStep old who id (Ok (Some outgoing)) new
    → (i : ℕ) × IsSent old (key_of who id) i outgoing new × (slice_index old.subs.messages i ≡ messages_of_entry outgoing.entry)

-- an id of an ACK is that of a committed entry exactly where it names a committed position, and that is the one acknowledged
abbrev pub IdsArePositions : Type 0
IdsArePositions = (n committed i : ℕ) (id : MessageIdData) → 0 < n → committed ≤ 2 ^ 63
    → ((is_committed n committed id ≡ true) × (i ≡ position_at n id)) ↔ (Names n id i × (i < committed))

-- receipts never outnumber the committed entries
abbrev pub ReceiptsAreCovered : Type 0
ReceiptsAreCovered = (t : Topic) → IsSoundTopic t → t.handed + receipts_due t.queues ≤ end_of t.ledger

-- A good flush makes just a session's pending replies due, behind those that were; the ledger grows by what waited and is trimmed
-- no further than it may be, the changes are durable, and just the closing producers are gone.
pub record IsFlushed (old : Topic) (n : ℕ) (new : Topic) : Type 0 where
  pub limit : ℕ
  pub allowed : IsTrimPoint old limit
  pub trim : ℕ
  pub within : trim ≤ limit
  pub ledger : new.ledger ≡ trimmed trim (lengthened old.ledger old.waiting)
  pub count : n ≡ length old.waiting
  pub kept : new.kept ≡ after_all old.subs.changes old.kept
  pub changes : new.subs.changes ≡ []
  pub producers : new.producers ≡ filter (λ p. is_open p.state) old.producers
  pub due : (who : ℕ) → due_to who new.queues ≡ due_to who old.queues ++ pending_to who old.queues
  pub pending : (who : ℕ) → pending_to who new.queues ≡ []

abbrev pub FlushesCommit : Type 0
FlushesCommit = (old : Topic) (count : ℕ) (new : Topic) → FlushStep old (Ok count) new → old.doubt ≡ None → IsFlushed old count new

-- what a crash leaves of a topic after a flush is what it may leave while the flush is under way
abbrev pub FlushesKeep : Type 0
FlushesKeep = (old : Topic) (result : Result ℕ WriteError) (new : Topic) → IsSoundTopic old → FlushStep old result new → old.failed ≡ false → old.doubt ≡ None
    → (limit : ℕ) × IsTrimPoint old limit × ((ledger : Ledger) (kept : Kept) → IsLeft new ledger kept → IsLeft (handed_on old limit) ledger kept)

-- commands, permits, messages, collected replies and leaving sessions leave a topic standing on its device
pub record TopicsGoOn : Type 0 where
  pub command : (old : Topic) (who : ℕ) (c : TopicCommand) (answer : Answer) (new : Topic) → TopicStep old who c answer new → IsSound old → AreReceipts old → GoesOn old new
  pub grant : (old : Topic) (who id permits : ℕ) (result : Result (Unit {0}) TooManyPermits) (new : Topic) → GrantStep old who id permits result new → IsSound old → AreReceipts old → GoesOn old new
  pub learn : (old : Topic) (who id : ℕ) (seen : Seen) → IsSound old → AreReceipts old → GoesOn old (learnt old who id seen)
  pub look : (old : Topic) (who : ℕ) (new : Topic) → HasLearnt who old new → IsSound old → AreReceipts old → GoesOn old new
  pub dispatch : (old : Topic) (who id : ℕ) (result : Result (Option Outgoing) ReadError) (new : Topic) → DispatchStep old who id result new → IsSound old → AreReceipts old → GoesOn old new
  pub collect : (old : Topic) (who : ℕ) (reply : Option Reply) (new : Topic) → Collects old who reply new → IsSound old → AreReceipts old → GoesOn old new
  pub leave : (old : Topic) (who : ℕ) → IsSound old → AreReceipts old → GoesOn old (left old who)
