-- What a dispatch gives a consumer.
use Rattle.std.specs.Prelude.{◌≡◌, ◌⊎◌, ◌≤◌, ℕ, false, Option, Some, None, Result, Ok, Err, IfOk, IfErr, length}
use Rattle.commands.specs.declared.reply.Reply.TheVariants.{Message}
use Rattle.ids.specs.declared.message_id.MessageId.{MessageId}
use Rattle.ids.specs.Ids.{message_id_at}
use Rattle.holds.specs.declared.consumer.ConsumerKey.{ConsumerKey}
use Rattle.subscriptions.specs.Steps as subscriptions
use Rattle.topic_core.specs.declared.dispatch.Outgoing.{Outgoing}
use Rattle.topic_core.specs.declared.dispatch.AtHand.{AtHand}
use Rattle.topic_core.specs.declared.dispatch.AtHand.TheVariants as at_hand
use Rattle.topic_core.specs.declared.read_at.ReadAt.{ReadAt}
use Rattle.managed_ledger.specs.Entries.{Ledger, entry_at}
use Rattle.gated_log.specs.declared.read_error.ReadError.{ReadError}
use Rattle.gated_log.specs.declared.read_error.ReadError.TheVariants.{Device, Damaged, NoMemory}
use Rattle.topic_core.specs.State.{Topic}
use Rattle.topic_core.specs.Steps.{key_of}

-- a consumer may get position i: the topic isn't failed, and its subscriptions admit it
pub record Admits (t : Topic) (key : ConsumerKey) (i : ℕ) : Type 0 where
  pub works : t.failed ≡ false
  pub admitted : subscriptions.Admits t.subs key t.committed i

-- the consumer holds position i from now on
abbrev pub sent : Topic → ConsumerKey → ℕ → Topic
sent t key i = record t { subs = subscriptions.sent t.subs key i }

-- the message is the entry at an admitted position i, with its id and how often it was sent before
pub record IsSent (old : Topic) (key : ConsumerKey) (i : ℕ) (outgoing : Outgoing) (new : Topic) : Type 0 where
  pub admitted : Admits old key i
  pub reply : outgoing.reply ≡ Message key.id (message_id_at old.per_ledger i) (subscriptions.sent_before old.subs key i)
  pub entry : entry_at old.ledger i ≡ Some outgoing.entry
  pub sent : new ≡ sent old key i

-- it is a MESSAGE for this consumer, and its entry is no longer than any that is accepted
pub record IsMessageTo (consumer_id : ℕ) (outgoing : Outgoing) : Type 0 where
  pub id : MessageId
  pub redelivery_count : ℕ
  pub reply : outgoing.reply ≡ Message consumer_id id redelivery_count
  pub short : length outgoing.entry ≤ 1048576

-- a message of an admitted position, or none exactly where none is admitted; want of memory and a failure of the device change nothing
abbrev pub Dispatches : Topic → ConsumerKey → Result (Option Outgoing) ReadError → Topic → Type 0
Dispatches old key (Ok None) new = (new ≡ old) × ((i : ℕ) → Admits old key i → ⊥)
Dispatches old key (Ok (Some outgoing)) new = (i : ℕ) × IsSent old key i outgoing new
Dispatches old key (Err NoMemory) new = new ≡ old
Dispatches old key (Err Device) new = new ≡ old
Dispatches old key (Err (Damaged file offset)) new = ⊥

-- what a session's consumer is given
abbrev pub DispatchStep : Topic → ℕ → ℕ → Result (Option Outgoing) ReadError → Topic → Type 0
DispatchStep old who id result new = Dispatches old (key_of who id) result new

-- what was read is the entry at its position, or it couldn't be read
pub record IsReadOf (ledger : Ledger) (read : ReadAt) : Type 0 where
  pub entry : IfOk read.entry (λ entry. entry_at ledger read.position ≡ Some entry)
  pub refused : IfErr read.entry (λ e. (e ≡ NoMemory) ⊎ (e ≡ Device))

-- what was read was of this position, and was refused so
abbrev pub IsRefusedAt : ℕ → ReadError → Option ReadAt → Type 0
IsRefusedAt position e None = ⊥
IsRefusedAt position e (Some read) = (read.position ≡ position) × (read.entry ≡ Err e)

-- a consumer is refused for want of memory, or since what was read was its next message and was refused so
abbrev pub IsRefusedFor : Topic → ConsumerKey → ReadError → Option ReadAt → Type 0
IsRefusedFor t key e read = (e ≡ NoMemory) ⊎ ((position : ℕ) × Admits t key position × IsRefusedAt position e read)

-- the same by what was read before, or stands in memory: a message of an admitted position, none exactly where none is admitted, or the
-- admitted position whose entry has to be read
abbrev pub AtHandStep : Topic → ConsumerKey → Result AtHand ReadError → Topic → Type 0
AtHandStep old key (Ok at_hand.Nothing) new = (new ≡ old) × ((i : ℕ) → Admits old key i → ⊥)
AtHandStep old key (Ok (at_hand.Unread position)) new = (new ≡ old) × Admits old key position
AtHandStep old key (Ok (at_hand.Message outgoing)) new = (i : ℕ) × IsSent old key i outgoing new
AtHandStep old key (Err NoMemory) new = new ≡ old
AtHandStep old key (Err Device) new = new ≡ old
AtHandStep old key (Err (Damaged file offset)) new = ⊥

-- a message, if there is one, is a MESSAGE for this consumer
abbrev pub IsAtHandFor : ℕ → AtHand → Type 0
IsAtHandFor consumer_id at_hand.Nothing = Unit {0}
IsAtHandFor consumer_id (at_hand.Unread position) = Unit {0}
IsAtHandFor consumer_id (at_hand.Message outgoing) = IsMessageTo consumer_id outgoing
