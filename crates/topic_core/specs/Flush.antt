-- A flush of a topic, and its parts.
use Rattle.std.specs.Prelude.{◌≡◌, ◌⊎◌, ℕ, ◌+◌, ◌%◌, ◌<◌, ◌≤◌, min, max, Bool, true, false, ◌&&◌, ◌||◌, Option, Some, None, is_some, Result, Ok, Err, [], length, drop, filter, not, map, nat_eq}
use Rattle.std.specs.List.{AllByRecursion, list_all}
use Rattle.managed_ledger.specs.Entries.{lengthened, trimmed}
use Rattle.topic_stores.specs.declared.batch.Batch.{Batch}
use Rattle.topic_stores.specs.declared.error.WriteError.{WriteError}
use Rattle.topic_stores.specs.declared.error.WriteError.TheVariants.{Device, NoMemory}
use Rattle.records.specs.Records.{after_all}
use Rattle.reply_queues.specs.Replies.{hand_on, make_due, take_back, make_all_due, refuse_pending}
use Rattle.subscriptions.specs.Steps.{settled, forgotten}
use Rattle.subscriptions.specs.Trimming.{IsPast}
use Rattle.topic_core.specs.declared.producer.Producer.{Producer}
use Rattle.topic_core.specs.declared.producer.ProducerState.{ProducerState}
use Rattle.topic_core.specs.declared.producer.ProducerState.TheVariants.{Open, Closing, HandedOn}
use Rattle.topic_core.specs.Steps.{is_open, is_handed_on}
use Rattle.topic_core.specs.State.{Topic, floor, entries_of, changes_of, entries_in_doubt, changes_in_doubt}

-- nothing waits for a flush: no entry, no change, no reply and no closing producer
abbrev pub is_idle : Topic → Bool
is_idle t =
    nat_eq (length t.waiting) 0 && nat_eq (length t.subs.changes) 0 && list_all (λ q. nat_eq (length q.pending) 0) t.queues
    && list_all (λ p. is_open p.state) t.producers

-- a flush has nothing to do: one is under way, or nothing waits
abbrev pub has_no_flush : Topic → Bool
has_no_flush t = is_some t.doubt || is_idle t

-- a producer's closing is handed on, or waits again
abbrev pub hand_on_state : ProducerState → ProducerState
hand_on_state Open = Open
hand_on_state Closing = HandedOn
hand_on_state HandedOn = HandedOn

abbrev pub take_back_state : ProducerState → ProducerState
take_back_state Open = Open
take_back_state Closing = Closing
take_back_state HandedOn = Closing

abbrev pub hand_on_producer : Producer → Producer
hand_on_producer p = record p { state = hand_on_state p.state }

abbrev pub take_back_producer : Producer → Producer
take_back_producer p = record p { state = take_back_state p.state }

-- a ledger id begins with this position, and each one below it is committed, and acknowledged on every subscription, of which there is one
pub record IsPassed (t : Topic) (position : ℕ) : Type 0 where
  pub begins : position % t.per_ledger ≡ 0
  pub rises : t.ledger.base ≤ position
  pub committed : position ≤ t.committed
  pub some : 0 < length t.subs.subs
  pub past : AllByRecursion (IsPast position) t.subs.subs

-- up to this position the ledger may be trimmed: it begins there, or nobody needs what is before it
abbrev pub IsTrimPoint : Topic → ℕ → Type 0
IsTrimPoint t position = (position ≡ t.ledger.base) ⊎ IsPassed t position

-- all that waits is handed on, and the ledger may be trimmed up to this position with it
abbrev pub handed_on : Topic → ℕ → Topic
handed_on t trim = record t {
  doubt = Some (record { entries = length t.waiting; changes = length t.subs.changes; trim = trim });
  queues = map (λ q. hand_on q) t.queues;
  producers = map (λ p. hand_on_producer p) t.producers;
}

-- A flush begins by handing on all that waits, where it has something to do, and copies it, with a position up to which the ledger
-- may be trimmed. A failed topic hands on nothing.
abbrev pub TakeStep : Topic → Result (Option Batch) WriteError → Topic → Type 0
TakeStep old (Ok None) new = (old.failed ≡ false) × (has_no_flush old ≡ true) × (new ≡ old)
TakeStep old (Ok (Some batch)) new = (old.failed ≡ false) × (has_no_flush old ≡ false) × (new ≡ handed_on old batch.trim) × (batch.entries.items ≡ old.waiting) × (batch.changes.items ≡ old.subs.changes) × IsTrimPoint old batch.trim
TakeStep old (Err Device) new = (old.failed ≡ true) × (new ≡ old)
TakeStep old (Err NoMemory) new = (old.failed ≡ false) × (has_no_flush old ≡ false) × (new ≡ old)

-- the topic works and has handed on so many entries and changes, and this position
abbrev pub awaits : Topic → Batch → Bool
awaits t batch = not t.failed && is_some t.doubt && nat_eq (entries_of t.doubt) (length batch.entries.items) && nat_eq (changes_of t.doubt) (length batch.changes.items) && nat_eq (floor t) batch.trim

-- What was handed on is committed, its replies are due, and the producers whose closing it was are gone. The ledger is trimmed up
-- to a position: entries below it are gone, and their slots forgotten.
abbrev pub finished : Topic → ℕ → Topic
finished t trim = record t {
  committed = t.committed + entries_of t.doubt;
  ledger = trimmed trim (lengthened t.ledger (entries_in_doubt t));
  kept = after_all (changes_in_doubt t) t.kept;
  waiting = drop (entries_of t.doubt) t.waiting;
  subs = forgotten (settled t.subs (changes_of t.doubt)) (max t.ledger.base trim);
  queues = map (λ q. make_due q) t.queues;
  producers = filter (λ p. not (is_handed_on p.state)) t.producers;
  doubt = None;
}

-- what was handed on waits again
abbrev pub taken_back : Topic → Topic
taken_back t = record t {
  queues = map (λ q. take_back q) t.queues;
  producers = map (λ p. take_back_producer p) t.producers;
  doubt = None;
}

-- the device failed: what was handed on stays in doubt, and all pending replies are due as refusals
abbrev pub failed : Topic → Topic
failed t = record t { queues = map (λ q. refuse_pending q) t.queues; failed = true }

-- a flush ends as its write did, which answers where the store's ledger begins then; no more is trimmed than may be
abbrev pub FinishStep : Topic → Result ℕ WriteError → Result ℕ WriteError → Topic → Type 0
FinishStep old (Ok base) result new = (result ≡ Ok (entries_of old.doubt)) × (new ≡ finished old (min base (floor old)))
FinishStep old (Err NoMemory) result new = (result ≡ Err NoMemory) × (new ≡ taken_back old)
FinishStep old (Err Device) result new = (result ≡ Err Device) × (new ≡ failed old)

-- all that waits is committed, all replies that await a flush are due, and the closing producers are gone; the ledger is trimmed up
-- to a position
abbrev pub flushed : Topic → ℕ → Topic
flushed t trim = record t {
  committed = t.committed + length t.waiting;
  ledger = trimmed trim (lengthened t.ledger t.waiting);
  kept = after_all t.subs.changes t.kept;
  waiting = [];
  subs = forgotten (record t.subs { changes = [] }) (max t.ledger.base trim);
  queues = map (λ q. make_all_due q) t.queues;
  producers = filter (λ p. is_open p.state) t.producers;
  doubt = None;
}

-- a whole flush: the ledger is trimmed no further than it may be
pub record IsFlush (old new : Topic) : Type 0 where
  pub limit : ℕ
  pub allowed : IsTrimPoint old limit
  pub trim : ℕ
  pub within : trim ≤ limit
  pub is : new ≡ flushed old trim

-- a flush that failed leaves what it handed on in doubt
pub record IsFailedFlush (old new : Topic) : Type 0 where
  pub limit : ℕ
  pub allowed : IsTrimPoint old limit
  pub is : new ≡ failed (handed_on old limit)

-- the end of a flush that began
abbrev pub FlushEnds : Topic → Result ℕ WriteError → Topic → Type 0
FlushEnds old (Ok count) new = (count ≡ length old.waiting) × IsFlush old new
FlushEnds old (Err NoMemory) new = new ≡ old
FlushEnds old (Err Device) new = IsFailedFlush old new

-- of a topic that failed, where a flush is under way, or where nothing waits, a flush changes nothing
abbrev pub FlushIn : Bool → Bool → Topic → Result ℕ WriteError → Topic → Type 0
FlushIn true nothing old result new = (result ≡ Err Device) × (new ≡ old)
FlushIn false true old result new = (result ≡ Ok 0) × (new ≡ old)
FlushIn false false old result new = FlushEnds old result new

abbrev pub FlushStep : Topic → Result ℕ WriteError → Topic → Type 0
FlushStep old result new = FlushIn old.failed (has_no_flush old) old result new
