-- What receipts promise, and where it is found.
use Rattle.std.specs.Prelude.{◌≡◌, ◌≢◌, ◌⊎◌, ◌<◌, ◌≤◌, ℕ, true, Some, List, [], ◌∷◌, ◌++◌}
use Rattle.std.specs.List.{AllByRecursion}
use Rattle.commands.specs.declared.reply.Reply.TheVariants.{SendReceipt}
use Rattle.managed_ledger.specs.Entries.{Ledger, end_of, entry_at}
use Rattle.managed_ledger.specs.Trims.{IsGrown}
use Rattle.topic_core.specs.declared.command.Answer.{Answer}
use Rattle.topic_core.specs.declared.command.Answer.TheVariants.{Now, Later, Nothing, NoMemory}
use Rattle.topic_core.specs.declared.command.Send.{Send}
use Rattle.topic_core.specs.declared.command.TopicCommand.{TopicCommand}
use Rattle.topic_core.specs.declared.command.TopicCommand.TheVariants as asked
use Rattle.topic_core.specs.State.{Topic, floor, next_position, entries_of}
use Rattle.ids.specs.Ids.{message_id_at}
use Rattle.reply_queues.specs.Replies.{is_receipt}
use Rattle.topic_core.specs.Steps.{bytes_of}
use Rattle.node.specs.Moves.{Handed, Move, Command, Tell, Lose, Grant, Deliver, Miss, Leave, Flush, Take, Finish, Reopen, Crash, Cut, Moves}

-- an accepted SEND: where its entry will stand, and the receipt that its session is promised
pub record Sent : Type 0 where
  pub position : ℕ
  pub entry : List ℕ
  pub receipt : Handed

-- of a topic whose ledger ids have so many entry ids
abbrev pub sent_at : ℕ → ℕ → ℕ → Send → Sent
sent_at per_ledger position who send = record {
  position = position;
  entry = bytes_of send.entry;
  receipt = record { session = who; reply = SendReceipt send.producer_id send.sequence_id (message_id_at per_ledger position); entry = [] };
}

-- the SEND that is accepted by this answer
abbrev pub sent_by : ℕ → ℕ → ℕ → TopicCommand → Answer → List Sent
sent_by per_ledger position who (asked.Producer id request name) answer = []
sent_by per_ledger position who (asked.Send send) (Now reply) = []
sent_by per_ledger position who (asked.Send send) Later = sent_at per_ledger position who send ∷ []
sent_by per_ledger position who (asked.Send send) Nothing = []
sent_by per_ledger position who (asked.Send send) NoMemory = []
sent_by per_ledger position who (asked.Subscribe subscribe) answer = []
sent_by per_ledger position who (asked.Ack ack) answer = []
sent_by per_ledger position who (asked.CloseProducer close) answer = []
sent_by per_ledger position who (asked.Unsubscribe unsubscribe) answer = []
sent_by per_ledger position who (asked.CloseConsumer close) answer = []
sent_by per_ledger position who (asked.Redeliver redeliver) answer = []

-- a SEND that a topic accepts gets the next position
abbrev pub sends_on : Topic → Move → List Sent
sends_on t (Command who command answer) = sent_by t.per_ledger (next_position t) who command answer
sends_on t (Tell handed) = []
sends_on t (Lose handed) = []
sends_on t (Grant who id permits result) = []
sends_on t (Deliver id handed) = []
sends_on t (Miss id handed) = []
sends_on t (Leave who) = []
sends_on t (Flush result) = []
sends_on t (Take result) = []
sends_on t (Finish written result) = []
sends_on t (Reopen result) = []
sends_on t Crash = []
sends_on t Cut = []

-- The accepted SENDs of a topic's moves, in order. A position comes again where the entry that had it was lost in a crash.
abbrev pub sends_by : (old : Topic) (moves : List Move) (new : Topic) → Moves old moves new → List Sent
sends_by old [] new steps = []
sends_by old (move ∷ moves) new steps = sends_on old move ++ sends_by steps.0 moves new steps.2

-- the latest of these SENDs for a position is this one
pub record IsLatest (sends : List Sent) (send : Sent) : Type 0 where
  pub before : List Sent
  pub after : List Sent
  pub splits : sends ≡ before ++ send ∷ after
  pub latest : AllByRecursion (λ (other : Sent). other.position ≢ send.position) after

-- the ledger has this entry at its position, or a trim took that
abbrev pub Keeps : Ledger → ℕ → List ℕ → Type 0
Keeps ledger i entry = (i < ledger.base) ⊎ (entry_at ledger i ≡ Some entry)

-- It is the receipt of the latest SEND for its position, to the session that sent, and the ledger has that SEND's entry there, where
-- no trim took it.
pub record IsFound (sends : List Sent) (ledger : Ledger) (handed : Handed) : Type 0 where
  pub send : Sent
  pub sent : IsLatest sends send
  pub promised : handed ≡ send.receipt
  pub stands : Keeps ledger send.position send.entry

-- a reply that is a receipt is found
abbrev pub Finds : List Sent → Ledger → Handed → Type 0
Finds sends ledger handed = is_receipt handed.reply ≡ true → IsFound sends ledger handed

abbrev pub FindsEach : List Sent → Ledger → List Handed → Type 0
FindsEach sends ledger [] = Unit {0}
FindsEach sends ledger (handed ∷ more) = Finds sends ledger handed × FindsEach sends ledger more

-- The ledger only grows, but for a front that a trim took, and each entry behind the old ones is that of the latest SEND for its position.
pub record IsPublished (sends : List Sent) (old new : Ledger) : Type 0 where
  pub grown : IsGrown old new
  pub each : (i : ℕ) (entry : List ℕ) → end_of old ≤ i → entry_at new i ≡ Some entry → (send : Sent) × IsLatest sends send × (send.position ≡ i) × (send.entry ≡ entry)

-- a topic that owes no reply, with no entry that waits and none in doubt, which counts its ledger; a trim may take none but those
pub record IsQuiet (t : Topic) : Type 0 where
  pub queues : t.queues ≡ []
  pub waiting : t.waiting ≡ []
  pub sure : entries_of t.doubt ≡ 0
  pub counted : end_of t.ledger ≡ t.committed
  pub trims : floor t ≤ t.committed
