-- What holds of every step and every run.
use Rattle.std.specs.Prelude.{◌≡◌, ◌<◌, ◌≤◌, ℕ, ◌+◌, false, Option, List, map}
use Rattle.std.specs.List.{AllByRecursion}
use Rattle.managed_ledger.specs.Entries.{end_of}
use Rattle.topic_core.specs.State.{Topic, receipts_due}
use Rattle.topic_core.specs.Soundness.{IsSoundTopic}
use Rattle.topic_core.specs.declared.dispatch.Outgoing.{Outgoing}
use Rattle.session.specs.Broker.{Broker, topic_at}
use Rattle.session.specs.Client.{frames_of, AreBounded}
use Rattle.node.specs.State.{State, fresh_broker}
use Rattle.node.specs.Runs.{Run, Life, AllowedRun}
use Rattle.node.specs.Cuts.{Turn, AllowedLife, hearer_in}
use Rattle.node.specs.Moves.{Handed, Move, Moves, told_by, is_crash}
use Rattle.node.specs.Telling.{Said, all_outgoing, said_to, hearer, hearer_of, Spells, bytes_to, from_topic, AnswersAreAtOnce, receipts_told, RunUnfolds}
use Rattle.node.specs.Finding.{sends_by, FindsEach, IsPublished, IsQuiet}
use Rattle.node.specs.Promising.{IsKept, nothing_yet, word_by, AreInTurn}
use Rattle.node.specs.Answering.{AnswersEach}
use Rattle.node.specs.Delivering.{DeliversEach}
use Rattle.node.specs.declared.event.Event.{Event}
use Rattle.node.specs.declared.event.Happening.{Happening}
use Rattle.node.specs.declared.event.Output.{Output}

-- what each output of a run tells is heard by the session of its event, and each topic moves
abbrev pub RunsUnfold : Type 0
RunsUnfold = (old : State) (events : List Event) (outputs : List Output) (new : State) → Run old events outputs new
    → RunUnfolds old.broker (map (λ event. hearer event) events) outputs new.broker

-- so it is with crashes in between, and with cuts of the power within events
pub record LivesUnfold : Type 0 where
  pub life : (old : Life) (happenings : List Happening) (outputs : List Output) (new : Life) → AllowedRun old happenings outputs new
      → RunUnfolds old.state.broker (map (λ happening. hearer_of happening) happenings) outputs new.state.broker
  pub cut : (old : Life) (turns : List Turn) (outputs : List Output) (new : Life) → AllowedLife old turns outputs new
      → RunUnfolds old.state.broker (map (λ turn. hearer_in turn) turns) outputs new.state.broker

-- each topic is sound
abbrev pub IsSoundBroker : Broker → Type 0
IsSoundBroker b = (number : ℕ) → IsSoundTopic (topic_at b number)

-- a new node is sound, and each step and each happening keeps that
pub record StaysSound : Type 0 where
  pub fresh : (per_ledger : ℕ) (url : List ℕ) → 0 < per_ledger → IsSoundBroker (fresh_broker per_ledger url)
  pub run : (old : State) (events : List Event) (outputs : List Output) (new : State) → Run old events outputs new → IsSoundBroker old.broker → IsSoundBroker new.broker
  pub life : (old : Life) (happenings : List Happening) (outputs : List Output) (new : Life) → AllowedRun old happenings outputs new → IsSoundBroker old.state.broker → IsSoundBroker new.state.broker
  pub cut : (old : Life) (turns : List Turn) (outputs : List Output) (new : Life) → AllowedLife old turns outputs new → IsSoundBroker old.state.broker → IsSoundBroker new.state.broker

-- the ledger of a topic that was quiet only grows, by entries of accepted SENDs at their positions, but for a front that a trim took
abbrev pub MovesPublish : Type 0
MovesPublish = (old : Topic) (moves : List Move) (new : Topic) (steps : Moves old moves new) → IsQuiet old
    → IsPublished (sends_by old moves new steps) old.ledger new.ledger

-- between two crashes the receipts that were told on moves from a sound topic, and those that are due, never outnumber the committed entries
abbrev pub ReceiptsAreCovered : Type 0
ReceiptsAreCovered = (old : Topic) (moves : List Move) (new : Topic) → Moves old moves new → AllByRecursion (λ move. is_crash move ≡ false) moves → IsSoundTopic old
    → receipts_told (told_by moves) + receipts_due new.queues ≤ end_of new.ledger

-- each receipt that was told on moves from a quiet topic is that of an accepted SEND, whose entry stands in the ledger, where no trim took it
abbrev pub ReceiptsAreFound : Type 0
ReceiptsAreFound = (old : Topic) (moves : List Move) (new : Topic) (steps : Moves old moves new) → IsQuiet old
    → FindsEach (sends_by old moves new steps) new.ledger (told_by moves)

-- What sessions take from a topic that was quiet and sound are the answers to their accepted commands, in turn, or refusals
-- after a failure; and what was told of subscriptions stands in the durable ones: each one that was subscribed to is there, with
-- the positions that were acknowledged, while no UNSUBSCRIBE of its name was accepted since that command; and each one that was
-- unsubscribed is gone, while no SUBSCRIBE of its name was accepted since that command. So each reply that tells of an acceptance is
-- the answer that its session was owed first, to a command of it that was accepted, and what is left of its promise stands.
pub record WordIsKept (old : Topic) (moves : List Move) (new : Topic) (steps : Moves old moves new) : Type 0 where
  pub in_turn : AreInTurn old moves new steps nothing_yet
  pub kept : AllByRecursion (IsKept new.kept) (word_by old moves new steps nothing_yet).given
  pub answered : AnswersEach old moves new steps nothing_yet (told_by moves)

abbrev pub WordsAreKept : Type 0
WordsAreKept = (old : Topic) (moves : List Move) (new : Topic) (steps : Moves old moves new) → IsQuiet old → IsSoundTopic old → WordIsKept old moves new steps

-- each message that was told on moves from a quiet topic was open and admitted where it went out, and is the entry that
-- stands in the ledger at its position, where no trim took it
abbrev pub MessagesAreAdmitted : Type 0
MessagesAreAdmitted = (old : Topic) (moves : List Move) (new : Topic) → Moves old moves new → IsQuiet old → DeliversEach old moves new.ledger (told_by moves)

-- what a topic did from its start on: the entries are those of accepted SENDs, the receipts among what it told are found, the
-- answers came in turn and what they say of subscriptions stands, and the messages were admitted
pub record Account (old : Topic) (told : List Handed) (new : Topic) : Type 0 where
  pub moves : List Move
  pub steps : Moves old moves new
  pub tells : told ≡ told_by moves
  pub sound : IsSoundTopic new
  pub published : IsPublished (sends_by old moves new steps) old.ledger new.ledger
  pub covered : AllByRecursion (λ move. is_crash move ≡ false) moves → receipts_told told + receipts_due new.queues ≤ end_of new.ledger
  pub found : FindsEach (sends_by old moves new steps) new.ledger told
  pub word : WordIsKept old moves new steps
  pub delivered : DeliversEach old moves new.ledger told

-- the bytes are the frames of what was said, and no other frames of replies within their bounds have these bytes
pub record AreOf (bytes : List ℕ) (said : List Said) : Type 0 where
  pub frames : bytes ≡ frames_of (all_outgoing said)
  pub bounded : AreBounded (all_outgoing said)
  pub no_other : (frames : List Outgoing) → AreBounded frames → frames_of frames ≡ bytes → frames ≡ all_outgoing said

-- what goes out to each session are frames, each whole, and tells what was said to it; receipts, messages and acceptances come from
-- topics alone, and each topic can account for them
pub record AccountsTo (old : Broker) (hearers : List (Option ℕ)) (outputs : List Output) (new : Broker) : Type 0 where
  pub said : List Said
  pub spells : Spells hearers outputs said
  pub heard : (who : ℕ) → AreOf (bytes_to who hearers outputs) (said_to who said)
  pub each : (number : ℕ) → Account (topic_at old number) (from_topic number said) (topic_at new number)
  pub at_once : AnswersAreAtOnce (λ number. (each number).moves) said

abbrev pub Accounts : Broker → List Happening → List Output → Broker → Type 0
Accounts old happenings outputs new = AccountsTo old (map (λ happening. hearer_of happening) happenings) outputs new

-- a broker that is sound, and whose topics owe nothing and have nothing waiting
pub record IsAtStart (b : Broker) : Type 0 where
  pub sound : IsSoundBroker b
  pub quiet : (number : ℕ) → IsQuiet (topic_at b number)

-- The headline: whatever happens to a node from such a start, with device failures and crashes anywhere, within events too, it
-- can account for all that its sessions were told.
pub record LivesAccount : Type 0 where
  pub fresh : (per_ledger : ℕ) (url : List ℕ) → 0 < per_ledger → IsAtStart (fresh_broker per_ledger url)
  pub life : (old : Life) (happenings : List Happening) (outputs : List Output) (new : Life) → AllowedRun old happenings outputs new → IsAtStart old.state.broker
      → Accounts old.state.broker happenings outputs new.state.broker
  pub cut : (old : Life) (turns : List Turn) (outputs : List Output) (new : Life) → AllowedLife old turns outputs new → IsAtStart old.state.broker
      → AccountsTo old.state.broker (map (λ turn. hearer_in turn) turns) outputs new.state.broker
