-- What an acceptance that was told rests on: the answer that its session was owed, and what is left of its promise.
use Rattle.std.specs.Prelude.{◌≡◌, ◌⊎◌, ℕ, true, Option, Some, None, List, [], ◌∷◌}
use Rattle.std.specs.List.{AllByRecursion}
use Rattle.records.specs.Maps.{Kept}
use Rattle.topic_core.specs.declared.command.Answer.{Answer}
use Rattle.topic_core.specs.declared.command.Answer.TheVariants.{Now, Later, Nothing, NoMemory}
use Rattle.topic_core.specs.declared.command.TopicCommand.{TopicCommand}
use Rattle.topic_core.specs.State.{Topic}
use Rattle.node.specs.Moves.{Handed, Move, Command, Tell, Lose, Grant, Deliver, Miss, Leave, Flush, Take, Finish, Reopen, Crash, Cut, Moves}
use Rattle.node.specs.Promising.{Promise, IsKept, Release, Owed, Word, released_by, unless_released, first_owed, is_acceptance, promised, word_after}

-- what a command releases that is accepted: one whose answer awaits a flush
abbrev pub releases : Topic → ℕ → TopicCommand → Answer → Option Release
releases t who command (Now reply) = None
releases t who command Later = released_by t who command
releases t who command Nothing = None
releases t who command NoMemory = None

abbrev pub released_on : Topic → Move → Option Release
released_on t (Command who command answer) = releases t who command answer
released_on t (Tell handed) = None
released_on t (Lose handed) = None
released_on t (Grant who id permits result) = None
released_on t (Deliver id handed) = None
released_on t (Miss id handed) = None
released_on t (Leave who) = None
released_on t (Flush result) = None
released_on t (Take result) = None
released_on t (Finish written result) = None
released_on t (Reopen result) = None
released_on t Crash = None
released_on t Cut = None

abbrev pub unless : Option Release → Option Promise → Option Promise
unless None promise = promise
unless (Some release) promise = unless_released release promise

-- what moves leave of a promise: all of it, where no command that was accepted on them released it
abbrev pub left_of : (old : Topic) (moves : List Move) (new : Topic) → Moves old moves new → Option Promise → Option Promise
left_of old [] new steps promise = promise
left_of old (move ∷ moves) new steps promise = left_of steps.0 moves new steps.2 (unless (released_on old move) promise)

-- A session takes the first answer that it is owed, which this reply is, and what later moves leave of its promise stands.
pub record IsAnswer (word : Word) (left : Option Promise → Option Promise) (kept : Kept) (handed : Handed) : Type 0 where
  pub owed : Owed
  pub first : first_owed handed.session word.owed ≡ Some owed
  pub reply : owed.reply ≡ Some handed.reply
  pub stands : AllByRecursion (IsKept kept) (promised (left owed.promise))

-- it does so on one of the moves
abbrev pub IsAnswered : (old : Topic) (moves : List Move) (new : Topic) → Moves old moves new → Word → Handed → Type 0
IsAnswered old [] new steps word handed = ⊥
IsAnswered old (move ∷ moves) new steps word handed =
    ((move ≡ Tell handed) × IsAnswer word (left_of steps.0 moves new steps.2) new.kept handed) ⊎ IsAnswered steps.0 moves new steps.2 (word_after old move word) handed

-- a reply that tells that a command was accepted is such an answer
abbrev pub Answers : (old : Topic) (moves : List Move) (new : Topic) → Moves old moves new → Word → Handed → Type 0
Answers old moves new steps word handed = is_acceptance handed.reply ≡ true → IsAnswered old moves new steps word handed

abbrev pub AnswersEach : (old : Topic) (moves : List Move) (new : Topic) → Moves old moves new → Word → List Handed → Type 0
AnswersEach old moves new steps word told = AllByRecursion (λ handed. Answers old moves new steps word handed) told
