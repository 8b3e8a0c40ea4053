-- The moves of a topic, and what it hands to sessions on them.
use Rattle.std.specs.Prelude.{◌≡◌, ℕ, Bool, true, false, Option, Result, Ok, Some, List, [], ◌∷◌, ◌++◌}
use Rattle.commands.specs.declared.reply.Reply.{Reply}
use Rattle.topic_core.specs.declared.command.Answer.{Answer}
use Rattle.topic_core.specs.declared.command.TopicCommand.{TopicCommand}
use Rattle.topic_core.specs.declared.dispatch.Outgoing.{Outgoing}
use Rattle.gated_log.specs.declared.refusal.Refusal.{Refusal}
use Rattle.topic_stores.specs.declared.batch.Batch.{Batch}
use Rattle.topic_stores.specs.declared.error.WriteError.{WriteError}
use Rattle.permits.specs.declared.plain.TooManyPermits.{TooManyPermits}
use Rattle.topic_core.specs.State.{Topic}
use Rattle.reply_queues.specs.Replies.{due_to}
use Rattle.topic_core.specs.Steps.{TopicStep, GrantStep, collected, left}
use Rattle.topic_core.specs.Dispatch.{DispatchStep}
use Rattle.topic_core.specs.Flush.{IsTrimPoint, TakeStep, FinishStep, FlushStep}
use Rattle.topic_core.specs.Crashes.{ReopenStep, TopicCrash}
use Rattle.node.specs.Steps.{in_flush}

-- what a session takes from a topic: a reply, and behind a MESSAGE its entry
pub record Handed : Type 0 where
  pub session : ℕ
  pub reply : Reply
  pub entry : List ℕ

abbrev pub outgoing : Handed → Outgoing
outgoing handed = record { reply = handed.reply; entry = handed.entry }

pub data Move : Type 0 where
  Command : ℕ → TopicCommand → Answer → Move  -- a session's command, and its answer
  Tell : Handed → Move  -- a session takes its first due reply, which goes out
  Lose : Handed → Move  -- it takes it, and there is no memory to write it
  Grant : ℕ → ℕ → ℕ → Result (Unit {0}) TooManyPermits → Move  -- a session grants its consumer so many permits
  Deliver : ℕ → Handed → Move  -- a session's consumer gets a message, which goes out
  Miss : ℕ → Handed → Move  -- it gets it, and there is no memory to write it
  Leave : ℕ → Move
  Flush : Result ℕ WriteError → Move
  Take : Result (Option Batch) WriteError → Move  -- a flush in parts begins
  Finish : Result ℕ WriteError → Result ℕ WriteError → Move  -- it ends as its write did
  Reopen : Result (Unit {0}) Refusal → Move
  Crash : Move  -- the power was cut, and the topic was opened again
  Cut : Move  -- the power is cut within a flush of it, which has handed on all that waits

-- a session takes its first due reply, behind which nothing stands
pub record Takes (old : Topic) (handed : Handed) (new : Topic) : Type 0 where
  pub plain : handed.entry ≡ []
  pub first : due_to handed.session old.queues ≡ handed.reply ∷ due_to handed.session new.queues
  pub taken : new ≡ collected old handed.session handed.reply

-- a session's consumer gets a message
abbrev pub Sends : Topic → ℕ → Handed → Topic → Type 0
Sends old id handed new = DispatchStep old handed.session id (Ok (Some (outgoing handed))) new

abbrev pub MoveStep : Topic → Move → Topic → Type 0
MoveStep old (Command who command answer) new = TopicStep old who command answer new
MoveStep old (Tell handed) new = Takes old handed new
MoveStep old (Lose handed) new = Takes old handed new
MoveStep old (Grant who id permits result) new = GrantStep old who id permits result new
MoveStep old (Deliver id handed) new = Sends old id handed new
MoveStep old (Miss id handed) new = Sends old id handed new
MoveStep old (Leave who) new = new ≡ left old who
MoveStep old (Flush result) new = FlushStep old result new
MoveStep old (Take result) new = TakeStep old result new
MoveStep old (Finish written result) new = FinishStep old written result new
MoveStep old (Reopen result) new = ReopenStep old result new
MoveStep old Crash new = TopicCrash old new
MoveStep old Cut new = (limit : ℕ) × IsTrimPoint old limit × (new ≡ in_flush old limit)

-- moves, one after another
abbrev pub Moves : Topic → List Move → Topic → Type 0
Moves old [] new = new ≡ old
Moves old (move ∷ moves) new = (between : Topic) × MoveStep old move between × Moves between moves new

-- what goes out on a move
abbrev pub told_on : Move → List Handed
told_on (Command who command answer) = []
told_on (Tell handed) = handed ∷ []
told_on (Lose handed) = []
told_on (Grant who id permits result) = []
told_on (Deliver id handed) = handed ∷ []
told_on (Miss id handed) = []
told_on (Leave who) = []
told_on (Flush result) = []
told_on (Take result) = []
told_on (Finish written result) = []
told_on (Reopen result) = []
told_on Crash = []
told_on Cut = []

abbrev pub told_by : List Move → List Handed
told_by [] = []
told_by (move ∷ moves) = told_on move ++ told_by moves

abbrev pub is_crash : Move → Bool
is_crash (Command who command answer) = false
is_crash (Tell handed) = false
is_crash (Lose handed) = false
is_crash (Grant who id permits result) = false
is_crash (Deliver id handed) = false
is_crash (Miss id handed) = false
is_crash (Leave who) = false
is_crash (Flush result) = false
is_crash (Take result) = false
is_crash (Finish written result) = false
is_crash (Reopen result) = false
is_crash Crash = true
is_crash Cut = false

-- a move that a session makes: no part of a flush, no opening and no cut of the power
abbrev pub is_of_session : Move → Bool
is_of_session (Command who command answer) = true
is_of_session (Tell handed) = true
is_of_session (Lose handed) = true
is_of_session (Grant who id permits result) = true
is_of_session (Deliver id handed) = true
is_of_session (Miss id handed) = true
is_of_session (Leave who) = true
is_of_session (Flush result) = false
is_of_session (Take result) = false
is_of_session (Finish written result) = false
is_of_session (Reopen result) = false
is_of_session Crash = false
is_of_session Cut = false
