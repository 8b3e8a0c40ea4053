-- The bytes that come in to sessions, and the frames in them.
use Rattle.std.specs.Prelude.{◌≡◌, ℕ, zero, suc, Bool, true, false, cond, nat_eq, Option, List, [], ◌∷◌, ◌++◌, filter, map}
use Rattle.std.specs.List.{AllByRecursion}
use Rattle.frames.specs.declared.frame.Frame.{Frame}
use Rattle.frames.specs.Streams.{BeginsWith}
use Rattle.session.specs.Broker.{Broker}
use Rattle.node.specs.Runs.{Life}
use Rattle.node.specs.Cuts.{Turn, Whole, Within, AllowedLife, hearer_in}
use Rattle.node.specs.Origins.{Origin, has_origin, moves_from, AsksSo, frames_in, openings_among}
use Rattle.node.specs.Laws.{IsAtStart, AccountsTo}
use Rattle.node.specs.declared.event.Event.{Event}
use Rattle.node.specs.declared.event.Event.TheVariants.{Open, Bytes, Pump, Close, OnTopic}
use Rattle.node.specs.declared.event.Happening.TheVariants as happening
use Rattle.node.specs.declared.event.Output.{Output}
use Rattle.node.specs.declared.event.Verdict.{Verdict}
use Rattle.node.specs.declared.event.Verdict.TheVariants as verdict

-- whether an event's session or topic was known, by its answer
abbrev pub is_known : Verdict → Bool
is_known verdict.Done = true
is_known (verdict.Refused why) = true
is_known verdict.Full = true
is_known verdict.Unknown = false
is_known (verdict.Ended why) = true

-- the bytes that an event brings to the session of this number; there is no such session where it is unknown
abbrev pub brought : ℕ → Event → Verdict → List ℕ
brought who Open answer = []
brought who (Bytes other bytes) answer = cond (is_known answer) (cond (nat_eq other who) bytes []) []
brought who (Pump other) answer = []
brought who (Close other) answer = []
brought who (OnTopic topic event) answer = []

abbrev pub brought_in : ℕ → Turn → Verdict → List ℕ
brought_in who (Whole (happening.Event event)) answer = brought who event answer
brought_in who (Whole happening.Crash) answer = []
brought_in who (Within event) answer = []

abbrev pub is_done : Verdict → Bool
is_done verdict.Done = true
is_done (verdict.Refused why) = false
is_done verdict.Full = false
is_done verdict.Unknown = false
is_done (verdict.Ended why) = false

-- whether the power was cut and the node was opened again
abbrev pub is_opening : Turn → Verdict → Bool
is_opening (Whole (happening.Event event)) answer = false
is_opening (Whole happening.Crash) answer = is_done answer
is_opening (Within event) answer = is_done answer

-- The bytes that came in to the session of this number behind so many openings. An opening gives the numbers of sessions anew.
abbrev pub bytes_in : ℕ → ℕ → List Turn → List Output → List ℕ
bytes_in opening who [] outputs = []
bytes_in opening who (turn ∷ turns) [] = []
bytes_in zero who (turn ∷ turns) (output ∷ outputs) = cond (is_opening turn output.result) [] (brought_in who turn output.result ++ bytes_in zero who turns outputs)
bytes_in (suc opening) who (turn ∷ turns) (output ∷ outputs) = cond (is_opening turn output.result) (bytes_in opening who turns outputs) (bytes_in (suc opening) who turns outputs)

-- how often the node was opened again
abbrev pub openings_in : List Turn → List Output → ℕ
openings_in [] outputs = 0
openings_in (turn ∷ turns) [] = 0
openings_in (turn ∷ turns) (output ∷ outputs) = cond (is_opening turn output.result) (suc (openings_in turns outputs)) (openings_in turns outputs)

-- the bytes begin with these frames
abbrev pub IsFront : List ℕ → List Frame → Type 0
IsFront bytes frames = (rest : List ℕ) × BeginsWith bytes frames rest

-- The commands, grants and crashes of all topics' moves come from these, each from one of its own, and in order: commands and grants
-- from frames that stand at the front of the bytes that came in to their sessions, and crashes from the life's own ones.
pub record ComesFrom {old : Broker} {hearers : List (Option ℕ)} {outputs : List Output} {new : Broker} (account : AccountsTo old hearers outputs new) (turns : List Turn) (origins : List Origin) : Type 0 where
  pub moves : (number : ℕ) → filter (λ move. has_origin move) (account.each number).moves ≡ moves_from number origins
  pub asks : AllByRecursion AsksSo origins
  pub fronts : (opening who : ℕ) → IsFront (bytes_in opening who turns outputs) (frames_in opening who origins)
  pub openings : openings_among origins ≡ openings_in turns outputs

-- no session is open
abbrev pub HasNoSession : Life → Type 0
HasNoSession life = life.up ≡ true → life.state.sessions ≡ []

-- each life of a node from a start where nothing is owed and no session is open has an account whose moves come from what came in
abbrev pub MovesComeFromFrames : Type 0
MovesComeFromFrames = (old : Life) (turns : List Turn) (outputs : List Output) (new : Life) → AllowedLife old turns outputs new → IsAtStart old.state.broker → HasNoSession old
    → (account : AccountsTo old.state.broker (map (λ turn. hearer_in turn) turns) outputs new.state.broker) × (origins : List Origin) × ComesFrom account turns origins
