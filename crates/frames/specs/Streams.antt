-- The frames of a stream of bytes.
use Rattle.std.specs.Prelude.{◌≡◌, ◌<◌, ◌≤◌, ℕ, ◌+◌, List, [], ◌∷◌, ◌++◌, length, drop, Option, Some, None, Result, Ok, Err, MatchOption}
use Rattle.commands.specs.Metadata.{size_at}
use Rattle.frames.specs.declared.fault.Fault.{Fault}
use Rattle.frames.specs.declared.frame.Frame.{Frame}
use Rattle.frames.specs.Frames.{largest_size, IsFrame}
use Rattle.frames.specs.Faults.{IsFaulty}

-- the stream is these frames, one after another, and then the rest
abbrev pub BeginsWith : List ℕ → List Frame → List ℕ → Type 0
BeginsWith stream [] rest = stream ≡ rest
BeginsWith stream (frame ∷ frames) rest = (front : List ℕ) × (behind : List ℕ) × (stream ≡ front ++ behind) × IsFrame front frame × BeginsWith behind frames rest

-- less than a whole frame, and no fault as far as the sizes are there
pub record IsUnfinished (rest : List ℕ) : Type 0 where
  pub small : 4 ≤ length rest → size_at rest ≤ largest_size
  pub agree : 8 ≤ length rest → 4 + size_at (drop 4 rest) ≤ size_at rest
  pub cut : 8 ≤ length rest → length rest < 4 + size_at rest

-- the frames that the stream begins with are added, and this is left of it
pub record Adds (stream : List ℕ) (old new : List Frame) (left : List ℕ) : Type 0 where
  pub added : List Frame
  pub gains : new ≡ old ++ added
  pub begins : BeginsWith stream added left

-- where a stream stands: the bytes of the unfinished frame, and the fault that ended it
pub record Progress : Type 0 where
  pub rest : List ℕ
  pub fault : Option Fault

-- nothing has come
abbrev pub at_start : Progress
at_start = record { rest = []; fault = None }

-- a fault has come, and no bytes are kept
abbrev pub ended_by : Fault → Progress
ended_by fault = record { rest = []; fault = Some fault }

-- reading the stream adds its frames, and stops in an unfinished one, which is kept, or at a fault
abbrev pub Feeds : List ℕ → List Frame → List Frame → Result (Unit {0}) Fault → Progress → Type 0
Feeds stream frames new (Ok u) now = Adds stream frames new now.rest × IsUnfinished now.rest × (now.fault ≡ None)
Feeds stream frames new (Err fault) now = (left : List ℕ) × Adds stream frames new left × IsFaulty fault left × (now ≡ ended_by fault)

-- a fault stands for ever; else the stream goes on
abbrev pub FeedsOn : Progress → List ℕ → List Frame → List Frame → Result (Unit {0}) Fault → Progress → Type 0
FeedsOn old piece frames new result now = MatchOption old.fault
    (Feeds (old.rest ++ piece) frames new result now)
    (λ fault. (result ≡ Err fault) × (new ≡ frames) × (now ≡ old))
