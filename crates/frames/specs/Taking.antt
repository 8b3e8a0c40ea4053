-- One step of feeding: bytes of a piece join the unfinished frame's.
use Rattle.std.specs.Prelude.{◌≡◌, ◌<◌, ◌≤◌, ◌⊎◌, ℕ, List, [], ◌∷◌, ◌++◌, length, take, Option, Some, None, Result, Ok, Err}
use Rattle.frames.specs.declared.fault.Fault.{Fault}
use Rattle.frames.specs.declared.frame.Frame.{Frame}
use Rattle.frames.specs.declared.whole.Whole.{Whole}
use Rattle.frames.specs.Frames.{IsFrame}
use Rattle.frames.specs.Faults.{IsFaulty}
use Rattle.frames.specs.Streams.{IsUnfinished}
use Rattle.frames.specs.Reading.{IsWhole, bytes_of}

-- the frame is still unfinished, and its bytes are kept
pub record Waits (bytes : List ℕ) (old : List Frame) (kept : List ℕ) (new : List Frame) : Type 0 where
  pub keeps : kept ≡ bytes
  pub adds_none : new ≡ old
  pub unfinished : IsUnfinished bytes

-- the bytes are a frame, which is added, and no bytes are kept
pub record Completes (bytes : List ℕ) (old : List Frame) (kept : List ℕ) (new : List Frame) : Type 0 where
  pub frame : Frame
  pub is : IsFrame bytes frame
  pub adds : new ≡ old ++ frame ∷ []
  pub keeps_none : kept ≡ []

-- the front of the piece that is taken, one byte at least, makes the frame longer, or whole, or shows a fault
abbrev pub Takes : List ℕ → List ℕ → List Frame → Result ℕ Fault → List ℕ → List Frame → Type 0
Takes unfinished piece old (Ok taken) kept new = (0 < taken) × (taken ≤ length piece) ×
    (Waits (unfinished ++ take taken piece) old kept new ⊎ Completes (unfinished ++ take taken piece) old kept new)
Takes unfinished piece old (Err fault) kept new = (new ≡ old) × (taken : ℕ) × IsFaulty fault (unfinished ++ take taken piece)

-- the bytes are unfinished, and kept, or they are a whole frame's by their sizes, and handed on
abbrev pub Becomes : List ℕ → Option Whole → List ℕ → Type 0
Becomes bytes None kept = (kept ≡ bytes) × IsUnfinished bytes
Becomes bytes (Some whole) kept = (kept ≡ []) × (bytes_of whole ≡ bytes) × IsWhole bytes

-- the same of the bytes alone
abbrev pub Gathers : List ℕ → List ℕ → Result (ℕ × Option Whole) Fault → List ℕ → Type 0
Gathers unfinished piece (Ok taken) kept = (0 < taken.0) × (taken.0 ≤ length piece) × Becomes (unfinished ++ take taken.0 piece) taken.1 kept
Gathers unfinished piece (Err fault) kept = (taken : ℕ) × IsFaulty fault (unfinished ++ take taken piece)
