-- What holds of streams, pieces and written frames.
use Rattle.std.specs.Prelude.{◌≡◌, ◌≢◌, ◌<◌, ◌≤◌, ◌^◌, ℕ, ◌+◌, List, [], ◌∷◌, ◌++◌, length, Option, Some, None, Result, MatchOption}
use Rattle.std.specs.List.{flat_map, All}
use Rattle.commands.specs.declared.reply.Reply.{Reply}
use Rattle.commands.specs.Replies.{spelling}
use Rattle.commands.specs.Laws.{IsBuilt}
use Rattle.frames.specs.declared.fault.Fault.{Fault}
use Rattle.frames.specs.declared.fault.Fault.TheVariants.{NoMemory}
use Rattle.frames.specs.declared.frame.Frame.{Frame}
use Rattle.frames.specs.Frames.{largest_size, IsSized, IsFrame, frame_bytes}
use Rattle.frames.specs.Faults.{IsFaulty}
use Rattle.frames.specs.Streams.{BeginsWith, IsUnfinished, Progress, at_start, FeedsOn}

-- a stream ends in an unfinished frame, or at a fault that its bytes show
abbrev pub IsEnd : Option Fault → List ℕ → Type 0
IsEnd None rest = IsUnfinished rest
IsEnd (Some fault) rest = (fault ≢ NoMemory) × IsFaulty fault rest

-- the stream is these frames, and a rest that is no whole frame
pub record StreamOf (stream : List ℕ) (frames : List Frame) (rest : List ℕ) (fault : Option Fault) : Type 0 where
  pub begins : BeginsWith stream frames rest
  pub ends : IsEnd fault rest

-- each stream has a reading
abbrev pub HasReading : Type 0
HasReading = (stream : List ℕ) → (frames : List Frame) × (rest : List ℕ) × (fault : Option Fault) × StreamOf stream frames rest fault

-- and no other
abbrev pub OneReading : Type 0
OneReading = (stream : List ℕ) (frames others : List Frame) (rest left : List ℕ) (fault flaw : Option Fault) →
    StreamOf stream frames rest fault → StreamOf stream others left flaw → (frames ≡ others) × (rest ≡ left) × (fault ≡ flaw)

-- where bytes show a fault, no frame stands at their front
abbrev pub NoFrameAtFault : Type 0
NoFrameAtFault = (front next : List ℕ) (frame : Frame) (fault : Fault) → fault ≢ NoMemory → IsFrame front frame → ¬ IsFaulty fault (front ++ next)

-- pieces, one after another
abbrev pub joined : List (List ℕ) → List ℕ
joined pieces = flat_map (λ piece. piece) pieces

-- a parser is fed these pieces, one after another
abbrev pub FeedsAll : Progress → List (List ℕ) → List Frame → List Frame → Progress → Type 0
FeedsAll old [] frames new now = (new ≡ frames) × (now ≡ old)
FeedsAll old (piece ∷ pieces) frames new now =
    (between : List Frame) × (then : Progress) × (result : Result (Unit {0}) Fault) × FeedsOn old piece frames between result then × FeedsAll then pieces between new now

-- the parser has read the stream: all frames are found, and it has stopped in an unfinished one or at a fault
abbrev pub HasRead : List ℕ → List Frame → Progress → Type 0
HasRead stream frames now = MatchOption now.fault
    (BeginsWith stream frames now.rest × IsUnfinished now.rest)
    (λ fault. (now.rest ≡ []) × (left : List ℕ) × BeginsWith stream frames left × IsFaulty fault left)

-- any list of pieces is read as what it is joined
abbrev pub AnyPieces : Type 0
AnyPieces = (pieces : List (List ℕ)) (frames : List Frame) (now : Progress) → FeedsAll at_start pieces [] frames now → HasRead (joined pieces) frames now

-- so two cuts of one stream give the same, unless memory runs out
abbrev pub AnyCut : Type 0
AnyCut = (pieces cuts : List (List ℕ)) (frames others : List Frame) (now then : Progress) →
    FeedsAll at_start pieces [] frames now → FeedsAll at_start cuts [] others then → joined pieces ≡ joined cuts →
    now.fault ≢ Some NoMemory → then.fault ≢ Some NoMemory → (frames ≡ others) × (now ≡ then)

-- a command's bytes and an entry's whose frame has a size of 32 bits
abbrev pub FitsFrame : List ℕ × List ℕ → Type 0
FitsFrame parts = 4 + length parts.0 + length parts.1 < 2 ^ 32

-- what is written has the form of a frame, where it is in bounds
abbrev pub WritesFrames : Type 0
WritesFrames = (command entry : List ℕ) → 4 + length command + length entry ≤ largest_size → IsSized (frame_bytes command entry) command entry

-- written frames tell their commands and entries, whatever follows
abbrev pub WritesApart : Type 0
WritesApart = (parts others : List ℕ × List ℕ) (next rest : List ℕ) → FitsFrame parts → FitsFrame others →
    frame_bytes parts.0 parts.1 ++ next ≡ frame_bytes others.0 others.1 ++ rest → (parts ≡ others) × (next ≡ rest)

-- so the bytes of written frames, one after another, determine the list of them
abbrev pub WritesLists : Type 0
WritesLists = (written others : List (List ℕ × List ℕ)) → All FitsFrame written → All FitsFrame others →
    flat_map (λ parts. frame_bytes parts.0 parts.1) written ≡ flat_map (λ parts. frame_bytes parts.0 parts.1) others → written ≡ others

-- a reply as it is built, and an entry that can be written behind it
abbrev pub IsTold : Reply × List ℕ → Type 0
IsTold told = IsBuilt told.0 × (length told.1 ≤ 2 ^ 31)

-- and so do those of replies determine the list of them and of their entries
abbrev pub WritesReplies : Type 0
WritesReplies = (told others : List (Reply × List ℕ)) → All IsTold told → All IsTold others →
    flat_map (λ frame. frame_bytes (spelling frame.0) frame.1) told ≡ flat_map (λ frame. frame_bytes (spelling frame.0) frame.1) others → told ≡ others
