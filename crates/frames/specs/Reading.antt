-- How a frame is read, step by step.
use Rattle.std.specs.Prelude.{◌≡◌, ◌≢◌, ◌≤◌, ℕ, ◌+◌, List, length, take, drop, Option, Some, None, Result, Ok, Err, Bool, nat_lt, ◌==◌, ◌&&◌, slice_index, if◌then◌else◌}
use Rattle.std.specs.Bool.{MatchBool}
use Rattle.std.proofs.Common.{refl}
use Rattle.commands.specs.declared.command.Command.{Command}
use Rattle.commands.specs.declared.command.Command.TheVariants.{Connect, Subscribe, Producer, Send, Ack, Flow, Unsubscribe, CloseProducer, CloseConsumer, Ping, Pong, RedeliverUnacknowledgedMessages, PartitionedMetadata, Lookup, Other}
use Rattle.commands.specs.declared.fault.CommandFault.{CommandFault}
use Rattle.commands.specs.declared.metadata.MessageMeta.{MessageMeta}
use Rattle.commands.specs.declared.fault.CommandFault.TheVariants as command
use Rattle.commands.specs.Commands.{command_of}
use Rattle.commands.specs.Metadata.{size_at, entry_of}
use Rattle.frames.specs.declared.fault.Fault.{Fault}
use Rattle.frames.specs.declared.fault.Fault.TheVariants.{TooLarge, BadSizes, Unreadable, Missing, BadPayload, NoMemory}
use Rattle.frames.specs.declared.frame.Frame.{Frame}
use Rattle.frames.specs.declared.frame.FrameEntry.{FrameEntry}
use Rattle.frames.specs.declared.frame.FrameEntry.TheVariants.{Nothing, Checksummed, Entry}
use Rattle.frames.specs.declared.whole.Whole.{Whole}
use Rattle.frames.specs.declared.whole.Whole.TheVariants.{Lent, Own}
use Rattle.frames.specs.Frames.{largest_size}
use Rattle.frames.specs.Faults.{IsFaulty}
use Rattle.frames.specs.Streams.{IsUnfinished}

abbrev pub fault_of : CommandFault → Fault
fault_of command.Unreadable = Unreadable
fault_of command.Missing = Missing
fault_of command.NoMemory = NoMemory

-- the next step, unless this one met a fault
infixl 10 ◌>>=◌
abbrev pub ◌>>=◌ : {A B : Type 0} → Result A Fault → (A → Result B Fault) → Result B Fault
(Ok x) >>= f = f x
(Err e) >>= f = Err e

-- a command, or its fault
abbrev pub read_as_command : {A : Type 0} → Result A CommandFault → Result A Fault
read_as_command (Ok x) = Ok x
read_as_command (Err e) = Err (fault_of e)

-- metadata, or the fault of what stands behind the command
abbrev pub read_as_metadata : {A : Type 0} → Result A CommandFault → Result A Fault
read_as_metadata (Ok x) = Ok x
read_as_metadata (Err e) = Err BadPayload

-- what a function returned is what reading gives, unless memory ran out
abbrev pub Reads : {A : Type 0} → Result A Fault → Result A Fault → Type 0
Reads (Ok x) read = read ≡ Ok x
Reads (Err TooLarge) read = read ≡ Err TooLarge
Reads (Err BadSizes) read = read ≡ Err BadSizes
Reads (Err Unreadable) read = read ≡ Err Unreadable
Reads (Err Missing) read = read ≡ Err Missing
Reads (Err BadPayload) read = read ≡ Err BadPayload
Reads (Err NoMemory) read = Unit {0}

-- two bytes tell that a checksum comes
abbrev pub is_checksummed : List ℕ → Bool
is_checksummed bytes = slice_index bytes 0 == 14 && slice_index bytes 1 == 1

-- an entry that isn't checksummed, where its metadata is read
abbrev pub plain_of : (behind : List ℕ) (read : Result MessageMeta CommandFault) → entry_of behind ≡ read → Result FrameEntry Fault
plain_of behind (Ok metadata) is = Ok (Entry (record { bytes = behind; metadata = metadata; readable = is }))
plain_of behind (Err e) is = Err BadPayload

-- what stands behind a SEND
unfoldable pub send_entry_of : List ℕ → Result FrameEntry Fault
send_entry_of behind = if is_checksummed behind then Ok Checksummed else plain_of behind (entry_of behind) refl

-- what stands behind another client command
abbrev pub nothing_of : List ℕ → Result FrameEntry Fault
nothing_of behind = if length behind == 0 then Ok Nothing else Err BadPayload

-- what stands behind a command
unfoldable pub entry_behind : Command → List ℕ → Result FrameEntry Fault
entry_behind (Send c) behind = send_entry_of behind
entry_behind (Other k) behind = Ok Nothing
entry_behind (Connect c) behind = nothing_of behind
entry_behind (Subscribe c) behind = nothing_of behind
entry_behind (Producer c) behind = nothing_of behind
entry_behind (Ack c) behind = nothing_of behind
entry_behind (Flow c) behind = nothing_of behind
entry_behind (Unsubscribe c) behind = nothing_of behind
entry_behind (CloseProducer c) behind = nothing_of behind
entry_behind (CloseConsumer c) behind = nothing_of behind
entry_behind Ping behind = nothing_of behind
entry_behind Pong behind = nothing_of behind
entry_behind (RedeliverUnacknowledgedMessages c) behind = nothing_of behind
entry_behind (PartitionedMetadata c) behind = nothing_of behind
entry_behind (Lookup c) behind = nothing_of behind

-- a frame whose sizes agree with its bytes
unfoldable pub frame_of : List ℕ → Result Frame Fault
frame_of bytes =
    read_as_command (command_of (take (size_at (drop 4 bytes)) (drop 8 bytes))) >>= λ command.
    entry_behind command (drop (8 + size_at (drop 4 bytes)) bytes) >>= λ entry.
    Ok (record { command = command; entry = entry })

-- the sizes are in bounds, and agree with each other and with the bytes
pub record IsWhole (bytes : List ℕ) : Type 0 where
  pub known : 8 ≤ length bytes
  pub small : size_at bytes ≤ largest_size
  pub agree : 4 + size_at (drop 4 bytes) ≤ size_at bytes
  pub all : length bytes ≡ 4 + size_at bytes

-- how many bytes the unfinished frame is known to take
unfoldable pub needed : List ℕ → ℕ
needed bytes = if nat_lt (length bytes) 4 then 4 else if nat_lt (length bytes) 8 then 8 else 4 + size_at bytes

-- the bytes don't pass the end of the frame, where its sizes agree
abbrev pub EndsWithin : List ℕ → Type 0
EndsWithin bytes = 8 ≤ length bytes → 4 + size_at (drop 4 bytes) ≤ size_at bytes → length bytes ≤ 4 + size_at bytes

-- the first bytes of a frame show that it is whole, that it isn't yet, or what is wrong with its sizes
abbrev pub Judges : Result Bool Fault → List ℕ → Type 0
Judges (Ok whole) bytes = MatchBool whole (IsWhole bytes) (IsUnfinished bytes)
Judges (Err fault) bytes = (fault ≢ NoMemory) × IsFaulty fault bytes

-- how many bytes at the front of a stream are a whole frame, or what is wrong with their sizes; none says nothing
abbrev pub Fronts : Result (Option ℕ) Fault → List ℕ → Type 0
Fronts (Ok None) stream = Unit {0}
Fronts (Ok (Some size)) stream = (size ≤ length stream) × IsWhole (take size stream)
Fronts (Err fault) stream = (fault ≢ NoMemory) × IsFaulty fault stream

-- the bytes of a whole frame, wherever they stand
abbrev pub bytes_of : Whole → List ℕ
bytes_of (Lent piece) = piece.now
bytes_of (Own bytes) = bytes.items
