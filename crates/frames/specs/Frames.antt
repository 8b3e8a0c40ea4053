-- The frames of the Pulsar binary protocol: which bytes are a frame, and what they say.
use Rattle.std.specs.Prelude.{◌≡◌, ◌≤◌, ℕ, ◌+◌, List, [], ◌∷◌, ◌++◌, length, take, Ok}
use Rattle.std.specs.Int.{w32, from_be_bytes, to_be_bytes}
use Rattle.commands.specs.declared.command.Command.{Command}
use Rattle.commands.specs.declared.command.Command.TheVariants.{Connect, Subscribe, Producer, Send, Ack, Flow, Unsubscribe, CloseProducer, CloseConsumer, Ping, Pong, RedeliverUnacknowledgedMessages, PartitionedMetadata, Lookup, Other}
use Rattle.commands.specs.declared.metadata.MessageMeta.{MessageMeta}
use Rattle.commands.specs.Commands.{command_of}
use Rattle.commands.specs.Metadata.{meta_of}
use Rattle.frames.specs.declared.frame.Frame.{Frame}
use Rattle.frames.specs.declared.frame.FrameEntry.{FrameEntry}
use Rattle.frames.specs.declared.frame.FrameEntry.TheVariants.{Nothing, Checksummed, Entry}

-- the largest size that a frame may tell, which counts all bytes behind itself
abbrev pub largest_size : ℕ
largest_size = 5242880

-- two sizes, each in four bytes with the high byte first, then a command and what stands behind it
pub record IsSized (bytes command behind : List ℕ) : Type 0 where
  pub size : List ℕ
  pub command_size : List ℕ
  pub whole : bytes ≡ size ++ command_size ++ command ++ behind
  pub size_width : length size ≡ 4
  pub command_size_width : length command_size ≡ 4
  pub size_is : from_be_bytes w32 size ≡ 4 + length command + length behind
  pub command_size_is : from_be_bytes w32 command_size ≡ length command
  pub small : from_be_bytes w32 size ≤ largest_size

-- these two bytes tell that a checksum comes
abbrev pub IsChecksummed : List ℕ → Type 0
IsChecksummed behind = take 2 behind ≡ 14 ∷ 1 ∷ []

-- an entry: the size of its metadata in four bytes, the metadata, and the payload
pub record HasMetadata (entry : List ℕ) (metadata : MessageMeta) : Type 0 where
  pub size : List ℕ
  pub meta : List ℕ
  pub payload : List ℕ
  pub whole : entry ≡ size ++ meta ++ payload
  pub size_width : length size ≡ 4
  pub size_is : from_be_bytes w32 size ≡ length meta
  pub meta_is : meta_of meta ≡ Ok metadata

-- what stands behind a SEND: a checksum, or an entry as it stands
abbrev pub IsSendEntry : List ℕ → FrameEntry → Type 0
IsSendEntry behind Nothing = ⊥
IsSendEntry behind Checksummed = IsChecksummed behind
IsSendEntry behind (Entry entry) = ¬ IsChecksummed behind × (entry.bytes ≡ behind) × HasMetadata behind entry.metadata

-- behind another client command there is nothing
abbrev pub IsNothing : List ℕ → FrameEntry → Type 0
IsNothing behind entry = (behind ≡ []) × (entry ≡ Nothing)

-- what stands behind a command; behind one of another type nothing is read
abbrev pub IsEntry : Command → List ℕ → FrameEntry → Type 0
IsEntry (Send c) behind entry = IsSendEntry behind entry
IsEntry (Other k) behind entry = entry ≡ Nothing
IsEntry (Connect c) behind entry = IsNothing behind entry
IsEntry (Subscribe c) behind entry = IsNothing behind entry
IsEntry (Producer c) behind entry = IsNothing behind entry
IsEntry (Ack c) behind entry = IsNothing behind entry
IsEntry (Flow c) behind entry = IsNothing behind entry
IsEntry (Unsubscribe c) behind entry = IsNothing behind entry
IsEntry (CloseProducer c) behind entry = IsNothing behind entry
IsEntry (CloseConsumer c) behind entry = IsNothing behind entry
IsEntry Ping behind entry = IsNothing behind entry
IsEntry Pong behind entry = IsNothing behind entry
IsEntry (RedeliverUnacknowledgedMessages c) behind entry = IsNothing behind entry
IsEntry (PartitionedMetadata c) behind entry = IsNothing behind entry
IsEntry (Lookup c) behind entry = IsNothing behind entry

-- the bytes are this frame, all of them
pub record IsFrame (bytes : List ℕ) (frame : Frame) : Type 0 where
  pub command : List ℕ
  pub behind : List ℕ
  pub sized : IsSized bytes command behind
  pub command_is : command_of command ≡ Ok frame.command
  pub entry_is : IsEntry frame.command behind frame.entry

-- the frame of a command's bytes and an entry's
abbrev pub frame_bytes : List ℕ → List ℕ → List ℕ
frame_bytes command entry = to_be_bytes w32 (4 + length command + length entry) ++ to_be_bytes w32 (length command) ++ command ++ entry
