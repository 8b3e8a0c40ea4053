-- Which fault ends a stream: what the bytes behind its last frame show.
use Rattle.std.specs.Prelude.{◌≡◌, ◌≢◌, ◌<◌, ◌≤◌, ℕ, ◌+◌, List, ◌++◌, length, drop, Ok, Err}
use Rattle.commands.specs.declared.command.Command.{Command}
use Rattle.commands.specs.declared.fault.CommandFault.TheVariants as command_fault
use Rattle.commands.specs.Commands.{command_of}
use Rattle.commands.specs.Metadata.{size_at}
use Rattle.frames.specs.declared.fault.Fault.{Fault}
use Rattle.frames.specs.declared.fault.Fault.TheVariants.{TooLarge, BadSizes, Unreadable, Missing, BadPayload, NoMemory}
use Rattle.frames.specs.declared.frame.FrameEntry.{FrameEntry}
use Rattle.frames.specs.Frames.{largest_size, IsSized, IsEntry}

-- the command's field is missing
abbrev pub IsMissing : List ℕ → Type 0
IsMissing command = command_of command ≡ Err command_fault.Missing

-- the bytes have no value as a command, and not for a missing field
pub record IsUnreadable (command : List ℕ) : Type 0 where
  pub no_value : (value : Command) → command_of command ≢ Ok value
  pub no_missing : ¬ IsMissing command

-- the command has a value, and what stands behind it is no entry for it
pub record IsBadPayload (command behind : List ℕ) : Type 0 where
  pub value : Command
  pub value_is : command_of command ≡ Ok value
  pub no_entry : (entry : FrameEntry) → ¬ IsEntry value behind entry

-- a whole frame by its sizes stands at the front, and P tells of its command and of what stands behind it
pub record FrontIs (P : List ℕ → List ℕ → Type 0) (rest : List ℕ) : Type 0 where
  pub front : List ℕ
  pub next : List ℕ
  pub command : List ℕ
  pub behind : List ℕ
  pub whole : rest ≡ front ++ next
  pub sized : IsSized front command behind
  pub is : P command behind

-- the size alone passes the limit
pub record IsTooLarge (rest : List ℕ) : Type 0 where
  pub known : 4 ≤ length rest
  pub large : largest_size < size_at rest

-- the sizes disagree: the command and its size don't fit in the frame
pub record AreBadSizes (rest : List ℕ) : Type 0 where
  pub known : 8 ≤ length rest
  pub small : size_at rest ≤ largest_size
  pub disagree : size_at rest < 4 + size_at (drop 4 rest)

-- the fault that the bytes behind the last frame show; want of memory shows in no bytes
abbrev pub IsFaulty : Fault → List ℕ → Type 0
IsFaulty TooLarge rest = IsTooLarge rest
IsFaulty BadSizes rest = AreBadSizes rest
IsFaulty Unreadable rest = FrontIs (λ command behind. IsUnreadable command) rest
IsFaulty Missing rest = FrontIs (λ command behind. IsMissing command) rest
IsFaulty BadPayload rest = FrontIs IsBadPayload rest
IsFaulty NoMemory rest = Unit {0}
