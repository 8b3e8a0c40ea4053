-- What a topic tells a session that asks for a message.
use Rattle.std.specs.Prelude.{◌≡◌, ℕ, cond, nat_eq, Option, Some, None, Result, Ok, Err}
use Rattle.gated_log.specs.declared.read_error.ReadError.{ReadError}
use Rattle.gated_log.specs.declared.read_error.ReadError.TheVariants.{Device, Damaged, NoMemory}
use Rattle.topic_core.specs.declared.dispatch.Outgoing.{Outgoing}
use Rattle.topic_core.specs.declared.dispatch.AtHand.{AtHand}
use Rattle.topic_core.specs.declared.dispatch.AtHand.TheVariants as at_hand
use Rattle.topic_core.specs.declared.read_at.ReadAt.{ReadAt}
use Rattle.topic_core.specs.State.{Topic}
use Rattle.topic_core.specs.Steps.{key_of}
use Rattle.topic_core.specs.Dispatch.{Admits, DispatchStep}
use Rattle.topic_lock.specs.declared.counted.Heard.{Heard}
use Rattle.topic_lock.specs.declared.counted.reading.StoresRead.{StoresRead}
use Rattle.topic_lock.specs.declared.counted.reading.Next.{Next}
use Rattle.topic_lock.specs.declared.counted.reading.Next.TheVariants as next

-- a message that can't be read is none for now; want of memory stays what it is
abbrev pub put_off : Result (Option Outgoing) ReadError → Result (Option Outgoing) ReadError
put_off (Ok sent) = Ok sent
put_off (Err NoMemory) = Err NoMemory
put_off (Err Device) = Ok None
put_off (Err (Damaged file offset)) = Ok None

-- what it has at hand, or the position that has to be read
abbrev pub next_of : Result AtHand ReadError → Result (Result (Option Outgoing) ReadError) ℕ
next_of (Ok at_hand.Nothing) = Ok (Ok None)
next_of (Ok (at_hand.Unread position)) = Err position
next_of (Ok (at_hand.Message outgoing)) = Ok (Ok (Some outgoing))
next_of (Err refused) = Ok (Err refused)

-- what was read, where it is of the stores of the topic of this number
abbrev pub own_read : ℕ → Option StoresRead → Option ReadAt
own_read topic None = None
own_read topic (Some read) = cond (nat_eq read.topic topic) (Some read.read) None

-- what holds of what was told, where nothing has to be read
abbrev pub IfHeard : Next → (Heard ℕ (Result (Option Outgoing) ReadError) → Type 0) → Type 0
IfHeard (next.Heard heard) Holds = Holds heard
IfHeard (next.Unread position) Holds = Unit {0}

-- a consumer is given what a dispatch gives, or the admitted position is told whose entry has to be read
abbrev pub NextStep : Topic → ℕ → ℕ → Next → Topic → Type 0
NextStep old who id (next.Heard heard) new = DispatchStep old who id heard.said new
NextStep old who id (next.Unread position) new = (new ≡ old) × Admits old (key_of who id) position
