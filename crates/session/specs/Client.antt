-- A session, and how it writes.
use Rattle.std.specs.Prelude.{◌≡◌, ◌⊎◌, ℕ, Bool, false, Option, Some, None, List, [], ◌++◌}
use Rattle.std.specs.List.{flat_map, AllByRecursion}
use Rattle.commands.specs.declared.reply.Reply.{Reply}
use Rattle.commands.specs.Replies.{spelling}
use Rattle.frames.specs.Frames.{frame_bytes}
use Rattle.frames.specs.Laws.{IsTold}
use Rattle.frames.specs.Streams.{Progress, at_start}
use Rattle.topic_core.specs.declared.command.Answer.{Answer}
use Rattle.topic_core.specs.declared.command.Answer.TheVariants.{Now, Later, Nothing, NoMemory}
use Rattle.topic_core.specs.declared.dispatch.Outgoing.{Outgoing}
use Rattle.session.specs.Broker.{Broker, left_all}
use Rattle.session.specs.declared.entry.Entry.{Entry}
use Rattle.session.specs.declared.fault.Fault.{Fault}
use Rattle.session.specs.declared.fault.Fault.TheVariants as fault

pub record Client : Type 0 where
  pub number : ℕ
  pub progress : Progress  -- where its stream of bytes stands
  pub connected : Bool  -- whether CONNECT came
  pub producers : List Entry  -- the topic of each producer id
  pub consumers : List Entry  -- the topic of each consumer id, in rising id
  pub fault : Option Fault  -- why it ended

-- nothing has come
abbrev pub new_client : ℕ → Client
new_client number = record { number = number; progress = at_start; connected = false; producers = []; consumers = []; fault = None }

-- a session of which no more is known than its number and why it ended
abbrev pub speaking : ℕ → Option Fault → Client
speaking number fault = record { number = number; progress = at_start; connected = false; producers = []; consumers = []; fault = fault }

-- a session, the broker and the session's bytes out
pub record Play : Type 0 where
  pub client : Client
  pub broker : Broker
  pub out : List ℕ

abbrev pub play : Client → Broker → List ℕ → Play
play client broker out = record { client = client; broker = broker; out = out }

abbrev pub ended : Client → Fault → Client
ended c why = record c { fault = Some why }

-- the session ends
abbrev pub Ends : Play → Fault → Play → Type 0
Ends old why new = new ≡ record old { client = ended old.client why }

-- a session that has ended leaves each topic
abbrev pub left_if : Option Fault → Broker → ℕ → Broker
left_if None b who = b
left_if (Some why) b who = left_all b who

abbrev pub left_if_ended : Play → Play
left_if_ended p = record p { broker = left_if p.client.fault p.broker p.client.number }

-- a reply without an entry
abbrev pub plain : Reply → Outgoing
plain reply = record { reply = reply; entry = [] }

-- the bytes of what goes out: the reply's frame, with the entry behind it as it stands
abbrev pub frame_of : Outgoing → List ℕ
frame_of outgoing = frame_bytes (spelling outgoing.reply) outgoing.entry

abbrev pub frames_of : List Outgoing → List ℕ
frames_of outgoing = flat_map (λ one. frame_of one) outgoing

-- the reply's numbers and text have their bounds, and the entry can be written behind it
abbrev pub IsBounded : Outgoing → Type 0
IsBounded outgoing = IsTold (outgoing.reply, outgoing.entry)

abbrev pub AreBounded : List Outgoing → Type 0
AreBounded outgoing = AllByRecursion IsBounded outgoing

-- some frames are appended, each whole
pub record Writes (old new : List ℕ) : Type 0 where
  pub outgoing : List Outgoing
  pub bounded : AreBounded outgoing
  pub are : new ≡ old ++ frames_of outgoing

-- what holds of every call, whoever else uses the broker: the session's number stays, and it writes whole frames
pub record Speaks (old : Client) (out : List ℕ) (new : Client) (out' : List ℕ) : Type 0 where
  pub number : new.number ≡ old.number
  pub writes : Writes out out'

-- something goes out; or it finds no memory, which ends the session
abbrev pub Says : Client → List ℕ → Outgoing → Client → List ℕ → Type 0
Says old out outgoing new out' = ((new ≡ old) × (out' ≡ out ++ frame_of outgoing) × IsBounded outgoing) ⊎ ((new ≡ ended old fault.NoMemory) × (out' ≡ out))

-- the session says this by itself
abbrev pub SaysAlone : Play → Reply → Play → Type 0
SaysAlone old reply new = Says old.client old.out (plain reply) new.client new.out × (new.broker ≡ old.broker)

-- a topic's answer goes out
abbrev pub Answered : Client → List ℕ → Answer → Client → List ℕ → Type 0
Answered old out (Now reply) new out' = Says old out (plain reply) new out'
Answered old out Later new out' = (new ≡ old) × (out' ≡ out)
Answered old out Nothing new out' = (new ≡ old) × (out' ≡ out)
Answered old out NoMemory new out' = (new ≡ ended old fault.NoMemory) × (out' ≡ out)
