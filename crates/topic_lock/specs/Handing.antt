-- What a port over locks tells a session that asks it for a message.
use Rattle.std.specs.Prelude.{ℕ, Option, None, Result, Ok}
use Rattle.topic_core.specs.declared.dispatch.Outgoing.{Outgoing}
use Rattle.gated_log.specs.declared.read_error.ReadError.{ReadError}
use Rattle.topic_lock.specs.declared.handing.Handed.{Handed}
use Rattle.topic_lock.specs.declared.handing.Handed.TheVariants as handed

abbrev pub topic_of : Handed → ℕ
topic_of (handed.Heard heard) = heard.topic
topic_of (handed.Full topic who consumer_id) = topic

abbrev pub who_of : Handed → ℕ
who_of (handed.Heard heard) = heard.who
who_of (handed.Full topic who consumer_id) = who

abbrev pub asked_of : Handed → ℕ
asked_of (handed.Heard heard) = heard.asked.value
asked_of (handed.Full topic who consumer_id) = consumer_id

-- nothing, where the portion is handed out
abbrev pub said_of : Handed → Result (Option Outgoing) ReadError
said_of (handed.Heard heard) = heard.said
said_of (handed.Full topic who consumer_id) = Ok None

-- the topic was asked
abbrev pub IsHeard : Handed → Type 0
IsHeard (handed.Heard heard) = Unit {0}
IsHeard (handed.Full topic who consumer_id) = ⊥
