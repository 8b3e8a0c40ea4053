-- The topics of a session's consumers, which a pump asks.
use Rattle.std.specs.Prelude.{ℕ, List, All, Contains}
use Rattle.session.specs.Broker.{Broker, IsQuiet}
use Rattle.session.specs.declared.entry.Entry.{Entry}

-- each consumer's topic is among these
abbrev pub AreNoted : List ℕ → List Entry → Type 0
AreNoted topics consumers = All (λ (consumer : Entry). Contains topics consumer.topic) consumers

-- each of these topics has nothing for a session
abbrev pub AreQuiet : Broker → ℕ → List ℕ → Type 0
AreQuiet b who topics = All (λ topic. IsQuiet b topic who) topics
