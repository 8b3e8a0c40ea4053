-- What a pump knows of the topic that it asked last.
use Rattle.std.specs.Prelude.{◌≡◌, ℕ, true, Option, IfSome}
use Rattle.session.specs.Broker.{Broker, IsQuiet}
use Rattle.session.specs.declared.asked.Asked.{Asked}

-- a topic that answered that it is quiet is so
abbrev pub Knows : ℕ → Broker → Option Asked → Type 0
Knows who b last = IfSome last (λ (asked : Asked). asked.is_quiet ≡ true → IsQuiet b asked.topic who)
