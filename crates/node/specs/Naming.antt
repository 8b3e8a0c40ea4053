-- Names that a broker has, and gains.
use Rattle.std.specs.Prelude.{◌≡◌, ◌⊎◌, ℕ, Option, Some, List, ◌++◌, length, map, All, Contains, IfSome}
use Rattle.managed_ledger.specs.Entries.{Ledger}
use Rattle.records.specs.Maps.{Kept}
use Rattle.topic_core.specs.Crashes.{IsLeft}
use Rattle.session.specs.Broker.{Broker, fresh, topic_at}

-- each topic has its name, and a ledger id of it has as many entry ids as the broker says
pub record IsFormed (b : Broker) : Type 0 where
  pub named : length b.topics ≡ length b.names
  pub ledgers : (number : ℕ) → (topic_at b number).per_ledger ≡ b.per_ledger

-- with these names more, each of a fresh topic, and with this one in doubt
abbrev pub with_names : Broker → List (List ℕ) → Option (List ℕ) → Broker
with_names b more doubt = record b { names = b.names ++ more; doubtful = doubt; topics = b.topics ++ map (λ _. fresh b.per_ledger) more }

-- one of these names, or the one that was in doubt
abbrev pub IsOneOf : List (List ℕ) → Broker → List ℕ → Type 0
IsOneOf names old name = Contains names name ⊎ (old.doubtful ≡ Some name)

-- topics of such names are made, and whether one more is there may be in doubt
pub record Gains (names : List (List ℕ)) (old new : Broker) : Type 0 where
  pub more : List (List ℕ)
  pub doubt : Option (List ℕ)
  pub gained : new ≡ with_names old more doubt
  pub asked : All (IsOneOf names old) more
  pub doubted : IfSome doubt (IsOneOf names old)

-- What a crash leaves of each topic it left before, and what it leaves of one that was made it leaves of a fresh one. Names are behind
-- those of before; they, and the one in doubt, are of these, or the one that was in doubt.
pub record Grows (names : List (List ℕ)) (old new : Broker) : Type 0 where
  pub per_ledger : new.per_ledger ≡ old.per_ledger
  pub service_url : new.service_url ≡ old.service_url
  pub more : List (List ℕ)
  pub added : new.names ≡ old.names ++ more
  pub asked : All (IsOneOf names old) more
  pub doubted : IfSome new.doubtful (IsOneOf names old)
  pub left : (number : ℕ) (ledger : Ledger) (kept : Kept) → IsLeft (topic_at new number) ledger kept → IsLeft (topic_at old number) ledger kept
