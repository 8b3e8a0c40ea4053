-- The names of a catalog.
use Rattle.std.specs.Prelude.{◌≡◌, ℕ, ◌≤◌, Bool, true, ◌&&◌, not, nat_lt, List, length, Option, position}
use Rattle.std.specs.List.{list_any, IsDistinct, AllByRecursion}
use Rattle.std.specs.Str.{bytes_eq}
use Rattle.names.specs.Names.{is_topic_name}

-- names of topics, each in the bytes of its text, in order of creation
abbrev pub Names : Type 0
Names = List (List ℕ)

-- our own rule: a catalog has at most 64 names of topics, which differ
pub record AreNames (names : Names) : Type 0 where
  pub few : length names ≤ 64
  pub topics : AllByRecursion (λ name. is_topic_name name ≡ true) names
  pub differ : IsDistinct bytes_eq names

-- a name is among them
abbrev pub has_name : Names → List ℕ → Bool
has_name names name = list_any (bytes_eq name) names

-- our own rule: a topic's number is the place of its name
abbrev pub number_of : Names → List ℕ → Option ℕ
number_of names name = position (bytes_eq name) names

-- the bytes may be the next name behind these
abbrev pub can_follow : Names → List ℕ → Bool
can_follow names body = nat_lt (length names) 64 && is_topic_name body && not (has_name names body)

-- our own rule: how many entries a ledger may have
abbrev pub IsPerLedger : ℕ → Type 0
IsPerLedger number = (1 ≤ number) × (number ≤ 50000)
