-- What holds of positions and their names.
use Rattle.std.specs.Prelude.{ℕ, ◌+◌, ◌*◌, ◌<◌, ◌^◌, ◌≡◌, ◌↔◌, false, negsuc}
use Rattle.ids.specs.declared.message_id.MessageId.{MessageId}
use Rattle.ids.specs.declared.message_id.MessageIdData.{MessageIdData}
use Rattle.ids.specs.Ids.{message_id_at, IsWholeEntry, Names}

-- an id as a client names it that means the whole entry
abbrev pub named : MessageId → MessageIdData
named id = record { ledger_id = id.ledger_id; entry_id = id.entry_id; partition = negsuc 0; batch_index = negsuc 0; has_ack_set = false }

-- the id of a position, handed back, names it
abbrev pub EachIsNamed : Type 0
EachIsNamed = (n i : ℕ) → i < 2 ^ 63 → Names n (named (message_id_at n i)) i

-- a name stands for one position
abbrev pub OnePosition : Type 0
OnePosition = (n : ℕ) (id : MessageIdData) (i j : ℕ) → 0 < n → Names n id i → Names n id j → i ≡ j

-- no other id names a position
abbrev pub OneName : Type 0
OneName = (n : ℕ) (id : MessageIdData) (i : ℕ) → Names n id i → id ≡ named (message_id_at n i)

-- what a client names is ledger times n plus entry, where the entry is below n
pub record IsPlace (n : ℕ) (id : MessageIdData) (i : ℕ) : Type 0 where
  pub whole : IsWholeEntry id
  pub within : id.entry_id < n
  pub sum : i ≡ id.ledger_id * n + id.entry_id
  pub small : i < 2 ^ 63

abbrev pub ByArithmetic : Type 0
ByArithmetic = (n : ℕ) (id : MessageIdData) (i : ℕ) → 0 < n → Names n id i ↔ IsPlace n id i
