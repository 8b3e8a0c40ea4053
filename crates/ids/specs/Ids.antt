-- The message id of each position, where each ledger has n entries.
use Rattle.std.specs.Prelude.{ℕ, ◌/◌, ◌%◌, ◌<◌, ◌^◌, ◌≡◌, false, negsuc}
use Rattle.ids.specs.declared.message_id.MessageId.{MessageId}
use Rattle.ids.specs.declared.message_id.MessageIdData.{MessageIdData}

-- entry i of a topic is entry i mod n of ledger i div n
abbrev pub message_id_at : ℕ → ℕ → MessageId
message_id_at n i = record { ledger_id = i / n; entry_id = i % n }

-- a whole entry of no partition: both numbers are -1, and no ack_set is there
pub record IsWholeEntry (id : MessageIdData) : Type 0 where
  pub partition : id.partition ≡ negsuc 0
  pub batch_index : id.batch_index ≡ negsuc 0
  pub has_ack_set : id.has_ack_set ≡ false

-- the ledger and the entry that a client names
abbrev pub place_of : MessageIdData → MessageId
place_of id = record { ledger_id = id.ledger_id; entry_id = id.entry_id }

-- a client names position i
pub record Names (n : ℕ) (id : MessageIdData) (i : ℕ) : Type 0 where
  pub whole : IsWholeEntry id
  pub place : place_of id ≡ message_id_at n i
  pub small : i < 2 ^ 63
