-- A message id as a client names it.
use Rattle.std.specs.Prelude.{ℕ, List, unwrap_or, Result, Ok, negsuc}
use Rattle.ids.specs.declared.message_id.MessageIdData.{MessageIdData}
use Rattle.commands.specs.declared.fault.CommandFault.{CommandFault}
use Rattle.commands.specs.Reading.{◌>>=◌, required}
use Rattle.commands.specs.Message.{message_fields, u64_field, i32_field, has_field}

-- of the ack_set only whether it is there; -1 where a partition or a batch index isn't
unfoldable pub message_id_of : List ℕ → Result MessageIdData CommandFault
message_id_of bytes = do
  fields ← message_fields bytes
  ledger_id ← u64_field 1 fields >>= required
  entry_id ← u64_field 2 fields >>= required
  partition ← i32_field 3 fields
  batch_index ← i32_field 4 fields
  Ok (record {
    ledger_id = ledger_id;
    entry_id = entry_id;
    partition = unwrap_or partition (negsuc 0);
    batch_index = unwrap_or batch_index (negsuc 0);
    has_ack_set = has_field 5 fields;
  })
