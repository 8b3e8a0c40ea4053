-- The metadata of an entry.
use Rattle.std.specs.Prelude.{ℕ, ◌-◌, nat_lt, length, take, drop, List, unwrap_or, Result, Ok, Err, if◌then◌else◌, pos}
use Rattle.std.specs.Int.{w32, from_be_bytes}
use Rattle.commands.specs.declared.fault.CommandFault.{CommandFault}
use Rattle.commands.specs.declared.fault.CommandFault.TheVariants.{Unreadable}
use Rattle.commands.specs.declared.metadata.MessageMeta.{MessageMeta}
use Rattle.commands.specs.Reading.{◌>>=◌, required}
use Rattle.commands.specs.Message.{message_fields, u64_field, i32_field, i64_field, bytes_field, text_field}

unfoldable pub meta_of : List ℕ → Result MessageMeta CommandFault
meta_of bytes = do
  fields ← message_fields bytes
  sequence_id ← u64_field 2 fields >>= required
  publish_time ← u64_field 3 fields >>= required
  compression ← u64_field 8 fields
  num_messages_in_batch ← i32_field 11 fields
  deliver_at_time ← i64_field 19 fields
  producer_name ← text_field 1 fields >>= required
  partition_key ← text_field 6 fields
  ordering_key ← bytes_field 18 fields
  Ok (record {
    producer_name = producer_name;
    sequence_id = sequence_id;
    publish_time = publish_time;
    partition_key = partition_key;
    compression = unwrap_or compression 0;
    num_messages_in_batch = unwrap_or num_messages_in_batch (pos 1);
    ordering_key = ordering_key;
    deliver_at_time = deliver_at_time;
  })

-- the number that the first four bytes spell, the high byte first
abbrev pub size_at : List ℕ → ℕ
size_at bytes = from_be_bytes w32 (take 4 bytes)

-- the metadata inside an entry: a size, metadata of that size, and the payload
unfoldable pub entry_of : List ℕ → Result MessageMeta CommandFault
entry_of bytes =
    if nat_lt (length bytes) 4 then Err Unreadable
    else if nat_lt (length bytes - 4) (size_at bytes) then Err Unreadable
    else meta_of (take (size_at bytes) (drop 4 bytes))
