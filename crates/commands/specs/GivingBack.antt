-- The commands by which a consumer gives back what it holds.
use Rattle.std.specs.Prelude.{ℕ, List, Result, Ok}
use Rattle.commands.specs.declared.fault.CommandFault.{CommandFault}
use Rattle.commands.specs.declared.giving_back.CloseConsumer.{CloseConsumer}
use Rattle.commands.specs.declared.giving_back.Redeliver.{Redeliver}
use Rattle.commands.specs.Reading.{◌>>=◌, required}
use Rattle.commands.specs.Message.{message_fields, u64_field, repeated_field}
use Rattle.commands.specs.MessageIds.{message_id_of}

unfoldable pub close_consumer_of : List ℕ → Result CloseConsumer CommandFault
close_consumer_of bytes = do
  fields ← message_fields bytes
  consumer_id ← u64_field 1 fields >>= required
  request_id ← u64_field 2 fields >>= required
  Ok (record { consumer_id = consumer_id; request_id = request_id })

unfoldable pub redeliver_of : List ℕ → Result Redeliver CommandFault
redeliver_of bytes = do
  fields ← message_fields bytes
  consumer_id ← u64_field 1 fields >>= required
  message_ids ← repeated_field message_id_of 2 fields
  Ok (record { consumer_id = consumer_id; message_ids = message_ids })
