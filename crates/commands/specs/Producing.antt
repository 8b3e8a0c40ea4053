-- The commands of a producer.
use Rattle.std.specs.Prelude.{ℕ, List, unwrap_or, Result, Ok, pos}
use Rattle.commands.specs.declared.fault.CommandFault.{CommandFault}
use Rattle.commands.specs.declared.producing.Producer.{Producer}
use Rattle.commands.specs.declared.producing.Send.{Send}
use Rattle.commands.specs.declared.producing.CloseProducer.{CloseProducer}
use Rattle.commands.specs.Reading.{◌>>=◌, required}
use Rattle.commands.specs.Message.{message_fields, u64_field, i32_field, text_field}

unfoldable pub producer_of : List ℕ → Result Producer CommandFault
producer_of bytes = do
  fields ← message_fields bytes
  topic ← text_field 1 fields >>= required
  producer_id ← u64_field 2 fields >>= required
  request_id ← u64_field 3 fields >>= required
  producer_name ← text_field 4 fields
  Ok (record { topic = topic; producer_id = producer_id; request_id = request_id; producer_name = producer_name })

unfoldable pub send_of : List ℕ → Result Send CommandFault
send_of bytes = do
  fields ← message_fields bytes
  producer_id ← u64_field 1 fields >>= required
  sequence_id ← u64_field 2 fields >>= required
  num_messages ← i32_field 3 fields
  Ok (record { producer_id = producer_id; sequence_id = sequence_id; num_messages = unwrap_or num_messages (pos 1) })

unfoldable pub close_producer_of : List ℕ → Result CloseProducer CommandFault
close_producer_of bytes = do
  fields ← message_fields bytes
  producer_id ← u64_field 1 fields >>= required
  request_id ← u64_field 2 fields >>= required
  Ok (record { producer_id = producer_id; request_id = request_id })
