-- The commands of a client that looks for a topic's broker.
use Rattle.std.specs.Prelude.{ℕ, List, Result, Ok}
use Rattle.commands.specs.declared.fault.CommandFault.{CommandFault}
use Rattle.commands.specs.declared.lookup.PartitionedTopicMetadata.{PartitionedTopicMetadata}
use Rattle.commands.specs.declared.lookup.LookupTopic.{LookupTopic}
use Rattle.commands.specs.Reading.{◌>>=◌, required}
use Rattle.commands.specs.Message.{message_fields, u64_field, text_field}

unfoldable pub partitioned_topic_metadata_of : List ℕ → Result PartitionedTopicMetadata CommandFault
partitioned_topic_metadata_of bytes = do
  fields ← message_fields bytes
  topic ← text_field 1 fields >>= required
  request_id ← u64_field 2 fields >>= required
  Ok (record { topic = topic; request_id = request_id })

unfoldable pub lookup_topic_of : List ℕ → Result LookupTopic CommandFault
lookup_topic_of bytes = do
  fields ← message_fields bytes
  topic ← text_field 1 fields >>= required
  request_id ← u64_field 2 fields >>= required
  Ok (record { topic = topic; request_id = request_id })
