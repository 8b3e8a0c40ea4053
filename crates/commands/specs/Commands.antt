-- The value of a command's bytes: the command that its last type names.
use Rattle.std.specs.Prelude.{ℕ, List, Option, Some, None, Result, Ok, ◌==◌, if◌then◌else◌}
use Rattle.proto_fields.specs.declared.value.Field.{Field}
use Rattle.commands.specs.declared.fault.CommandFault.{CommandFault}
use Rattle.commands.specs.declared.command.Command.{Command}
use Rattle.commands.specs.declared.command.Command.TheVariants as command
use Rattle.commands.specs.declared.command.CommandType.{CommandType}
use Rattle.commands.specs.declared.command.CommandType.TheVariants.{Connect, Subscribe, Producer, Send, Ack, Flow, Unsubscribe, CloseProducer, CloseConsumer, Ping, Pong, RedeliverUnacknowledgedMessages, PartitionedMetadata, Lookup}
use Rattle.commands.specs.Reading.{◌>>=◌, required, present}
use Rattle.commands.specs.Message.{message_fields, u64_field, message_field}
use Rattle.commands.specs.Connection.{connect_of, empty_of}
use Rattle.commands.specs.Producing.{producer_of, send_of, close_producer_of}
use Rattle.commands.specs.Consuming.{subscribe_of, ack_of, flow_of, unsubscribe_of}
use Rattle.commands.specs.GivingBack.{close_consumer_of, redeliver_of}
use Rattle.commands.specs.Lookup.{partitioned_topic_metadata_of, lookup_topic_of}
pub use Rattle.commands.specs.Metadata.{size_at, entry_of}

-- the client commands by their numbers
abbrev pub command_type : ℕ → Option CommandType
command_type k =
    if k == 2 then Some Connect
    else if k == 4 then Some Subscribe
    else if k == 5 then Some Producer
    else if k == 6 then Some Send
    else if k == 10 then Some Ack
    else if k == 11 then Some Flow
    else if k == 12 then Some Unsubscribe
    else if k == 15 then Some CloseProducer
    else if k == 16 then Some CloseConsumer
    else if k == 18 then Some Ping
    else if k == 19 then Some Pong
    else if k == 20 then Some RedeliverUnacknowledgedMessages
    else if k == 21 then Some PartitionedMetadata
    else if k == 23 then Some Lookup
    else None

-- the command of this type, by its field's bytes
unfoldable pub command_in : CommandType → List ℕ → Result Command CommandFault
command_in Connect body = connect_of body >>= λ c. Ok (command.Connect c)
command_in Subscribe body = subscribe_of body >>= λ c. Ok (command.Subscribe c)
command_in Producer body = producer_of body >>= λ c. Ok (command.Producer c)
command_in Send body = send_of body >>= λ c. Ok (command.Send c)
command_in Ack body = ack_of body >>= λ c. Ok (command.Ack c)
command_in Flow body = flow_of body >>= λ c. Ok (command.Flow c)
command_in Unsubscribe body = unsubscribe_of body >>= λ c. Ok (command.Unsubscribe c)
command_in CloseProducer body = close_producer_of body >>= λ c. Ok (command.CloseProducer c)
command_in CloseConsumer body = close_consumer_of body >>= λ c. Ok (command.CloseConsumer c)
command_in Ping body = empty_of body >>= λ c. Ok command.Ping
command_in Pong body = empty_of body >>= λ c. Ok command.Pong
command_in RedeliverUnacknowledgedMessages body = redeliver_of body >>= λ c. Ok (command.RedeliverUnacknowledgedMessages c)
command_in PartitionedMetadata body = partitioned_topic_metadata_of body >>= λ c. Ok (command.PartitionedMetadata c)
command_in Lookup body = lookup_topic_of body >>= λ c. Ok (command.Lookup c)

-- the value of field k where the last type k is a client command's; else the number k alone
abbrev pub command_by : ℕ → List Field → Option CommandType → Result Command CommandFault
command_by k fields None = Ok (command.Other k)
command_by k fields (Some kind) = message_field k fields >>= present >>= command_in kind

unfoldable pub command_of : List ℕ → Result Command CommandFault
command_of bytes = do
  fields ← message_fields bytes
  k ← u64_field 1 fields >>= required
  command_by k fields (command_type k)
