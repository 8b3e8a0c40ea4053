-- The commands of a consumer.
use Rattle.std.specs.Prelude.{ℕ, List, unwrap_or, Result, Ok, Err, true, ◌==◌, if◌then◌else◌}
use Rattle.commands.specs.declared.fault.CommandFault.{CommandFault}
use Rattle.commands.specs.declared.fault.CommandFault.TheVariants.{Unreadable}
use Rattle.commands.specs.declared.consuming.SubscriptionType.{SubscriptionType}
use Rattle.commands.specs.declared.consuming.SubscriptionType.TheVariants.{Exclusive, Shared, Failover, KeyShared}
use Rattle.commands.specs.declared.consuming.InitialPosition.{InitialPosition}
use Rattle.commands.specs.declared.consuming.InitialPosition.TheVariants.{Latest, Earliest}
use Rattle.proto_fields.specs.declared.value.Field.{Field}
use Rattle.commands.specs.declared.consuming.Subscribe.{Subscribe}
use Rattle.commands.specs.declared.consuming.SubscribeNumbers.{SubscribeNumbers}
use Rattle.commands.specs.declared.consuming.AckType.{AckType}
use Rattle.commands.specs.declared.consuming.AckType.TheVariants.{Individual, Cumulative}
use Rattle.commands.specs.declared.consuming.Ack.{Ack}
use Rattle.commands.specs.declared.consuming.Flow.{Flow}
use Rattle.commands.specs.declared.consuming.Unsubscribe.{Unsubscribe}
use Rattle.commands.specs.Reading.{◌>>=◌, required}
use Rattle.commands.specs.Message.{message_fields, u64_field, u32_field, bool_field, text_field, message_value_field, repeated_field}
use Rattle.commands.specs.MessageIds.{message_id_of}
use Rattle.commands.specs.KeyShared.{key_shared_meta_of}

-- the subscription types by their numbers
abbrev pub subscription_type : ℕ → Result SubscriptionType CommandFault
subscription_type k =
    if k == 0 then Ok Exclusive
    else if k == 1 then Ok Shared
    else if k == 2 then Ok Failover
    else if k == 3 then Ok KeyShared
    else Err Unreadable

-- the initial positions by their numbers
abbrev pub initial_position : ℕ → Result InitialPosition CommandFault
initial_position k = if k == 0 then Ok Latest else if k == 1 then Ok Earliest else Err Unreadable

-- the kinds of acknowledgement by their numbers
abbrev pub ack_type : ℕ → Result AckType CommandFault
ack_type k = if k == 0 then Ok Individual else if k == 1 then Ok Cumulative else Err Unreadable

-- a SUBSCRIBE without its texts and its ranges
unfoldable pub subscribe_numbers : List Field → Result SubscribeNumbers CommandFault
subscribe_numbers fields = do
  kind ← u64_field 3 fields >>= required >>= subscription_type
  consumer_id ← u64_field 4 fields >>= required
  request_id ← u64_field 5 fields >>= required
  durable ← bool_field 8 fields
  start_message_id ← message_value_field message_id_of 9 fields
  position ← u64_field 13 fields
  initial ← initial_position (unwrap_or position 0)
  Ok (record {
    subscription_type = kind;
    consumer_id = consumer_id;
    request_id = request_id;
    durable = unwrap_or durable true;
    start_message_id = start_message_id;
    initial_position = initial;
  })

unfoldable pub subscribe_of : List ℕ → Result Subscribe CommandFault
subscribe_of bytes = do
  fields ← message_fields bytes
  numbers ← subscribe_numbers fields
  key_shared_meta ← message_value_field key_shared_meta_of 17 fields
  topic ← text_field 1 fields >>= required
  subscription ← text_field 2 fields >>= required
  Ok (record {
    topic = topic;
    subscription = subscription;
    subscription_type = numbers.subscription_type;
    consumer_id = numbers.consumer_id;
    request_id = numbers.request_id;
    durable = numbers.durable;
    start_message_id = numbers.start_message_id;
    initial_position = numbers.initial_position;
    key_shared_meta = key_shared_meta;
  })

unfoldable pub ack_of : List ℕ → Result Ack CommandFault
ack_of bytes = do
  fields ← message_fields bytes
  consumer_id ← u64_field 1 fields >>= required
  kind ← u64_field 2 fields >>= required >>= ack_type
  message_ids ← repeated_field message_id_of 3 fields
  request_id ← u64_field 8 fields
  Ok (record { consumer_id = consumer_id; ack_type = kind; message_ids = message_ids; request_id = request_id })

unfoldable pub flow_of : List ℕ → Result Flow CommandFault
flow_of bytes = do
  fields ← message_fields bytes
  consumer_id ← u64_field 1 fields >>= required
  message_permits ← u32_field 2 fields >>= required
  Ok (record { consumer_id = consumer_id; message_permits = message_permits })

unfoldable pub unsubscribe_of : List ℕ → Result Unsubscribe CommandFault
unsubscribe_of bytes = do
  fields ← message_fields bytes
  consumer_id ← u64_field 1 fields >>= required
  request_id ← u64_field 2 fields >>= required
  Ok (record { consumer_id = consumer_id; request_id = request_id })
