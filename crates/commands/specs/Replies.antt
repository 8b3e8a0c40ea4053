-- The one spelling of each reply: its fields by rising number.
use Rattle.std.specs.Prelude.{ℕ, ◌+◌, ◌*◌, List, [], ◌∷◌, ◌++◌, Option, Some, None, Result, Ok, Err, codes, ◌==◌, if◌then◌else◌}
use Rattle.std.specs.List.{flat_map}
use Rattle.std.specs.Int.{w32, w64, to_le_bytes}
use Rattle.proto_fields.specs.declared.value.Field.{Field}
use Rattle.proto_fields.specs.declared.value.Value.{Value}
use Rattle.proto_fields.specs.declared.value.Value.TheVariants.{Varint, Fixed64, Bytes, Fixed32}
use Rattle.proto_fields.specs.Spelling.{varint, number_field, bytes_field}
use Rattle.commands.specs.declared.reply.Reply.{Reply}
use Rattle.commands.specs.declared.reply.Reply.TheVariants.{Connected, SendReceipt, SendError, Message, Success, Error, ProducerSuccess, Pong, PartitionedMetadataResponse, LookupResponse, AckResponse}
use Rattle.ids.specs.declared.message_id.MessageId.{MessageId}
use Rattle.commands.specs.declared.server_error.ServerError.{ServerError}
use Rattle.commands.specs.declared.server_error.ServerError.TheVariants.{PersistenceError, ConsumerBusy, ChecksumError, ConsumerNotFound, TooManyRequests, ProducerBusy, InvalidTopicName, ConsumerAssignError, NotAllowedError}

-- the number of an error
abbrev pub error_code : ServerError → ℕ
error_code PersistenceError = 2
error_code ConsumerBusy = 5
error_code ChecksumError = 9
error_code ConsumerNotFound = 13
error_code TooManyRequests = 14
error_code ProducerBusy = 16
error_code InvalidTopicName = 17
error_code ConsumerAssignError = 19
error_code NotAllowedError = 22

-- its name, which stands as the message
abbrev pub error_name : ServerError → List ℕ
error_name PersistenceError = codes "PersistenceError"
error_name ConsumerBusy = codes "ConsumerBusy"
error_name ChecksumError = codes "ChecksumError"
error_name ConsumerNotFound = codes "ConsumerNotFound"
error_name TooManyRequests = codes "TooManyRequests"
error_name ProducerBusy = codes "ProducerBusy"
error_name InvalidTopicName = codes "InvalidTopicName"
error_name ConsumerAssignError = codes "ConsumerAssignError"
error_name NotAllowedError = codes "NotAllowedError"

-- a field that holds a number
abbrev pub number : ℕ → ℕ → Field
number k n = record { number = k; value = Varint n }

-- a field that holds a text or an embedded message
abbrev pub content : ℕ → List ℕ → Field
content k bytes = record { number = k; value = Bytes bytes }

-- the shortest spelling of a value in the field of this number
abbrev pub value_spelling : ℕ → Value → List ℕ
value_spelling k (Varint n) = number_field k n
value_spelling k (Fixed64 n) = varint (8 * k + 1) ++ to_le_bytes w64 n
value_spelling k (Bytes bytes) = bytes_field k bytes
value_spelling k (Fixed32 n) = varint (8 * k + 5) ++ to_le_bytes w32 n

-- the shortest spelling of a field
abbrev pub field_spelling : Field → List ℕ
field_spelling field = value_spelling field.number field.value

-- the fields of a message, one after another
abbrev pub message_spelling : List Field → List ℕ
message_spelling fields = flat_map field_spelling fields

abbrev pub id_fields : MessageId → List Field
id_fields id = number 1 id.ledger_id ∷ number 2 id.entry_id ∷ []

-- the type of a reply, and the field that it stands in
abbrev pub reply_type : Reply → ℕ
reply_type Connected = 3
reply_type (SendReceipt producer_id sequence_id id) = 7
reply_type (SendError producer_id sequence_id error) = 8
reply_type (Message consumer_id id redelivery_count) = 9
reply_type (Success request_id) = 13
reply_type (Error request_id error) = 14
reply_type (ProducerSuccess request_id producer_name) = 17
reply_type Pong = 19
reply_type (PartitionedMetadataResponse request_id error) = 22
reply_type (LookupResponse request_id service_url) = 24
reply_type (AckResponse consumer_id error request_id) = 38

-- how often a message was sent before, unless it is the first time
abbrev pub count_fields : ℕ → List Field
count_fields count = if count == 0 then [] else (number 3 count ∷ [])

-- the error of a refused acknowledgement
abbrev pub refusal_fields : Option ServerError → List Field
refusal_fields None = []
refusal_fields (Some error) = number 4 (error_code error) ∷ content 5 (error_name error) ∷ []

-- a topic has 0 partitions and the response is Success, 0; or the response is Failed, 1, with the error
abbrev pub partition_fields : ℕ → Option ServerError → List Field
partition_fields request_id None = number 1 0 ∷ number 2 request_id ∷ number 3 0 ∷ []
partition_fields request_id (Some error) = number 2 request_id ∷ number 3 1 ∷ number 4 (error_code error) ∷ content 5 (error_name error) ∷ []

-- the broker's URL, the response is Connect, 1, and the broker is the topic's own; or the response is Failed, 2, with the error
abbrev pub lookup_fields : ℕ → Result (List ℕ) ServerError → List Field
lookup_fields request_id (Ok service_url) = content 1 service_url ∷ number 3 1 ∷ number 4 request_id ∷ number 5 1 ∷ []
lookup_fields request_id (Err error) = number 3 2 ∷ number 4 request_id ∷ number 6 (error_code error) ∷ content 7 (error_name error) ∷ []

-- the fields of a reply
unfoldable pub fields_in : Reply → List Field
fields_in Connected = content 1 (codes "node-1") ∷ number 2 5 ∷ number 3 1048576 ∷ []
fields_in (SendReceipt producer_id sequence_id id) = number 1 producer_id ∷ number 2 sequence_id ∷ content 3 (message_spelling (id_fields id)) ∷ []
fields_in (SendError producer_id sequence_id error) = number 1 producer_id ∷ number 2 sequence_id ∷ number 3 (error_code error) ∷ content 4 (error_name error) ∷ []
fields_in (Message consumer_id id redelivery_count) = number 1 consumer_id ∷ content 2 (message_spelling (id_fields id)) ∷ count_fields redelivery_count
fields_in (Success request_id) = number 1 request_id ∷ []
fields_in (Error request_id error) = number 1 request_id ∷ number 2 (error_code error) ∷ content 3 (error_name error) ∷ []
fields_in (ProducerSuccess request_id producer_name) = number 1 request_id ∷ content 2 producer_name ∷ []
fields_in Pong = []
fields_in (PartitionedMetadataResponse request_id error) = partition_fields request_id error
fields_in (LookupResponse request_id service_url) = lookup_fields request_id service_url
fields_in (AckResponse consumer_id error request_id) = number 1 consumer_id ∷ (refusal_fields error ++ number 6 request_id ∷ [])

-- the bytes of a reply's fields
abbrev pub reply_fields : Reply → List ℕ
reply_fields reply = message_spelling (fields_in reply)

-- the fields of the whole: its type k, and field k
abbrev pub frame_fields : Reply → List Field
frame_fields reply = number 1 (reply_type reply) ∷ content (reply_type reply) (reply_fields reply) ∷ []

-- the bytes of a reply
unfoldable pub spelling : Reply → List ℕ
spelling reply = message_spelling (frame_fields reply)
