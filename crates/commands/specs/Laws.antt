-- What holds of commands and replies, in the words of the standard.
use Rattle.std.specs.Prelude.{◌≡◌, ◌≢◌, ◌<◌, ◌≤◌, ◌^◌, ◌↔◌, ◌==◌, ℕ, List, [], ◌∷◌, ◌++◌, length, map, filter, Some, None, MatchOption, IsSome, Result, Ok, Err, IsOk, IfOk, All, false, ⊤}
use Rattle.std.specs.Int.{w32, from_be_bytes}
use Rattle.std.specs.List.Sorted.{IsStrictlyIncreasing}
use Rattle.std.specs.Result.{result_unwrap_or}
use Rattle.std.specs.List.{flat_map}
use Rattle.proto_fields.specs.declared.value.Field.{Field}
use Rattle.proto_fields.specs.declared.value.Value.{Value}
use Rattle.proto_fields.specs.declared.value.Value.TheVariants.{Varint, Fixed64, Bytes, Fixed32}
use Rattle.proto_fields.specs.Fields.{IsFieldNumber, FieldsOf}
use Rattle.commands.specs.declared.fault.CommandFault.{CommandFault}
use Rattle.commands.specs.declared.fault.CommandFault.TheVariants.{Missing}
use Rattle.commands.specs.declared.command.Command.{Command}
use Rattle.commands.specs.declared.command.Command.TheVariants.{Other}
use Rattle.commands.specs.declared.metadata.MessageMeta.{MessageMeta}
use Rattle.commands.specs.declared.reply.Reply.{Reply}
use Rattle.commands.specs.declared.reply.Reply.TheVariants.{Connected, SendReceipt, SendError, Message, Success, Error, ProducerSuccess, Pong, PartitionedMetadataResponse, LookupResponse, AckResponse}
use Rattle.commands.specs.Message.{varint_of, content_of, u64_field, bytes_field, message_field, repeated_field, has_field}
use Rattle.commands.specs.MessageIds.{message_id_of}
use Rattle.commands.specs.KeyShared.{int_range_of}
use Rattle.commands.specs.Metadata.{meta_of, entry_of}
use Rattle.commands.specs.Commands.{command_type, command_in, command_of}
use Rattle.commands.specs.Replies.{number, content, message_spelling, reply_type, fields_in, reply_fields, spelling}

-- a value within its kind
abbrev pub FitsKind : Value → Type 0
FitsKind (Varint n) = n < 2 ^ 64
FitsKind (Fixed64 n) = n < 2 ^ 64
FitsKind (Bytes bytes) = length bytes < 2 ^ 64
FitsKind (Fixed32 n) = n < 2 ^ 32

-- a field that can be written
pub record IsWritable (field : Field) : Type 0 where
  pub number : IsFieldNumber field.number
  pub value : FitsKind field.value

-- the bytes of a reply are two fields, its type k and field k, whose content is the reply's own fields by rising number
pub record IsSpelled (reply : Reply) : Type 0 where
  pub whole : FieldsOf (spelling reply) (number 1 (reply_type reply) ∷ content (reply_type reply) (reply_fields reply) ∷ [])
  pub fields : FieldsOf (reply_fields reply) (fields_in reply)
  pub rising : IsStrictlyIncreasing (map (λ field. field.number) (fields_in reply))

-- fields that are written are the fields of the bytes, and so are those of each reply
pub record SpellsFields : Type 0 where
  pub messages : (fields : List Field) → All IsWritable fields → FieldsOf (message_spelling fields) fields
  pub replies : (reply : Reply) → All IsWritable (fields_in reply) → length (reply_fields reply) < 2 ^ 64 → IsSpelled reply

-- a reply as it is built: its numbers have 64 bits, and its text has its bound
abbrev pub IsBuilt : Reply → Type 0
IsBuilt Connected = ⊤
IsBuilt (SendReceipt producer_id sequence_id id) = (producer_id < 2 ^ 64) × (sequence_id < 2 ^ 64) × (id.ledger_id < 2 ^ 64) × (id.entry_id < 2 ^ 64)
IsBuilt (SendError producer_id sequence_id error) = (producer_id < 2 ^ 64) × (sequence_id < 2 ^ 64)
IsBuilt (Message consumer_id id redelivery_count) = (consumer_id < 2 ^ 64) × (id.ledger_id < 2 ^ 64) × (id.entry_id < 2 ^ 64) × (redelivery_count < 2 ^ 32)
IsBuilt (Success request_id) = request_id < 2 ^ 64
IsBuilt (Error request_id error) = request_id < 2 ^ 64
IsBuilt (ProducerSuccess request_id producer_name) = (request_id < 2 ^ 64) × (length producer_name ≤ 65535)
IsBuilt Pong = ⊤
IsBuilt (PartitionedMetadataResponse request_id error) = request_id < 2 ^ 64
IsBuilt (LookupResponse request_id service_url) = (request_id < 2 ^ 64) × IfOk service_url (λ url. length url ≤ 65535)
IsBuilt (AckResponse consumer_id error request_id) = (consumer_id < 2 ^ 64) × (request_id < 2 ^ 64)

-- the bytes of a reply tell which reply it is
abbrev pub TellsReplies : Type 0
TellsReplies = (reply other : Reply) → IsBuilt reply → IsBuilt other → spelling reply ≡ spelling other → reply ≡ other

-- the last field of this number holds x; each of them has the wire type
pub record IsLast {A : Type 0} (kind : Value → Result A CommandFault) (k : ℕ) (fields : List Field) (x : A) : Type 0 where
  pub before : List Field
  pub field : Field
  pub behind : List Field
  pub split : fields ≡ before ++ field ∷ behind
  pub number_is : field.number ≡ k
  pub value_is : kind field.value ≡ Ok x
  pub kinds : All (λ other. other.number ≡ k → IsOk (kind other.value)) before
  pub no_later : All (λ other. other.number ≢ k) behind

-- no field has this number
abbrev pub IsAbsent : ℕ → List Field → Type 0
IsAbsent k fields = All (λ field. field.number ≢ k) fields

-- the content of a field
abbrev pub content_in : Field → List ℕ
content_in field = result_unwrap_or (content_of field.value) []

-- the fields of this number, in order
abbrev pub of_number : ℕ → List Field → List Field
of_number k fields = filter (λ field. field.number == k) fields

-- the contents of the fields of this number, one after another; there is one, and each of them has the wire type
pub record IsJoined (k : ℕ) (fields : List Field) (body : List ℕ) : Type 0 where
  pub present : of_number k fields ≢ []
  pub kinds : All (λ field. field.number ≡ k → IsOk (content_of field.value)) fields
  pub body_is : body ≡ flat_map content_in (of_number k fields)

-- the contents of the fields of this number, in order; each of them has the wire type
pub record IsListed (k : ℕ) (fields : List Field) (parts : List (List ℕ)) : Type 0 where
  pub kinds : All (λ field. field.number ≡ k → IsOk (content_of field.value)) fields
  pub parts_are : parts ≡ map content_in (of_number k fields)

-- a repeated field has the values of its contents, each by itself, in order
abbrev pub ReadsEach : {A : Type 0} → (List ℕ → Result A CommandFault) → Type 0
ReadsEach {A} read = (k : ℕ) (values : List A) (fields : List Field) →
    (repeated_field read k fields ≡ Ok values) ↔ ((parts : List (List ℕ)) × IsListed k fields parts × (map read parts ≡ map (λ value. Ok value) values))

-- of a scalar the last occurrence counts, of an embedded message all of them as one, of a repeated one each by itself
pub record ReadsOccurrences : Type 0 where
  pub numbers : (k n : ℕ) (fields : List Field) → (u64_field k fields ≡ Ok (Some n)) ↔ IsLast varint_of k fields n
  pub contents : (k : ℕ) (bytes : List ℕ) (fields : List Field) → (bytes_field k fields ≡ Ok (Some bytes)) ↔ IsLast content_of k fields bytes
  pub messages : (k : ℕ) (body : List ℕ) (fields : List Field) → (message_field k fields ≡ Ok (Some body)) ↔ IsJoined k fields body
  pub no_number : (k : ℕ) (fields : List Field) → (u64_field k fields ≡ Ok None) ↔ IsAbsent k fields
  pub no_content : (k : ℕ) (fields : List Field) → (bytes_field k fields ≡ Ok None) ↔ IsAbsent k fields
  pub no_message : (k : ℕ) (fields : List Field) → (message_field k fields ≡ Ok None) ↔ IsAbsent k fields
  pub message_ids : ReadsEach message_id_of
  pub ranges : ReadsEach int_range_of
  pub not_there : (k : ℕ) (fields : List Field) → (has_field k fields ≡ false) ↔ IsAbsent k fields

-- the bytes are these fields, and their last type is k
pub record IsOfType (k : ℕ) (bytes : List ℕ) (fields : List Field) : Type 0 where
  pub fields_are : FieldsOf bytes fields
  pub type_is : IsLast varint_of 1 fields k

-- the bytes are a command: its type is the last one, and its content that of field k, all of its occurrences joined
abbrev pub IsCommand : List ℕ → Command → Type 0
IsCommand bytes command = (k : ℕ) × (fields : List Field) × IsOfType k bytes fields
    × MatchOption (command_type k) (command ≡ Other k) (λ kind. (body : List ℕ) × IsJoined k fields body × (command_in kind body ≡ Ok command))

-- which bytes are a command; which are one of another type; which lack the command of their type
pub record ReadsCommands : Type 0 where
  pub commands : (bytes : List ℕ) (command : Command) → (command_of bytes ≡ Ok command) ↔ IsCommand bytes command
  pub others : (bytes : List ℕ) (k : ℕ) → (command_of bytes ≡ Ok (Other k)) ↔ ((command_type k ≡ None) × (fields : List Field) × IsOfType k bytes fields)
  pub missing : (bytes : List ℕ) → (command_of bytes ≡ Err Missing) ↔ ((k : ℕ) × IsSome (command_type k) × (fields : List Field) × IsOfType k bytes fields × IsAbsent k fields)

-- an entry: the size of the metadata in four bytes, the metadata, and the payload
pub record IsEntry (bytes : List ℕ) (meta : MessageMeta) : Type 0 where
  pub size : List ℕ
  pub metadata : List ℕ
  pub payload : List ℕ
  pub whole : bytes ≡ size ++ (metadata ++ payload)
  pub size_is_four : length size ≡ 4
  pub size_is : from_be_bytes w32 size ≡ length metadata
  pub meta_is : meta_of metadata ≡ Ok meta

-- which bytes are an entry
abbrev pub ReadsEntries : Type 0
ReadsEntries = (bytes : List ℕ) (meta : MessageMeta) → (entry_of bytes ≡ Ok meta) ↔ IsEntry bytes meta
