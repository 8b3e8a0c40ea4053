-- The bytes of a reply tell which reply it is.
use Rattle.std.proofs.Common.{◌≡◌, ◌<◌, ◌≤◌, ◌+◌, ◌*◌, ◌^◌, ℕ, List, [], ◌∷◌, ◌++◌, length, All, Some, None, Result, Ok, Err, true, false, cond, nat_eq, ◌==◌, if◌then◌else◌, refl, ap, ◌∙◌, sym, subst, arith}
use Rattle.std.proofs.lemmas.Bool.{eqb-true}
use Rattle.std.proofs.lemmas.List.{length-append}
use Rattle.std.proofs.lemmas.List.Elements.{All-head, All-tail, All-cons}
use Rattle.std.specs.Int.{w32, w64, to_le_bytes}
use Rattle.proto_fields.specs.declared.fault.FieldFault.{FieldFault}
use Rattle.proto_fields.specs.declared.value.Field.{Field}
use Rattle.proto_fields.specs.declared.value.Value.{Value}
use Rattle.proto_fields.specs.declared.value.Value.TheVariants.{Varint, Fixed64, Bytes, Fixed32}
use Rattle.proto_fields.specs.Fields.{IsFieldNumber, FieldsOf, fields_of}
use Rattle.proto_fields.specs.Spelling.{varint}
use Rattle.proto_fields.proofs.FieldList.{reads_whole, has_one_reading}
use Rattle.proto_fields.proofs.Shortest.{varint-is}
use Rattle.commands.specs.declared.reply.Reply.{Reply}
use Rattle.commands.specs.declared.reply.Reply.TheVariants.{Connected, SendReceipt, SendError, Message, Success, Error, ProducerSuccess, Pong, PartitionedMetadataResponse, LookupResponse, AckResponse}
use Rattle.ids.specs.declared.message_id.MessageId.{MessageId}
use Rattle.commands.specs.declared.server_error.ServerError.{ServerError}
use Rattle.commands.specs.declared.server_error.ServerError.TheVariants.{PersistenceError, ConsumerBusy, ChecksumError, ConsumerNotFound, TooManyRequests, ProducerBusy, InvalidTopicName, ConsumerAssignError, NotAllowedError}
use Rattle.commands.specs.Replies.{error_code, error_name, number, content, value_spelling, field_spelling, message_spelling, id_fields, count_fields, reply_type, fields_in, reply_fields, frame_fields, spelling}
use Rattle.commands.specs.Laws.{FitsKind, IsWritable, IsBuilt, TellsReplies}
use Rattle.commands.proofs.Spelled.{none, messages, type-is, replies}

-- how many bytes of content a value has
abbrev content_size : Value → ℕ
content_size (Varint n) = 0
content_size (Fixed64 n) = 0
content_size (Bytes bytes) = length bytes
content_size (Fixed32 n) = 0

-- fields take at most this many bytes
abbrev pub size_bound : List Field → ℕ
size_bound [] = 0
size_bound (field ∷ fields) = 20 + content_size field.value + size_bound fields

short-varint : (n : ℕ) → n < 2 ^ 64 → length (varint n) ≤ 10
short-varint n h = (varint-is n h).short

short-value : (k : ℕ) (value : Value) → IsFieldNumber k → FitsKind value → length (value_spelling k value) ≤ 20 + content_size value
short-value k (Varint n) is h =
    let in_range : k ≤ 536870911 = is.1 in
    let tag = short-varint (8 * k) (omega arith) in
    let value = short-varint n h in
    let sum = length-append (varint (8 * k)) (varint n) in
    omega arith
short-value k (Fixed64 n) is h =
    let in_range : k ≤ 536870911 = is.1 in
    let tag = short-varint (8 * k + 1) (omega arith) in
    let sum = length-append (varint (8 * k + 1)) (to_le_bytes w64 n) in
    omega arith
short-value k (Bytes bytes) is h =
    let in_range : k ≤ 536870911 = is.1 in
    let tag = short-varint (8 * k + 2) (omega arith) in
    let size = short-varint (length bytes) h in
    let sum = length-append (varint (8 * k + 2) ++ varint (length bytes)) bytes in
    let head = length-append (varint (8 * k + 2)) (varint (length bytes)) in
    omega arith
short-value k (Fixed32 n) is h =
    let in_range : k ≤ 536870911 = is.1 in
    let tag = short-varint (8 * k + 5) (omega arith) in
    let sum = length-append (varint (8 * k + 5)) (to_le_bytes w32 n) in
    omega arith

pub short-message : (fields : List Field) → All IsWritable fields → length (message_spelling fields) ≤ size_bound fields
short-message [] h = omega arith
short-message (field ∷ fields) h =
    let is = All-head IsWritable field fields h in
    let first = short-value field.number field.value is.number is.value in
    let others = short-message fields (All-tail IsWritable field fields h) in
    let sum = length-append (field_spelling field) (message_spelling fields) in
    omega arith

one : (a : Field) → IsWritable a → All IsWritable (a ∷ [])
one a h = All-cons IsWritable a [] h none

two : (a b : Field) → IsWritable a → IsWritable b → All IsWritable (a ∷ b ∷ [])
two a b h k = All-cons IsWritable a (b ∷ []) h (one b k)

three : (a b c : Field) → IsWritable a → IsWritable b → IsWritable c → All IsWritable (a ∷ b ∷ c ∷ [])
three a b c h k l = All-cons IsWritable a (b ∷ c ∷ []) h (two b c k l)

a_number : (k n : ℕ) → 1 ≤ k → k < 100 → n < 2 ^ 64 → IsWritable (number k n)
a_number k n h small in_range = record { number = (h, omega arith); value = in_range }

a_content : (k : ℕ) (bytes : List ℕ) → 1 ≤ k → k < 100 → length bytes < 2 ^ 64 → IsWritable (content k bytes)
a_content k bytes h small in_range = record { number = (h, omega arith); value = in_range }

-- the numbers and the names of errors are small
code-small : (error : ServerError) → error_code error < 100
code-small PersistenceError = omega arith
code-small ConsumerBusy = omega arith
code-small ChecksumError = omega arith
code-small ConsumerNotFound = omega arith
code-small TooManyRequests = omega arith
code-small ProducerBusy = omega arith
code-small InvalidTopicName = omega arith
code-small ConsumerAssignError = omega arith
code-small NotAllowedError = omega arith

name-short : (error : ServerError) → length (error_name error) ≤ 20
name-short PersistenceError = omega arith
name-short ConsumerBusy = omega arith
name-short ChecksumError = omega arith
name-short ConsumerNotFound = omega arith
name-short TooManyRequests = omega arith
name-short ProducerBusy = omega arith
name-short InvalidTopicName = omega arith
name-short ConsumerAssignError = omega arith
name-short NotAllowedError = omega arith

id-writable : (id : MessageId) → id.ledger_id < 2 ^ 64 → id.entry_id < 2 ^ 64 → All IsWritable (id_fields id)
id-writable id h k = two _ _ (a_number 1 id.ledger_id (omega arith) (omega arith) h) (a_number 2 id.entry_id (omega arith) (omega arith) k)

id-short : (id : MessageId) → id.ledger_id < 2 ^ 64 → id.entry_id < 2 ^ 64 → length (message_spelling (id_fields id)) ≤ 40
id-short id h k = short-message (id_fields id) (id-writable id h k)

pub writable : (reply : Reply) → IsBuilt reply → All IsWritable (fields_in reply)
unfolding fields_in
writable Connected h = three _ _ _ (a_content 1 _ (omega arith) (omega arith) (omega arith)) (a_number 2 5 (omega arith) (omega arith) (omega arith)) (a_number 3 1048576 (omega arith) (omega arith) (omega arith))
writable (SendReceipt producer_id sequence_id id) h =
    let short = id-short id h.2 h.3 in
    three _ _ _ (a_number 1 producer_id (omega arith) (omega arith) h.0) (a_number 2 sequence_id (omega arith) (omega arith) h.1)
    (a_content 3 (message_spelling (id_fields id)) (omega arith) (omega arith) (omega arith))
writable (SendError producer_id sequence_id error) h =
    let small = code-small error in
    let short = name-short error in
    All-cons IsWritable (number 1 producer_id) (number 2 sequence_id ∷ number 3 (error_code error) ∷ content 4 (error_name error) ∷ []) (a_number 1 producer_id (omega arith) (omega arith) h.0)
    (three _ _ _ (a_number 2 sequence_id (omega arith) (omega arith) h.1) (a_number 3 (error_code error) (omega arith) (omega arith) (omega arith))
    (a_content 4 (error_name error) (omega arith) (omega arith) (omega arith)))
writable (Message consumer_id id redelivery_count) h =
    let short = id-short id h.1 h.2 in
    let count : redelivery_count < 2 ^ 32 = h.3 in
    let first : IsWritable (number 1 consumer_id) = a_number 1 consumer_id (omega arith) (omega arith) h.0 in
    let second : IsWritable (content 2 (message_spelling (id_fields id))) = a_content 2 (message_spelling (id_fields id)) (omega arith) (omega arith) (omega arith) in
    elim (nat_eq redelivery_count 0) as (λ b. All IsWritable (number 1 consumer_id ∷ content 2 (message_spelling (id_fields id)) ∷ cond b [] (number 3 redelivery_count ∷ []))) [
      | true ↦ two _ _ first second
      | false ↦ three _ _ _ first second (a_number 3 redelivery_count (omega arith) (omega arith) (omega arith))
    ]
writable (Success request_id) h = one _ (a_number 1 request_id (omega arith) (omega arith) h)
writable (Error request_id error) h =
    let small = code-small error in
    let short = name-short error in
    three _ _ _ (a_number 1 request_id (omega arith) (omega arith) h) (a_number 2 (error_code error) (omega arith) (omega arith) (omega arith))
    (a_content 3 (error_name error) (omega arith) (omega arith) (omega arith))
writable (ProducerSuccess request_id producer_name) h =
    let short : length producer_name ≤ 65535 = h.1 in
    two _ _ (a_number 1 request_id (omega arith) (omega arith) h.0) (a_content 2 producer_name (omega arith) (omega arith) (omega arith))
writable Pong h = none
writable (PartitionedMetadataResponse request_id None) h =
    three _ _ _ (a_number 1 0 (omega arith) (omega arith) (omega arith)) (a_number 2 request_id (omega arith) (omega arith) h) (a_number 3 0 (omega arith) (omega arith) (omega arith))
writable (PartitionedMetadataResponse request_id (Some error)) h =
    let small = code-small error in
    let short = name-short error in
    All-cons IsWritable (number 2 request_id) (number 3 1 ∷ number 4 (error_code error) ∷ content 5 (error_name error) ∷ []) (a_number 2 request_id (omega arith) (omega arith) h)
    (three _ _ _ (a_number 3 1 (omega arith) (omega arith) (omega arith)) (a_number 4 (error_code error) (omega arith) (omega arith) (omega arith))
    (a_content 5 (error_name error) (omega arith) (omega arith) (omega arith)))
writable (LookupResponse request_id (Ok service_url)) h =
    let short : length service_url ≤ 65535 = h.1 in
    All-cons IsWritable (content 1 service_url) (number 3 1 ∷ number 4 request_id ∷ number 5 1 ∷ []) (a_content 1 service_url (omega arith) (omega arith) (omega arith))
    (three _ _ _ (a_number 3 1 (omega arith) (omega arith) (omega arith)) (a_number 4 request_id (omega arith) (omega arith) h.0)
    (a_number 5 1 (omega arith) (omega arith) (omega arith)))
writable (LookupResponse request_id (Err error)) h =
    let small = code-small error in
    let short = name-short error in
    All-cons IsWritable (number 3 2) (number 4 request_id ∷ number 6 (error_code error) ∷ content 7 (error_name error) ∷ []) (a_number 3 2 (omega arith) (omega arith) (omega arith))
    (three _ _ _ (a_number 4 request_id (omega arith) (omega arith) h.0) (a_number 6 (error_code error) (omega arith) (omega arith) (omega arith))
    (a_content 7 (error_name error) (omega arith) (omega arith) (omega arith)))
writable (AckResponse consumer_id None request_id) h =
    two _ _ (a_number 1 consumer_id (omega arith) (omega arith) h.0) (a_number 6 request_id (omega arith) (omega arith) h.1)
writable (AckResponse consumer_id (Some error) request_id) h =
    let small = code-small error in
    let short = name-short error in
    All-cons IsWritable (number 1 consumer_id) (number 4 (error_code error) ∷ content 5 (error_name error) ∷ number 6 request_id ∷ []) (a_number 1 consumer_id (omega arith) (omega arith) h.0)
    (three _ _ _ (a_number 4 (error_code error) (omega arith) (omega arith) (omega arith)) (a_content 5 (error_name error) (omega arith) (omega arith) (omega arith))
    (a_number 6 request_id (omega arith) (omega arith) h.1))

bounded : (reply : Reply) → IsBuilt reply → size_bound (fields_in reply) ≤ 65700
unfolding fields_in
bounded Connected h = omega arith
bounded (SendReceipt producer_id sequence_id id) h = let short = id-short id h.2 h.3 in omega arith
bounded (SendError producer_id sequence_id error) h = let short = name-short error in omega arith
bounded (Message consumer_id id redelivery_count) h =
    let short = id-short id h.1 h.2 in
    elim (nat_eq redelivery_count 0) as (λ b. size_bound (number 1 consumer_id ∷ content 2 (message_spelling (id_fields id)) ∷ cond b [] (number 3 redelivery_count ∷ [])) ≤ 65700) [
      | true ↦ omega arith
      | false ↦ omega arith
    ]
bounded (Success request_id) h = omega arith
bounded (Error request_id error) h = let short = name-short error in omega arith
bounded (ProducerSuccess request_id producer_name) h = let short : length producer_name ≤ 65535 = h.1 in omega arith
bounded Pong h = omega arith
bounded (PartitionedMetadataResponse request_id None) h = omega arith
bounded (PartitionedMetadataResponse request_id (Some error)) h = let short = name-short error in omega arith
bounded (LookupResponse request_id (Ok service_url)) h = let short : length service_url ≤ 65535 = h.1 in omega arith
bounded (LookupResponse request_id (Err error)) h = let short = name-short error in omega arith
bounded (AckResponse consumer_id None request_id) h = omega arith
bounded (AckResponse consumer_id (Some error) request_id) h = let short = name-short error in omega arith

pub short-fields : (reply : Reply) → IsBuilt reply → length (reply_fields reply) ≤ 65700
short-fields reply h =
    let short = short-message (fields_in reply) (writable reply h) in
    let small = bounded reply h in
    omega arith

pub short-spelling : (reply : Reply) → IsBuilt reply → length (spelling reply) < 2 ^ 17
unfolding spelling
short-spelling reply h =
    let small = short-fields reply h in
    let k : IsFieldNumber (reply_type reply) = type-is reply in
    let in_range : reply_type reply ≤ 536870911 = k.1 in
    let kind : IsWritable (number 1 (reply_type reply)) = record { number = (omega arith, omega arith); value = omega arith } in
    let body : IsWritable (content (reply_type reply) (reply_fields reply)) = record { number = k; value = omega arith } in
    let whole = short-message (frame_fields reply) (two (number 1 (reply_type reply)) (content (reply_type reply) (reply_fields reply)) kind body) in
    omega arith

-- what the fields say
number_in : Value → ℕ
number_in (Varint n) = n
number_in (Fixed64 n) = n
number_in (Bytes bytes) = 0
number_in (Fixed32 n) = n

bytes_in : Value → List ℕ
bytes_in (Varint n) = []
bytes_in (Fixed64 n) = []
bytes_in (Bytes bytes) = bytes
bytes_in (Fixed32 n) = []

abbrev first : List Field → Value
first [] = Varint 0
first (field ∷ fields) = field.value

abbrev behind : List Field → List Field
behind [] = []
behind (field ∷ fields) = fields

-- the message id of its fields
abbrev id_in : Result (List Field) FieldFault → MessageId
id_in (Ok fields) = record { ledger_id = number_in (first fields); entry_id = number_in (first (behind fields)) }
id_in (Err fault) = record { ledger_id = 0; entry_id = 0 }

-- the error of a number
abbrev error_in : ℕ → ServerError
error_in k =
    if k == 2 then PersistenceError
    else if k == 5 then ConsumerBusy
    else if k == 9 then ChecksumError
    else if k == 13 then ConsumerNotFound
    else if k == 14 then TooManyRequests
    else if k == 16 then ProducerBusy
    else if k == 17 then InvalidTopicName
    else if k == 19 then ConsumerAssignError
    else NotAllowedError

-- the number of the first field
abbrev first_number : List Field → ℕ
first_number [] = 0
first_number (field ∷ fields) = field.number

-- an acknowledgement's answer: refused where field 4 comes next
abbrev answer_in : List Field → Reply
answer_in fields =
    if first_number (behind fields) == 4 then AckResponse (number_in (first fields)) (Some (error_in (number_in (first (behind fields))))) (number_in (first (behind (behind (behind fields)))))
    else AckResponse (number_in (first fields)) None (number_in (first (behind fields)))

-- the answer to a question for partitions: refused where field 2 comes first
abbrev partitions_in : List Field → Reply
partitions_in fields =
    if first_number fields == 2 then PartitionedMetadataResponse (number_in (first fields)) (Some (error_in (number_in (first (behind (behind fields))))))
    else PartitionedMetadataResponse (number_in (first (behind fields))) None

-- the answer to a lookup: refused where field 3 comes first
abbrev lookup_in : List Field → Reply
lookup_in fields =
    if first_number fields == 3 then LookupResponse (number_in (first (behind fields))) (Err (error_in (number_in (first (behind (behind fields))))))
    else LookupResponse (number_in (first (behind (behind fields)))) (Ok (bytes_in (first fields)))

-- the reply of a type and its fields
abbrev reply_in : ℕ → List Field → Reply
reply_in k fields =
    if k == 3 then Connected
    else if k == 7 then SendReceipt (number_in (first fields)) (number_in (first (behind fields))) (id_in (fields_of (bytes_in (first (behind (behind fields))))))
    else if k == 8 then SendError (number_in (first fields)) (number_in (first (behind fields))) (error_in (number_in (first (behind (behind fields)))))
    else if k == 9 then Message (number_in (first fields)) (id_in (fields_of (bytes_in (first (behind fields))))) (number_in (first (behind (behind fields))))
    else if k == 13 then Success (number_in (first fields))
    else if k == 14 then Error (number_in (first fields)) (error_in (number_in (first (behind fields))))
    else if k == 17 then ProducerSuccess (number_in (first fields)) (bytes_in (first (behind fields)))
    else if k == 22 then partitions_in fields
    else if k == 24 then lookup_in fields
    else if k == 38 then answer_in fields
    else Pong

error-is : (error : ServerError) → error_in (error_code error) ≡ error
error-is PersistenceError = refl
error-is ConsumerBusy = refl
error-is ChecksumError = refl
error-is ConsumerNotFound = refl
error-is TooManyRequests = refl
error-is ProducerBusy = refl
error-is InvalidTopicName = refl
error-is ConsumerAssignError = refl
error-is NotAllowedError = refl

id-is : (id : MessageId) → id.ledger_id < 2 ^ 64 → id.entry_id < 2 ^ 64 → id_in (fields_of (message_spelling (id_fields id))) ≡ id
unfolding number_in
id-is id h k = ap id_in ((reads_whole (message_spelling (id_fields id)) (id_fields id)).1 (messages (id_fields id) (id-writable id h k)))

-- a count of 0 isn't written
count-is : (count : ℕ) → number_in (first (count_fields count)) ≡ count
unfolding number_in
count-is count =
    elim (nat_eq count 0) as (λ b. nat_eq count 0 ≡ b → number_in (first (cond b [] (number 3 count ∷ []))) ≡ count) [
      | true ↦ λ e. sym (eqb-true count 0 e)
      | false ↦ λ e. refl
    ] refl

reply-is : (reply : Reply) → IsBuilt reply → reply_in (reply_type reply) (fields_in reply) ≡ reply
unfolding fields_in number_in bytes_in
reply-is Connected h = refl
reply-is (SendReceipt producer_id sequence_id id) h = ap (λ i. SendReceipt producer_id sequence_id i) (id-is id h.2 h.3)
reply-is (SendError producer_id sequence_id error) h = ap (λ e. SendError producer_id sequence_id e) (error-is error)
reply-is (Message consumer_id id redelivery_count) h =
    ap (λ i. Message consumer_id i (number_in (first (count_fields redelivery_count)))) (id-is id h.1 h.2) ∙ ap (λ n. Message consumer_id id n) (count-is redelivery_count)
reply-is (Success request_id) h = refl
reply-is (Error request_id error) h = ap (λ e. Error request_id e) (error-is error)
reply-is (ProducerSuccess request_id producer_name) h = refl
reply-is Pong h = refl
reply-is (PartitionedMetadataResponse request_id None) h = refl
reply-is (PartitionedMetadataResponse request_id (Some error)) h = ap (λ e. PartitionedMetadataResponse request_id (Some e)) (error-is error)
reply-is (LookupResponse request_id (Ok service_url)) h = refl
reply-is (LookupResponse request_id (Err error)) h = ap (λ e. LookupResponse request_id (Err e)) (error-is error)
reply-is (AckResponse consumer_id None request_id) h = refl
reply-is (AckResponse consumer_id (Some error) request_id) h = ap (λ e. AckResponse consumer_id (Some e) request_id) (error-is error)

pub tells_replies : TellsReplies
unfolding number_in bytes_in
tells_replies reply other h k e =
    let size = short-fields reply h in
    let size' = short-fields other k in
    let this = replies reply (writable reply h) (omega arith) in
    let that = replies other (writable other k) (omega arith) in
    let P : List ℕ → Type 0 = λ bytes. FieldsOf bytes (frame_fields reply) in
    let wholes : frame_fields reply ≡ frame_fields other = has_one_reading (spelling other) (frame_fields reply) (frame_fields other) (subst P e this.whole) that.whole in
    let types : reply_type reply ≡ reply_type other = ap (λ fields. number_in (first fields)) wholes in
    let contents : reply_fields reply ≡ reply_fields other = ap (λ fields. bytes_in (first (behind fields))) wholes in
    let Q : List ℕ → Type 0 = λ bytes. FieldsOf bytes (fields_in reply) in
    let fields : fields_in reply ≡ fields_in other = has_one_reading (reply_fields other) (fields_in reply) (fields_in other) (subst Q contents this.fields) that.fields in
    sym (reply-is reply h) ∙ ap (λ t. reply_in t (fields_in reply)) types ∙ ap (λ l. reply_in (reply_type other) l) fields ∙ reply-is other k
