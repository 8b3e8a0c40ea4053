-- What is written is spelled by its fields.
use Rattle.std.proofs.Common.{◌≡◌, ◌<◌, ◌≤◌, ◌+◌, ◌*◌, ◌^◌, ℕ, zero, suc, List, [], ◌∷◌, length, map, All, Some, None, Ok, Err, true, false, cond, nat_eq, refl, sym, arith}
use Rattle.std.specs.List.Sorted.{IsStrictlyIncreasing}
use Rattle.std.proofs.lemmas.List.Elements.{All-head, All-tail, All-cons}
use Rattle.std.specs.Int.{w32, w64, to_le_bytes}
use Rattle.std.proofs.lemmas.Nat.{from_le_bytes-to_le_bytes_4, from_le_bytes-to_le_bytes_8}
use Rattle.proto_fields.specs.declared.value.Field.{Field}
use Rattle.proto_fields.specs.declared.value.Value.{Value}
use Rattle.proto_fields.specs.declared.value.Value.TheVariants.{Varint, Fixed64, Bytes, Fixed32}
use Rattle.proto_fields.specs.Fields.{IsFieldNumber, IsField, FieldsOf}
use Rattle.proto_fields.specs.Spelling.{varint}
use Rattle.proto_fields.proofs.Shortest.{varint-is, number-is_field, content-is_field}
use Rattle.commands.specs.declared.reply.Reply.{Reply}
use Rattle.commands.specs.declared.reply.Reply.TheVariants.{Connected, SendReceipt, SendError, Message, Success, Error, ProducerSuccess, Pong, PartitionedMetadataResponse, LookupResponse, AckResponse}
use Rattle.commands.specs.Replies.{number, content, value_spelling, field_spelling, message_spelling, id_fields, reply_type, fields_in, reply_fields, frame_fields, spelling}
use Rattle.commands.specs.Laws.{FitsKind, IsWritable, IsSpelled, SpellsFields}

value-is_field : (k : ℕ) (value : Value) → IsFieldNumber k → FitsKind value → IsField (record { number = k; value = value }) (value_spelling k value)
value-is_field k (Varint n) is small = number-is_field k n is small
value-is_field k (Bytes bytes) is small = content-is_field k bytes is small
value-is_field k (Fixed64 n) is small =
    let in_range : k ≤ 536870911 = is.1 in
    record {
      tag = varint (8 * k + 1);
      content = to_le_bytes w64 n;
      wire = 1;
      whole = refl;
      tag_is = record { varint = varint-is (8 * k + 1) (omega arith); wire_small = omega arith };
      number_is = is;
      value_is = (refl, refl, sym (from_le_bytes-to_le_bytes_8 n small));
    }
value-is_field k (Fixed32 n) is small =
    let in_range : k ≤ 536870911 = is.1 in
    record {
      tag = varint (8 * k + 5);
      content = to_le_bytes w32 n;
      wire = 5;
      whole = refl;
      tag_is = record { varint = varint-is (8 * k + 5) (omega arith); wire_small = omega arith };
      number_is = is;
      value_is = (refl, refl, sym (from_le_bytes-to_le_bytes_4 n small));
    }

pub none : All IsWritable []
none i d h = absurd (omega arith)

pub messages : (fields : List Field) → All IsWritable fields → FieldsOf (message_spelling fields) fields
messages [] h = refl
messages (field ∷ fields) h =
    let first = All-head IsWritable field fields h in
    (field_spelling field, message_spelling fields, refl, value-is_field field.number field.value first.number first.value, messages fields (All-tail IsWritable field fields h))

rising-one : (x : ℕ) → IsStrictlyIncreasing (x ∷ [])
rising-one x k h = absurd (omega arith)

rising-cons : (x y : ℕ) (ys : List ℕ) → x < y → IsStrictlyIncreasing (y ∷ ys) → IsStrictlyIncreasing (x ∷ y ∷ ys)
rising-cons x y ys lt h zero below = lt
rising-cons x y ys lt h (suc k) below = let e : suc k + 1 ≡ suc (k + 1) = omega arith in rw e (h k (omega arith))

-- the numbers of a reply's fields rise
rising : (reply : Reply) → IsStrictlyIncreasing (map (λ field. field.number) (fields_in reply))
unfolding fields_in
rising Connected = rising-cons 1 2 (3 ∷ []) (omega arith) (rising-cons 2 3 [] (omega arith) (rising-one 3))
rising (SendReceipt producer_id sequence_id id) = rising-cons 1 2 (3 ∷ []) (omega arith) (rising-cons 2 3 [] (omega arith) (rising-one 3))
rising (SendError producer_id sequence_id error) = rising-cons 1 2 (3 ∷ 4 ∷ []) (omega arith) (rising-cons 2 3 (4 ∷ []) (omega arith) (rising-cons 3 4 [] (omega arith) (rising-one 4)))
rising (Message consumer_id id redelivery_count) =
    elim (nat_eq redelivery_count 0) as (λ b. IsStrictlyIncreasing (map (λ field. field.number) (number 1 consumer_id ∷ content 2 (message_spelling (id_fields id)) ∷ cond b [] (number 3 redelivery_count ∷ [])))) [
      | true ↦ rising-cons 1 2 [] (omega arith) (rising-one 2)
      | false ↦ rising-cons 1 2 (3 ∷ []) (omega arith) (rising-cons 2 3 [] (omega arith) (rising-one 3))
    ]
rising (Success request_id) = rising-one 1
rising (Error request_id error) = rising-cons 1 2 (3 ∷ []) (omega arith) (rising-cons 2 3 [] (omega arith) (rising-one 3))
rising (ProducerSuccess request_id producer_name) = rising-cons 1 2 [] (omega arith) (rising-one 2)
rising Pong = λ k h. absurd (omega arith)
rising (PartitionedMetadataResponse request_id None) = rising-cons 1 2 (3 ∷ []) (omega arith) (rising-cons 2 3 [] (omega arith) (rising-one 3))
rising (PartitionedMetadataResponse request_id (Some error)) = rising-cons 2 3 (4 ∷ 5 ∷ []) (omega arith) (rising-cons 3 4 (5 ∷ []) (omega arith) (rising-cons 4 5 [] (omega arith) (rising-one 5)))
rising (LookupResponse request_id (Ok service_url)) = rising-cons 1 3 (4 ∷ 5 ∷ []) (omega arith) (rising-cons 3 4 (5 ∷ []) (omega arith) (rising-cons 4 5 [] (omega arith) (rising-one 5)))
rising (LookupResponse request_id (Err error)) = rising-cons 3 4 (6 ∷ 7 ∷ []) (omega arith) (rising-cons 4 6 (7 ∷ []) (omega arith) (rising-cons 6 7 [] (omega arith) (rising-one 7)))
rising (AckResponse consumer_id None request_id) = rising-cons 1 6 [] (omega arith) (rising-one 6)
rising (AckResponse consumer_id (Some error) request_id) = rising-cons 1 4 (5 ∷ 6 ∷ []) (omega arith) (rising-cons 4 5 (6 ∷ []) (omega arith) (rising-cons 5 6 [] (omega arith) (rising-one 6)))

-- the type of a reply is the number of a field
pub type-is : (reply : Reply) → IsFieldNumber (reply_type reply)
type-is Connected = (omega arith, omega arith)
type-is (SendReceipt producer_id sequence_id id) = (omega arith, omega arith)
type-is (SendError producer_id sequence_id error) = (omega arith, omega arith)
type-is (Message consumer_id id redelivery_count) = (omega arith, omega arith)
type-is (Success request_id) = (omega arith, omega arith)
type-is (Error request_id error) = (omega arith, omega arith)
type-is (ProducerSuccess request_id producer_name) = (omega arith, omega arith)
type-is Pong = (omega arith, omega arith)
type-is (PartitionedMetadataResponse request_id error) = (omega arith, omega arith)
type-is (LookupResponse request_id service_url) = (omega arith, omega arith)
type-is (AckResponse consumer_id error request_id) = (omega arith, omega arith)

pub replies : (reply : Reply) → All IsWritable (fields_in reply) → length (reply_fields reply) < 2 ^ 64 → IsSpelled reply
unfolding spelling
replies reply h small =
    let k : IsFieldNumber (reply_type reply) = type-is reply in
    let in_range : reply_type reply ≤ 536870911 = k.1 in
    let kind : IsWritable (number 1 (reply_type reply)) = record { number = (omega arith, omega arith); value = omega arith } in
    let body : IsWritable (content (reply_type reply) (reply_fields reply)) = record { number = k; value = small } in
    record {
      whole = messages (frame_fields reply) (All-cons IsWritable _ (content (reply_type reply) (reply_fields reply) ∷ []) kind (All-cons IsWritable _ [] body none));
      fields = messages (fields_in reply) h;
      rising = rising reply;
    }

pub spells_fields : SpellsFields
spells_fields = record { messages = messages; replies = replies }
