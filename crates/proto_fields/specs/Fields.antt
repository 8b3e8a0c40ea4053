-- The fields of a message: tag and value, one after another.
use Rattle.std.specs.Prelude.{◌≡◌, ◌≢◌, ◌<◌, ◌≤◌, ℕ, zero, suc, ◌+◌, ◌*◌, ◌/◌, ◌%◌, List, [], ◌∷◌, ◌++◌, length, take, drop, Option, Some, None, Result, Ok, Err, nat_lt, nat_le, ◌==◌, ◌&&◌, if◌then◌else◌}
use Rattle.std.specs.Int.{w32, w64, from_le_bytes}
use Rattle.proto_fields.specs.declared.fault.FieldFault.{FieldFault}
use Rattle.proto_fields.specs.declared.fault.FieldFault.TheVariants.{Cut, BadTag, BadWire}
use Rattle.proto_fields.specs.declared.value.Field.{Field}
use Rattle.proto_fields.specs.declared.value.Value.{Value}
use Rattle.proto_fields.specs.declared.value.Value.TheVariants.{Varint, Fixed64, Bytes, Fixed32}
use Rattle.proto_fields.specs.Reading.{◌>>=◌}
use Rattle.proto_fields.specs.Varint.{IsVarint, varint_at}

-- field numbers go from 1 to 2^29 - 1
abbrev pub IsFieldNumber : ℕ → Type 0
IsFieldNumber number = (1 ≤ number) × (number ≤ 536870911)

-- the bytes are a tag: the varint of eight times the field number and the wire type
pub record IsTag (bytes : List ℕ) (number wire : ℕ) : Type 0 where
  pub varint : IsVarint bytes (8 * number + wire)
  pub wire_small : wire < 8

-- the bytes behind a tag spell this value of the wire type
abbrev pub IsValue : Value → ℕ → List ℕ → Type 0
IsValue (Varint n) wire bytes = (wire ≡ 0) × IsVarint bytes n
IsValue (Fixed64 n) wire bytes = (wire ≡ 1) × (length bytes ≡ 8) × (n ≡ from_le_bytes w64 bytes)
IsValue (Bytes content) wire bytes = (wire ≡ 2) × (size : List ℕ) × IsVarint size (length content) × (bytes ≡ size ++ content)
IsValue (Fixed32 n) wire bytes = (wire ≡ 5) × (length bytes ≡ 4) × (n ≡ from_le_bytes w32 bytes)

-- the bytes are a spelling of the field: its tag, and its value
pub record IsField (field : Field) (bytes : List ℕ) : Type 0 where
  pub tag : List ℕ
  pub content : List ℕ
  pub wire : ℕ
  pub whole : bytes ≡ tag ++ content
  pub tag_is : IsTag tag field.number wire
  pub number_is : IsFieldNumber field.number
  pub value_is : IsValue field.value wire content

-- the whole bytes are spellings of the fields, one after another
abbrev pub FieldsOf : List ℕ → List Field → Type 0
FieldsOf bytes [] = bytes ≡ []
FieldsOf bytes (field ∷ fields) = (front : List ℕ) × (rest : List ℕ) × (bytes ≡ front ++ rest) × IsField field front × FieldsOf rest fields

-- this many bytes, and the bytes after them
unfoldable pub part_at : ℕ → List ℕ → Result (List ℕ × List ℕ) FieldFault
part_at size bytes = if nat_lt (length bytes) size then Err Cut else Ok (take size bytes, drop size bytes)

-- the value of the wire type at the front, and the bytes after it
unfoldable pub value_at : ℕ → List ℕ → Result (Value × List ℕ) FieldFault
value_at wire bytes =
    if wire == 0 then (varint_at bytes >>= λ n. Ok (Varint n.0, n.1))
    else if wire == 1 then (part_at 8 bytes >>= λ part. Ok (Fixed64 (from_le_bytes w64 part.0), part.1))
    else if wire == 2 then (varint_at bytes >>= λ size. part_at size.0 size.1 >>= λ part. Ok (Bytes part.0, part.1))
    else if wire == 5 then (part_at 4 bytes >>= λ part. Ok (Fixed32 (from_le_bytes w32 part.0), part.1))
    else Err BadWire

-- the field at the front, and the bytes after it; or the first fault: of the tag's varint, its number, its wire type, the value
unfoldable pub field_at : List ℕ → Result (Field × List ℕ) FieldFault
field_at bytes = varint_at bytes >>= λ tag.
    if nat_le 1 (tag.0 / 8) && nat_le (tag.0 / 8) 536870911
    then (value_at (tag.0 % 8) tag.1 >>= λ value. Ok (record { number = tag.0 / 8; value = value.0 }, value.1))
    else Err BadTag

-- the fields of bytes that hold at most this many
unfoldable pub fields_within : ℕ → List ℕ → Result (List Field) FieldFault
fields_within zero [] = Ok []
fields_within zero (b ∷ bytes) = Err Cut
fields_within (suc count) [] = Ok []
fields_within (suc count) (b ∷ bytes) = field_at (b ∷ bytes) >>= λ first. fields_within count first.1 >>= λ others. Ok (first.0 ∷ others)

-- the fields of the whole bytes, or the first fault; each field takes a byte at least
unfoldable pub fields_of : List ℕ → Result (List Field) FieldFault
fields_of bytes = fields_within (length bytes) bytes

-- what `next` answers over these bytes, and the bytes that are left
abbrev pub TakesField : List ℕ → Result (Option Field) FieldFault → List ℕ → Type 0
TakesField old (Ok None) new = (old ≡ []) × (new ≡ [])
TakesField old (Ok (Some field)) new = field_at old ≡ Ok (field, new)
TakesField old (Err fault) new = (old ≢ []) × (field_at old ≡ Err fault) × (new ≡ old)
