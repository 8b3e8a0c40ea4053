-- The values of a message's fields, by number and kind.
use Rattle.std.specs.Prelude.{◌^◌, ◌-◌, ℕ, List, [], ◌∷◌, Option, Some, None, unwrap_or, Result, Ok, Err, Bool, true, false, nat_lt, nat_le, ◌==◌, ◌||◌, if◌then◌else◌, ℤ}
use Rattle.std.specs.Result.{result_unwrap_or}
use Rattle.std.specs.List.{flat_map, list_any}
use Rattle.std.specs.Int.{w64, cast_signed}
use Rattle.std.specs.Str.{is_utf8}
use Rattle.proto_fields.specs.declared.value.Field.{Field}
use Rattle.proto_fields.specs.declared.value.Value.{Value}
use Rattle.proto_fields.specs.declared.value.Value.TheVariants.{Varint, Fixed64, Bytes, Fixed32}
use Rattle.proto_fields.specs.Fields.{fields_of}
use Rattle.commands.specs.declared.fault.CommandFault.{CommandFault}
use Rattle.commands.specs.declared.fault.CommandFault.TheVariants.{Unreadable}
use Rattle.commands.specs.Reading.{◌>>=◌, readable, required}

-- the fields of a message: its bytes are fields and nothing else
unfoldable pub message_fields : List ℕ → Result (List Field) CommandFault
message_fields bytes = readable (fields_of bytes)

-- the fields of bytes that are a message
abbrev pub known_fields : List ℕ → List Field
known_fields bytes = result_unwrap_or (message_fields bytes) []

-- what the message of these bytes gives
abbrev pub in_message : {A : Type 0} → (List Field → Result A CommandFault) → List ℕ → Result A CommandFault
in_message read bytes = message_fields bytes >>= read

-- the number of a varint
abbrev pub varint_of : Value → Result ℕ CommandFault
varint_of (Varint n) = Ok n
varint_of (Fixed64 n) = Err Unreadable
varint_of (Bytes content) = Err Unreadable
varint_of (Fixed32 n) = Err Unreadable

-- the bytes of a string, a bytes field or an embedded message
abbrev pub content_of : Value → Result (List ℕ) CommandFault
content_of (Varint n) = Err Unreadable
content_of (Fixed64 n) = Err Unreadable
content_of (Bytes content) = Ok content
content_of (Fixed32 n) = Err Unreadable

-- what the fields of this number hold, in order; one of another wire type is refused
unfoldable pub occurrences : {A : Type 0} → (Value → Result A CommandFault) → ℕ → List Field → Result (List A) CommandFault
occurrences kind number [] = Ok []
occurrences kind number (field ∷ fields) =
    if field.number == number
    then (kind field.value >>= λ first. occurrences kind number fields >>= λ others. Ok (first ∷ others))
    else occurrences kind number fields

-- the last of a list
abbrev pub last : {A : Type 0} → List A → Option A
last [] = None
last (x ∷ xs) = Some (unwrap_or (last xs) x)

-- all parts, one after another, if there is one
abbrev pub joined : List (List ℕ) → Option (List ℕ)
joined [] = None
joined (part ∷ parts) = Some (flat_map (λ p. p) (part ∷ parts))

-- of a scalar the last occurrence counts
unfoldable pub last_field : {A : Type 0} → (Value → Result A CommandFault) → ℕ → List Field → Result (Option A) CommandFault
last_field kind number fields = occurrences kind number fields >>= λ found. Ok (last found)

-- the occurrences of an embedded message are read as one
unfoldable pub message_field : ℕ → List Field → Result (Option (List ℕ)) CommandFault
message_field number fields = occurrences content_of number fields >>= λ parts. Ok (joined parts)

abbrev pub u64_field : ℕ → List Field → Result (Option ℕ) CommandFault
u64_field = last_field varint_of

abbrev pub required_u64_field : ℕ → List Field → Result ℕ CommandFault
required_u64_field number fields = u64_field number fields >>= required

abbrev pub bytes_field : ℕ → List Field → Result (Option (List ℕ)) CommandFault
bytes_field = last_field content_of

-- a value by its kind, if there is one
abbrev pub kept : {A B : Type 0} → (A → Result B CommandFault) → Option A → Result (Option B) CommandFault
kept read None = Ok None
kept read (Some x) = read x >>= λ value. Ok (Some value)

-- the value of an embedded message, if there is one
unfoldable pub message_value_field : {A : Type 0} → (List ℕ → Result A CommandFault) → ℕ → List Field → Result (Option A) CommandFault
message_value_field read number fields = message_field number fields >>= kept read

-- each of them read, in order
abbrev pub each : {A : Type 0} → (List ℕ → Result A CommandFault) → List (List ℕ) → Result (List A) CommandFault
each read [] = Ok []
each read (part ∷ parts) = read part >>= λ first. each read parts >>= λ others. Ok (first ∷ others)

-- the values of a repeated field of embedded messages, each occurrence read by itself
unfoldable pub repeated_field : {A : Type 0} → (List ℕ → Result A CommandFault) → ℕ → List Field → Result (List A) CommandFault
repeated_field read number fields = occurrences content_of number fields >>= each read

-- whether there is a field of this number, of whatever wire type
abbrev pub has_field : ℕ → List Field → Bool
has_field number fields = list_any (λ field. field.number == number) fields

-- 32 bits
abbrev pub as_u32 : ℕ → Result ℕ CommandFault
as_u32 n = if nat_lt n (2 ^ 32) then Ok n else Err Unreadable

-- 0 or 1
abbrev pub as_bool : ℕ → Result Bool CommandFault
as_bool n = if n == 0 then Ok false else if n == 1 then Ok true else Err Unreadable

-- the 64 bits as two's complement, from -2^31 to 2^31 - 1
abbrev pub as_i32 : ℕ → Result ℤ CommandFault
as_i32 n = if nat_lt n (2 ^ 31) || nat_le (2 ^ 64 - 2 ^ 31) n then Ok (cast_signed w64 n) else Err Unreadable

-- text
abbrev pub as_text : List ℕ → Result (List ℕ) CommandFault
as_text bytes = if is_utf8 bytes then Ok bytes else Err Unreadable

unfoldable pub u32_field : ℕ → List Field → Result (Option ℕ) CommandFault
u32_field number fields = u64_field number fields >>= kept as_u32

unfoldable pub bool_field : ℕ → List Field → Result (Option Bool) CommandFault
bool_field number fields = u64_field number fields >>= kept as_bool

unfoldable pub i32_field : ℕ → List Field → Result (Option ℤ) CommandFault
i32_field number fields = u64_field number fields >>= kept as_i32

unfoldable pub i64_field : ℕ → List Field → Result (Option ℤ) CommandFault
i64_field number fields = u64_field number fields >>= kept (λ n. Ok (cast_signed w64 n))

unfoldable pub text_field : ℕ → List Field → Result (Option (List ℕ)) CommandFault
text_field number fields = bytes_field number fields >>= kept as_text

abbrev pub required_text_field : ℕ → List Field → Result (List ℕ) CommandFault
required_text_field number fields = text_field number fields >>= required
