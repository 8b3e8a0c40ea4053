-- What is kept of the fields of one number while a message is read once.
use Rattle.std.specs.Prelude.{◌≡◌, ◌<◌, ℕ, List, [], ◌∷◌, length, get_or, Option, Some, None, Result, Ok, Err, Bool, true, false, ◌==◌, if◌then◌else◌}
use Rattle.proto_fields.specs.declared.value.Field.{Field}
use Rattle.proto_fields.specs.declared.value.Value.{Value}
use Rattle.proto_fields.specs.declared.value.Value.TheVariants.{Varint, Fixed64, Bytes, Fixed32}
use Rattle.commands.specs.declared.fault.CommandFault.{CommandFault}
use Rattle.commands.specs.declared.fault.CommandFault.TheVariants.{Unreadable}
use Rattle.commands.specs.declared.held.Held.{Held}
use Rattle.commands.specs.declared.held.Held.TheVariants as held
use Rattle.commands.specs.Message.{message_fields, known_fields}

-- what is kept of the fields of one number, by what they hold
pub data Kept : Type 0 where
  Nothing : Kept
  Number : ℕ → Kept
  Content : List ℕ → Kept
  LastContent : List ℕ → Kept
  Other : Kept

abbrev pub seen : Held → Kept
seen held.Absent = Nothing
seen (held.Number n) = Number n
seen (held.Content content) = Content content.now
seen (held.LastContent content) = LastContent content.now
seen held.Other = Other

-- one more varint
abbrev pub with_number : Kept → ℕ → Kept
with_number Nothing n = Number n
with_number (Number m) n = Number n
with_number (Content content) n = Other
with_number (LastContent content) n = Other
with_number Other n = Other

-- the bytes of one field more
abbrev pub with_content : Kept → List ℕ → Kept
with_content Nothing content = Content content
with_content (Number m) content = Other
with_content (Content first) content = LastContent content
with_content (LastContent before) content = LastContent content
with_content Other content = Other

-- one more field of the number
abbrev pub held_with : Kept → Value → Kept
held_with held (Varint n) = with_number held n
held_with held (Fixed64 n) = Other
held_with held (Bytes content) = with_content held content
held_with held (Fixed32 n) = Other

-- what is kept of the fields of a number behind those that were read
unfoldable pub held_from : Kept → ℕ → List Field → Kept
held_from held number [] = held
held_from held number (field ∷ fields) = held_from (if field.number == number then held_with held field.value else held) number fields

-- what is kept of the fields of a number
abbrev pub held_of : ℕ → List Field → Kept
held_of number fields = held_from Nothing number fields

-- the number of the last field
abbrev pub number_in : Kept → Result (Option ℕ) CommandFault
number_in Nothing = Ok None
number_in (Number n) = Ok (Some n)
number_in (Content content) = Err Unreadable
number_in (LastContent content) = Err Unreadable
number_in Other = Err Unreadable

-- the bytes of the last field
abbrev pub content_in : Kept → Result (Option (List ℕ)) CommandFault
content_in Nothing = Ok None
content_in (Number n) = Err Unreadable
content_in (Content content) = Ok (Some content)
content_in (LastContent content) = Ok (Some content)
content_in Other = Err Unreadable

abbrev pub is_there : Kept → Bool
is_there Nothing = false
is_there (Number n) = true
is_there (Content content) = true
is_there (LastContent content) = true
is_there Other = true

-- what is kept of the fields of each number that the table has room for
pub record KeepsAll (table : List Held) (fields : List Field) : Type 0 where
  pub each : (number : ℕ) → number < length table → seen (get_or table number held.Absent) ≡ held_of number fields

-- the bytes are a message, of whose fields this is kept
pub record IsRead (bytes : List ℕ) (table : List Held) : Type 0 where
  pub fields : message_fields bytes ≡ Ok (known_fields bytes)
  pub kept : KeepsAll table (known_fields bytes)
