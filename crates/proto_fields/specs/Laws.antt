-- What holds of fields.
use Rattle.std.specs.Prelude.{◌≡◌, ◌<◌, ◌≤◌, ◌^◌, ◌↔◌, ℕ, List, ◌++◌, length, All, Option, Result, Ok, Err}
use Rattle.proto_fields.specs.declared.fault.FieldFault.{FieldFault}
use Rattle.proto_fields.specs.declared.value.Field.{Field}
use Rattle.proto_fields.specs.declared.value.Value.TheVariants.{Varint, Bytes}
use Rattle.proto_fields.specs.Varint.{IsVarint, varint_at}
use Rattle.proto_fields.specs.Fields.{IsFieldNumber, IsField, FieldsOf, TakesField, field_at, fields_of}
use Rattle.proto_fields.specs.Faults.{IsVarintFault, IsFieldFault}
use Rattle.proto_fields.specs.Spelling.{varint, number_field, bytes_field}

-- a varint is read exactly where a spelling of its number stands at the front, and refused exactly for the reason that stands
pub record ReadsVarints : Type 0 where
  pub numbers : (bytes : List ℕ) (n : ℕ) (rest : List ℕ) → (varint_at bytes ≡ Ok (n, rest)) ↔ ((front : List ℕ) × (bytes ≡ front ++ rest) × IsVarint front n)
  pub faults : (bytes : List ℕ) (fault : FieldFault) → (varint_at bytes ≡ Err fault) ↔ IsVarintFault fault bytes

-- a field is read exactly where a spelling of it stands at the front
abbrev pub ReadsSpellings : Type 0
ReadsSpellings = (bytes : List ℕ) (field : Field) (rest : List ℕ) →
    (field_at bytes ≡ Ok (field, rest)) ↔ ((front : List ℕ) × (bytes ≡ front ++ rest) × IsField field front)

-- a fault is answered exactly where it is the first that stands
abbrev pub NamesFaults : Type 0
NamesFaults = (bytes : List ℕ) (fault : FieldFault) → (field_at bytes ≡ Err fault) ↔ IsFieldFault fault bytes

-- the fields that are read are those whose spellings make up the whole bytes
abbrev pub ReadsWhole : Type 0
ReadsWhole = (bytes : List ℕ) (fields : List Field) → (fields_of bytes ≡ Ok fields) ↔ FieldsOf bytes fields

-- a fault behind some fields: bytes are left, and no field stands at their front
pub record FaultBehind (fields : List Field) (fault : FieldFault) (bytes : List ℕ) : Type 0 where
  pub front : List ℕ
  pub rest : List ℕ
  pub whole : bytes ≡ front ++ rest
  pub fields_are : FieldsOf front fields
  pub left : 0 < length rest
  pub fault_is : IsFieldFault fault rest

-- the fault of the whole bytes is that behind the fields that can be read
abbrev pub ReadsFirstFault : Type 0
ReadsFirstFault = (bytes : List ℕ) (fault : FieldFault) → (fields_of bytes ≡ Err fault) ↔ ((fields : List Field) × FaultBehind fields fault bytes)

-- the same bytes have one list of fields
abbrev pub HasOneReading : Type 0
HasOneReading = (bytes : List ℕ) (fields others : List Field) → FieldsOf bytes fields → FieldsOf bytes others → fields ≡ others

-- whatever is asked after a fault, the answer is that fault, and the same bytes are left
abbrev pub KeepsFault : Type 0
KeepsFault = (before old new : List ℕ) (fault : FieldFault) (answer : Result (Option Field) FieldFault) →
    TakesField before (Err fault) old → TakesField old answer new → (answer ≡ Err fault) × (new ≡ old)

-- the bytes are a varint of the number, and each other varint of it is longer
pub record IsShortestVarint (bytes : List ℕ) (n : ℕ) : Type 0 where
  pub varint : IsVarint bytes n
  pub shortest : (other : List ℕ) → All (λ b. b < 256) other → IsVarint other n → length bytes ≤ length other
  pub only : (other : List ℕ) → All (λ b. b < 256) other → IsVarint other n → length other ≡ length bytes → other ≡ bytes

-- a number of 64 bits is written as its shortest varint
abbrev pub WritesShortest : Type 0
WritesShortest = (n : ℕ) → n < 2 ^ 64 → IsShortestVarint (varint n) n

-- a field that is put is read again, whatever follows
pub record ReadsWhatIsPut : Type 0 where
  pub numbers : (number n : ℕ) (rest : List ℕ) → IsFieldNumber number → n < 2 ^ 64 →
      field_at (number_field number n ++ rest) ≡ Ok (record { number = number; value = Varint n }, rest)
  pub contents : (number : ℕ) (content rest : List ℕ) → IsFieldNumber number → length content < 2 ^ 64 →
      field_at (bytes_field number content ++ rest) ≡ Ok (record { number = number; value = Bytes content }, rest)
