-- Why no field stands at the front of bytes.
use Rattle.std.specs.Prelude.{◌≡◌, ◌<◌, ◌≤◌, ℕ, ◌^◌, List, ◌++◌, length, take, ◌⊎◌, All}
use Rattle.proto_fields.specs.declared.fault.FieldFault.{FieldFault}
use Rattle.proto_fields.specs.declared.fault.FieldFault.TheVariants.{Cut, TooLong, BadTag, BadWire}
use Rattle.proto_fields.specs.Varint.{IsGroups, IsVarint}
use Rattle.proto_fields.specs.Fields.{IsTag, IsFieldNumber}

-- each byte says that a further one follows
abbrev pub AllHigh : List ℕ → Type 0
AllHigh bytes = All (λ b. 128 ≤ b) bytes

-- the bytes end inside a varint: they are fewer than ten, and all have the high bit
pub record IsVarintCut (bytes : List ℕ) : Type 0 where
  pub short : length bytes < 10
  pub unended : AllHigh bytes

-- the first ten bytes all have the high bit
pub record HasTenHigh (bytes : List ℕ) : Type 0 where
  pub long : 10 ≤ length bytes
  pub unended : AllHigh (take 10 bytes)

-- ten bytes at most at the front spell a number that passes 64 bits
pub record IsPast64Bits (bytes : List ℕ) : Type 0 where
  pub front : List ℕ
  pub rest : List ℕ
  pub n : ℕ
  pub whole : bytes ≡ front ++ rest
  pub groups : IsGroups front n
  pub short : length front ≤ 10
  pub large : 2 ^ 64 ≤ n

-- more than ten bytes, or more than 64 bits
abbrev pub IsVarintTooLong : List ℕ → Type 0
IsVarintTooLong bytes = HasTenHigh bytes ⊎ IsPast64Bits bytes

-- why no varint stands at the front
abbrev pub IsVarintFault : FieldFault → List ℕ → Type 0
IsVarintFault Cut bytes = IsVarintCut bytes
IsVarintFault TooLong bytes = IsVarintTooLong bytes
IsVarintFault BadTag bytes = ⊥
IsVarintFault BadWire bytes = ⊥

-- the bytes end inside a value of this wire type
pub data IsValueCut (wire : ℕ) (bytes : List ℕ) : Type 0 where
  in_varint : wire ≡ 0 → IsVarintCut bytes → IsValueCut wire bytes
  in_fixed64 : wire ≡ 1 → length bytes < 8 → IsValueCut wire bytes
  in_size : wire ≡ 2 → IsVarintCut bytes → IsValueCut wire bytes
  in_content : wire ≡ 2 → (size content : List ℕ) (n : ℕ) → bytes ≡ size ++ content → IsVarint size n → length content < n → IsValueCut wire bytes
  in_fixed32 : wire ≡ 5 → length bytes < 4 → IsValueCut wire bytes

-- the varint of a number, or of the length of bytes, is too long
pub record IsValueTooLong (wire : ℕ) (bytes : List ℕ) : Type 0 where
  pub has_varint : (wire ≡ 0) ⊎ (wire ≡ 2)
  pub too_long : IsVarintTooLong bytes

-- why no value of this wire type stands at the front
abbrev pub IsValueFault : FieldFault → ℕ → List ℕ → Type 0
IsValueFault Cut wire bytes = IsValueCut wire bytes
IsValueFault TooLong wire bytes = IsValueTooLong wire bytes
IsValueFault BadTag wire bytes = ⊥
IsValueFault BadWire wire bytes = ⊥

-- a tag of this number and wire type stands at the front, and these bytes behind it
pub record HasTag (bytes : List ℕ) (number wire : ℕ) (behind : List ℕ) : Type 0 where
  pub tag : List ℕ
  pub whole : bytes ≡ tag ++ behind
  pub tag_is : IsTag tag number wire

-- 0, or above 2^29 - 1
abbrev pub IsNoFieldNumber : ℕ → Type 0
IsNoFieldNumber number = (number ≡ 0) ⊎ (536870911 < number)

-- no value is read of wire types 3 and 4, which delimit groups, and 6 and 7 don't exist
abbrev pub IsNoWireType : ℕ → Type 0
IsNoWireType wire = (wire ≡ 3) ⊎ (wire ≡ 4) ⊎ (wire ≡ 6) ⊎ (wire ≡ 7)

-- why no field stands at the front: the first to be wrong of its tag's varint, its number, its wire type, its value
pub data IsFieldFault (fault : FieldFault) (bytes : List ℕ) : Type 0 where
  of_tag : IsVarintFault fault bytes → IsFieldFault fault bytes
  of_number : (number wire : ℕ) (behind : List ℕ) → HasTag bytes number wire behind → IsNoFieldNumber number → fault ≡ BadTag → IsFieldFault fault bytes
  of_wire : (number wire : ℕ) (behind : List ℕ) → HasTag bytes number wire behind → IsFieldNumber number → IsNoWireType wire → fault ≡ BadWire → IsFieldFault fault bytes
  of_value : (number wire : ℕ) (behind : List ℕ) → HasTag bytes number wire behind → IsFieldNumber number → IsValueFault fault wire behind → IsFieldFault fault bytes
