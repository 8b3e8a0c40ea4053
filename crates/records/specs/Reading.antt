-- How records are read: what stands at the beginning of some bytes.
use Rattle.std.specs.Prelude.{◌≡◌, ℕ, List, [], ◌∷◌, ◌&&◌, ◌==◌, if◌then◌else◌, nat_le, length, take, drop, Option, Some, None}
use Rattle.std.specs.Int.{w64, from_le_bytes}
use Rattle.records.specs.declared.record.Record.{Record}
use Rattle.records.specs.declared.record.Record.TheVariants.{Made, Removed, Acknowledged, AcknowledgedThrough, AcknowledgedRange}
use Rattle.records.specs.Names.{is_subscription_name}
use Rattle.records.specs.Maps.{Kept}
use Rattle.records.specs.Records.{IsFormed, after}

-- a length, and a name so long
abbrev pub first_name : List ℕ → Option (List ℕ)
first_name [] = None
first_name (n ∷ bytes) = if nat_le n (length bytes) && is_subscription_name (take n bytes) then Some (take n bytes) else None

-- a position, in eight bytes
abbrev pub first_position : List ℕ → Option ℕ
first_position bytes = if nat_le 8 (length bytes) then Some (from_le_bytes w64 (take 8 bytes)) else None

-- a record of one position, with what stands behind it
abbrev pub with_position : (ℕ → Record) → Option ℕ → List ℕ → Option (Record × List ℕ)
with_position made None bytes = None
with_position made (Some position) bytes = Some (made position, drop 8 bytes)

-- a record of two
abbrev pub with_positions : (ℕ → ℕ → Record) → Option ℕ → List ℕ → Option (Record × List ℕ)
with_positions made None bytes = None
with_positions made (Some first) bytes = with_position (made first) (first_position (drop 8 bytes)) (drop 8 bytes)

-- the record of this kind and name, with the positions at the beginning of these bytes
abbrev pub record_with : ℕ → List ℕ → List ℕ → Option (Record × List ℕ)
record_with kind name bytes =
    if kind == 1 then with_position (Made name) (first_position bytes) bytes
    else if kind == 2 then Some (Removed name, bytes)
    else if kind == 3 then with_position (Acknowledged name) (first_position bytes) bytes
    else if kind == 4 then with_position (AcknowledgedThrough name) (first_position bytes) bytes
    else if kind == 5 then with_positions (AcknowledgedRange name) (first_position bytes) bytes
    else None

abbrev pub record_at : ℕ → Option (List ℕ) → List ℕ → Option (Record × List ℕ)
record_at kind None bytes = None
record_at kind (Some name) bytes = record_with kind name (drop (length name) (drop 1 bytes))

-- the first record, with what stands behind it
abbrev pub first_record : List ℕ → Option (Record × List ℕ)
first_record [] = None
first_record (kind ∷ bytes) = record_at kind (first_name bytes) bytes

-- no record of its form stands at the beginning of these bytes
abbrev pub HasNone : ℕ → Kept → List ℕ → Type 0
HasNone entries kept bytes = (record' : Record) (behind : List ℕ) → first_record bytes ≡ Some (record', behind) → ¬ IsFormed entries kept record'

-- one stands there, with this behind it, and makes that of what is kept
pub record HasOne (entries : ℕ) (old new : Kept) (bytes behind : List ℕ) : Type 0 where
  pub first : Record
  pub is_first : first_record bytes ≡ Some (first, behind)
  pub formed : IsFormed entries old first
  pub kept_is : new ≡ after first old
