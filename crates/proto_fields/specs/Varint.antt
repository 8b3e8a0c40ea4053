-- Varints: groups of seven bits, the low group first, the high bit set on all bytes but the last.
use Rattle.std.specs.Prelude.{◌≡◌, ◌<◌, ◌≤◌, ℕ, zero, suc, ◌+◌, ◌-◌, ◌*◌, ◌^◌, List, [], ◌∷◌, length, Result, Ok, Err, nat_lt, if◌then◌else◌}
use Rattle.proto_fields.specs.declared.fault.FieldFault.{FieldFault}
use Rattle.proto_fields.specs.declared.fault.FieldFault.TheVariants.{Cut, TooLong}
use Rattle.proto_fields.specs.Reading.{◌>>=◌}

-- the number that the bytes spell, all of them
abbrev pub IsGroups : List ℕ → ℕ → Type 0
IsGroups [] n = ⊥
IsGroups (b ∷ []) n = (b < 128) × (n ≡ b)
IsGroups (b ∷ c ∷ bytes) n = (128 ≤ b) × (high : ℕ) × (n ≡ b - 128 + 128 * high) × IsGroups (c ∷ bytes) high

-- a varint: up to ten bytes, a number of 64 bits; longer spellings count
pub record IsVarint (bytes : List ℕ) (n : ℕ) : Type 0 where
  pub groups : IsGroups bytes n
  pub short : length bytes ≤ 10
  pub small : n < 2 ^ 64

-- the number of at most this many groups at the front, and the bytes after them
unfoldable pub groups_at : ℕ → List ℕ → Result (ℕ × List ℕ) FieldFault
groups_at zero bytes = Err TooLong
groups_at (suc left) [] = Err Cut
groups_at (suc left) (b ∷ bytes) = if nat_lt b 128 then Ok (b, bytes) else (groups_at left bytes >>= λ high. Ok (b - 128 + 128 * high.0, high.1))

-- the varint at the front, and the bytes after it; or why there is none
unfoldable pub varint_at : List ℕ → Result (ℕ × List ℕ) FieldFault
varint_at bytes = groups_at 10 bytes >>= λ n. if nat_lt n.0 (2 ^ 64) then Ok n else Err TooLong
