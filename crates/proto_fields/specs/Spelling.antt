-- The one spelling of fields that are written: shortest varints.
use Rattle.std.specs.Prelude.{ℕ, zero, suc, ◌+◌, ◌*◌, ◌/◌, ◌%◌, List, [], ◌∷◌, ◌++◌, length, nat_lt, if◌then◌else◌}

-- groups of seven bits, the low group first, at most this many behind the first
unfoldable pub groups : ℕ → ℕ → List ℕ
groups zero n = n ∷ []
groups (suc more) n = if nat_lt n 128 then n ∷ [] else (n % 128 + 128) ∷ groups more (n / 128)

-- the shortest varint of a number; as many groups as the number says are always enough
unfoldable pub varint : ℕ → List ℕ
varint n = groups n n

-- a field of wire type 0, which holds a number
abbrev pub number_field : ℕ → ℕ → List ℕ
number_field number n = varint (8 * number) ++ varint n

-- what stands before the bytes of a field of wire type 2: its tag, and how many they are
abbrev pub bytes_head : ℕ → ℕ → List ℕ
bytes_head number count = varint (8 * number + 2) ++ varint count

-- a field of wire type 2, which holds bytes, a text or an embedded message: its head, and then they
abbrev pub bytes_field : ℕ → List ℕ → List ℕ
bytes_field number content = varint (8 * number + 2) ++ varint (length content) ++ content
