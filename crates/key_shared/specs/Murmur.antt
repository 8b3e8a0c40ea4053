-- MurmurHash3 for x86, 32 bits, with seed 0, and the slot of a key. Sums and products are modulo 2 ^ 32.
use Rattle.std.specs.Prelude.{ℕ, ◌+◌, ◌*◌, ◌/◌, ◌%◌, ◌^◌, List, [], ◌∷◌, length, bit_xor, map}
use Rattle.std.specs.List.{fold}
use Rattle.std.specs.Int.{w32, rotate_left}

-- the number that bytes spell, the low one first
abbrev pub little_endian : List ℕ → ℕ
little_endian [] = 0
little_endian (b ∷ bs) = b + 2 ^ 8 * little_endian bs

-- the whole blocks of four bytes, from the front on
abbrev pub blocks : List ℕ → List (List ℕ)
blocks [] = []
blocks (a ∷ []) = []
blocks (a ∷ b ∷ []) = []
blocks (a ∷ b ∷ c ∷ []) = []
blocks (a ∷ b ∷ c ∷ d ∷ rest) = (a ∷ b ∷ c ∷ d ∷ []) ∷ blocks rest

-- the bytes behind the whole blocks
abbrev pub tail : List ℕ → List ℕ
tail [] = []
tail (a ∷ []) = a ∷ []
tail (a ∷ b ∷ []) = a ∷ b ∷ []
tail (a ∷ b ∷ c ∷ []) = a ∷ b ∷ c ∷ []
tail (a ∷ b ∷ c ∷ d ∷ rest) = tail rest

-- the three steps on the number of a block
unfoldable pub scrambled : ℕ → ℕ
scrambled k = (rotate_left w32 ((k * 0xcc9e2d51) % 2 ^ 32) 15 * 0x1b873593) % 2 ^ 32

-- the hash behind a whole block
unfoldable pub mixed : ℕ → ℕ → ℕ
mixed h k = ((rotate_left w32 (bit_xor h (scrambled k)) 13 * 5) % 2 ^ 32 + 0xe6546b64) % 2 ^ 32

-- the hash behind whole blocks, from h on
abbrev pub mixed_in : ℕ → List (List ℕ) → ℕ
mixed_in h blocks = fold mixed h (map little_endian blocks)

-- spreads each bit of the hash over all of it
unfoldable pub finished : ℕ → ℕ
finished h =
    let once : ℕ = (bit_xor h (h / 2 ^ 16) * 0x85ebca6b) % 2 ^ 32 in
    let twice : ℕ = (bit_xor once (once / 2 ^ 13) * 0xc2b2ae35) % 2 ^ 32 in
    bit_xor twice (twice / 2 ^ 16)

-- the hash of a byte string: the whole blocks in order, the tail, the length
abbrev pub murmur : List ℕ → ℕ
murmur bytes = finished (bit_xor (bit_xor (mixed_in 0 (blocks bytes)) (scrambled (little_endian (tail bytes)))) (length bytes % 2 ^ 32))

-- the slot of a key: the low sixteen bits of its hash
abbrev pub slot_of : List ℕ → ℕ
slot_of key = murmur key % 2 ^ 16
