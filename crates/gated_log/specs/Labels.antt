-- What a header is, by the version of its folder.
use Rattle.std.specs.Prelude.{◌≡◌, ℕ, ◌<◌, ◌^◌, List, [], ◌∷◌, ◌++◌}
use Rattle.std.proofs.Common.{refl}
use Rattle.std.specs.Int.{w64, to_le_bytes}
use Rattle.disk.specs.declared.file_id.Folder.{Folder}
use Rattle.disk.specs.declared.file_id.Folder.TheVariants.{One, Two}
use Rattle.gated_log.specs.declared.label.Label.{Label}
use Rattle.gated_log.specs.Starts.{untrimmed}

-- the letters PULSAR
abbrev pub mark : List ℕ
mark = 0x50 ∷ 0x55 ∷ 0x4c ∷ 0x53 ∷ 0x41 ∷ 0x52 ∷ []

-- a number alone
abbrev pub plain : ℕ → Label
plain n = record { number = n; start = untrimmed }

-- the number and, in version 2, the position of the first entry and the number of the first segment
abbrev pub label_bytes : Folder → Label → List ℕ
label_bytes One l = to_le_bytes w64 l.number
label_bytes Two l = to_le_bytes w64 l.number ++ to_le_bytes w64 l.start.base ++ to_le_bytes w64 l.start.first

abbrev pub label_size : Folder → ℕ
label_size One = 8
label_size Two = 24

abbrev pub header_size : Folder → ℕ
header_size One = 16
header_size Two = 32

abbrev pub version_of : Folder → ℕ
version_of One = 1
version_of Two = 2

-- a label that a header of this version has
abbrev pub IsLabel : Folder → Label → Type 0
IsLabel One l = (l.number < 2 ^ 64) × (l ≡ plain l.number)
IsLabel Two l = (l.number < 2 ^ 64) × (l.start.base < 2 ^ 64) × (l.start.first < 2 ^ 64)

-- a gate (1 if it is open), the mark, the version and a label
abbrev pub header : Folder → ℕ → Label → List ℕ
header folder gate l = gate ∷ 0x50 ∷ 0x55 ∷ 0x4c ∷ 0x53 ∷ 0x41 ∷ 0x52 ∷ version_of folder ∷ label_bytes folder l

-- a label whose numbers have eight bytes is one, where in version 1 it is a number alone
pub label_fits : (folder : Folder) (l : Label) → l.number < 2 ^ 64 → l.start.base < 2 ^ 64 → l.start.first < 2 ^ 64 → (folder ≡ One → l ≡ plain l.number) → IsLabel folder l
label_fits One l number base first alone = (number, alone refl)
label_fits Two l number base first alone = (number, base, first)
