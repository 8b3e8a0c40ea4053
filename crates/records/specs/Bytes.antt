-- The bytes of cursor records. Our own format.
use Rattle.std.specs.Prelude.{◌≡◌, ℕ, List, [], ◌∷◌, ◌++◌, length}
use Rattle.std.specs.List.{flat_map}
use Rattle.std.specs.Int.{w64, to_le_bytes}
use Rattle.records.specs.declared.record.Record.{Record}
use Rattle.records.specs.declared.record.Record.TheVariants.{Made, Removed, Acknowledged, AcknowledgedThrough, AcknowledgedRange}
use Rattle.records.specs.Maps.{Kept}
use Rattle.records.specs.Records.{AreFormed, after_all}

-- a name's length, and the name
abbrev pub named : List ℕ → List ℕ
named name = length name ∷ name

-- a position in eight bytes, the low one first
abbrev pub placed : ℕ → List ℕ
placed position = to_le_bytes w64 position

abbrev pub spelling : Record → List ℕ
spelling (Made name start) = 1 ∷ named name ++ placed start
spelling (Removed name) = 2 ∷ named name
spelling (Acknowledged name position) = 3 ∷ named name ++ placed position
spelling (AcknowledgedThrough name position) = 4 ∷ named name ++ placed position
spelling (AcknowledgedRange name first last) = 5 ∷ named name ++ (placed first ++ placed last)

-- the body of a batch: its kind, and the records
abbrev pub body_of : List Record → List ℕ
body_of records = 0 ∷ flat_map spelling records

-- The body of records of their form, beside a ledger of so many entries and what is kept before it, and what they make of that.
pub record IsBody (entries : ℕ) (old : Kept) (body : List ℕ) (new : Kept) : Type 0 where
  pub records : List Record
  pub body_is : body ≡ body_of records
  pub formed : AreFormed entries old records
  pub new_is : new ≡ after_all records old

-- the bodies are of their form, each behind the ones before it, and make that of what is kept
abbrev pub Means : ℕ → Kept → List (List ℕ) → Kept → Type 0
Means entries kept [] end = end ≡ kept
Means entries kept (body ∷ bodies) end = (next : Kept) × IsBody entries kept body next × Means entries next bodies end
