-- The fields of the bytes, one at a time.
use Rattle.std.proofs.Common.{◌≡◌, ◌≢◌, ◌<◌, ◌≤◌, ℕ, zero, suc, List, [], ◌∷◌, ◌++◌, length, Ok, Err, Result, refl, ap, ◌∙◌, sym, arith, subst, inl, inr, append_assoc}
use Rattle.proto_fields.specs.declared.fault.FieldFault.{FieldFault}
use Rattle.proto_fields.specs.declared.value.Field.{Field}
use Rattle.proto_fields.specs.Reading.{◌>>=◌}
use Rattle.proto_fields.specs.Fields.{FieldsOf, field_at, fields_within, fields_of}
use Rattle.proto_fields.specs.Laws.{ReadsWhole, HasOneReading, FaultBehind, ReadsFirstFault}
use Rattle.proto_fields.proofs.Steps.{bind_ok, bind_err}
use Rattle.proto_fields.proofs.Shorter.{field_at-shorter}
use Rattle.proto_fields.proofs.Spellings.{reads_spellings}
use Rattle.proto_fields.proofs.Faults.{names_faults}

-- the first field in front of the others
abbrev pub with_first : Field → Result (List Field) FieldFault → Result (List Field) FieldFault
with_first field others = others >>= λ fields. Ok (field ∷ fields)

abbrev pub from_first : ℕ → Result (Field × List ℕ) FieldFault → Result (List Field) FieldFault
from_first count first = first >>= λ x. fields_within count x.1 >>= λ others. Ok (x.0 ∷ others)

-- with room enough, the room doesn't matter
within-same : (m n : ℕ) (bytes : List ℕ) → length bytes ≤ m → length bytes ≤ n → fields_within m bytes ≡ fields_within n bytes
unfolding fields_within
within-same zero zero [] h k = refl
within-same zero (suc n) [] h k = refl
within-same (suc m) zero [] h k = refl
within-same (suc m) (suc n) [] h k = refl
within-same zero n (b ∷ bytes) h k = absurd (omega arith)
within-same (suc m) zero (b ∷ bytes) h k = absurd (omega arith)
within-same (suc m) (suc n) (b ∷ bytes) h k =
    let after : (r : Result (Field × List ℕ) FieldFault) → field_at (b ∷ bytes) ≡ r → from_first m r ≡ from_first n r
    = λ r e. elim r as (λ r. field_at (b ∷ bytes) ≡ r → from_first m r ≡ from_first n r) [
      | Ok x ↦ λ found.
          let shorter : length x.1 < length (b ∷ bytes) = field_at-shorter (b ∷ bytes) x found in
          ap (with_first x.0) (within-same m n x.1 (omega arith) (omega arith))
      | Err fault ↦ λ found. refl
    ] e
    in after (field_at (b ∷ bytes)) refl

-- one field and the others
pub fields_of-more : (bytes : List ℕ) (x : Field × List ℕ) → field_at bytes ≡ Ok x → fields_of bytes ≡ (fields_of x.1 >>= λ others. Ok (x.0 ∷ others))
unfolding fields_of fields_within
fields_of-more [] x h = let shorter : length x.1 < 0 = field_at-shorter [] x h in absurd (omega arith)
fields_of-more (b ∷ bytes) x h =
    let shorter : length x.1 < length (b ∷ bytes) = field_at-shorter (b ∷ bytes) x h in
    rw h (ap (with_first x.0) (within-same (length bytes) (length x.1) x.1 (omega arith) (omega arith)))

-- the first fault
pub fields_of-fault : (bytes : List ℕ) (fault : FieldFault) → bytes ≢ [] → field_at bytes ≡ Err fault → fields_of bytes ≡ Err fault
unfolding fields_of fields_within
fields_of-fault [] fault some h = absurd (some refl)
fields_of-fault (b ∷ bytes) fault some h = rw h refl

pub fields_of-none : fields_of [] ≡ Ok []
unfolding fields_of fields_within
fields_of-none = refl

abbrev AreOk : List Field → List Field → Type 0
AreOk xs ys = let left : Result (List Field) FieldFault = Ok xs in left ≡ Ok ys

same_ok : (xs ys : List Field) → AreOk xs ys → xs ≡ ys
same_ok xs ys h = cc

within-whole : (count : ℕ) (bytes : List ℕ) (fields : List Field) → fields_within count bytes ≡ Ok fields → FieldsOf bytes fields
unfolding fields_within
within-whole zero [] fields h = let e = same_ok [] fields h in let P : List Field → Type 0 = FieldsOf [] in subst P e refl
within-whole (suc count) [] fields h = let e = same_ok [] fields h in let P : List Field → Type 0 = FieldsOf [] in subst P e refl
within-whole zero (b ∷ bytes) fields h = cc
within-whole (suc count) (b ∷ bytes) fields h =
    let first = bind_ok (field_at (b ∷ bytes)) _ _ h in
    let others = bind_ok (fields_within count first.0.1) _ _ first.2 in
    let rest = within-whole count first.0.1 others.0 others.1 in
    let e = same_ok (first.0.0 ∷ others.0) fields others.2 in
    let spelled = (reads_spellings (b ∷ bytes) first.0.0 first.0.1).0 first.1 in
    let P : List Field → Type 0 = FieldsOf (b ∷ bytes) in
    subst P e (spelled.0, first.0.1, spelled.1, spelled.2, rest)

whole-read : (bytes : List ℕ) (fields : List Field) → FieldsOf bytes fields → fields_of bytes ≡ Ok fields
whole-read bytes [] h = rw h fields_of-none
whole-read bytes (field ∷ fields) h =
    let found = (reads_spellings bytes field h.1).1 (h.0, h.2, h.3) in
    fields_of-more bytes (field, h.1) found ∙ rw (whole-read h.1 fields h.4) refl

pub reads_whole : ReadsWhole
unfolding fields_of
reads_whole bytes fields = (within-whole (length bytes) bytes fields, whole-read bytes fields)

pub has_one_reading : HasOneReading
has_one_reading bytes fields others one other =
    same_ok fields others (sym (whole-read bytes fields one) ∙ whole-read bytes others other)

-- one field more in front of a fault
fault-more : (bytes : List ℕ) (x : Field × List ℕ) (fields : List Field) (fault : FieldFault) → field_at bytes ≡ Ok x →
    FaultBehind fields fault x.1 → FaultBehind (x.0 ∷ fields) fault bytes
fault-more bytes x fields fault found behind =
    let spelled = (reads_spellings bytes x.0 x.1).0 found in
    record {
      front = spelled.0 ++ behind.front;
      rest = behind.rest;
      whole = spelled.1 ∙ ap (λ l. spelled.0 ++ l) behind.whole ∙ sym (append_assoc spelled.0 behind.front behind.rest);
      fields_are = (spelled.0, behind.front, refl, spelled.2, behind.fields_are);
      left = behind.left;
      fault_is = behind.fault_is;
    }

within-fault : (count : ℕ) (bytes : List ℕ) (fault : FieldFault) → length bytes ≤ count → fields_within count bytes ≡ Err fault →
    (fields : List Field) × FaultBehind fields fault bytes
unfolding fields_within
within-fault zero [] fault le h = cc
within-fault (suc count) [] fault le h = cc
within-fault zero (b ∷ bytes) fault le h = absurd (omega arith)
within-fault (suc count) (b ∷ bytes) fault le h =
    elim (bind_err (field_at (b ∷ bytes)) _ fault h) [
      | inl e ↦
          let is = (names_faults (b ∷ bytes) fault).0 e in
          ([], record { front = []; rest = b ∷ bytes; whole = refl; fields_are = refl; left = omega arith; fault_is = is })
      | inr x ↦ elim (bind_err (fields_within count x.0.1) _ fault x.2) [
        | inl e ↦
            let shorter : length x.0.1 < length (b ∷ bytes) = field_at-shorter (b ∷ bytes) x.0 x.1 in
            let others = within-fault count x.0.1 fault (omega arith) e in
            (x.0.0 ∷ others.0, fault-more (b ∷ bytes) x.0 others.0 fault x.1 others.1)
        | inr y ↦ cc
      ]
    ]

fault-read : (fields : List Field) (bytes front rest : List ℕ) (fault : FieldFault) → bytes ≡ front ++ rest → FieldsOf front fields →
    rest ≢ [] → field_at rest ≡ Err fault → fields_of bytes ≡ Err fault
fault-read [] bytes front rest fault whole h some found =
    rw whole (rw h (fields_of-fault rest fault some found))
fault-read (field ∷ fields) bytes front rest fault whole h some found =
    let cut : bytes ≡ h.0 ++ (h.1 ++ rest) = whole ∙ ap (λ l. l ++ rest) h.2 ∙ append_assoc h.0 h.1 rest in
    let first = (reads_spellings bytes field (h.1 ++ rest)).1 (h.0, cut, h.3) in
    fields_of-more bytes (field, h.1 ++ rest) first ∙ rw (fault-read fields (h.1 ++ rest) h.1 rest fault refl h.4 some found) refl

not_empty : (bytes : List ℕ) → 0 < length bytes → bytes ≢ []
not_empty [] h = absurd (omega arith)
not_empty (b ∷ bytes) h = λ e. cc

pub reads_first_fault : ReadsFirstFault
unfolding fields_of
reads_first_fault bytes fault = (
  within-fault (length bytes) bytes fault (omega arith),
  λ h. fault-read h.0 bytes h.1.front h.1.rest fault h.1.whole h.1.fields_are (not_empty h.1.rest h.1.left) ((names_faults h.1.rest fault).1 h.1.fault_is),
)
