-- How far the reading of a body has come.
use Rattle.std.proofs.Common.{◌≡◌, ◌∙◌, ap, sym, refl, subst, ℕ, ◌<◌, ◌≤◌, ◌^◌, List, [], ◌∷◌, ◌++◌, Some, length, drop, append_assoc, append-nil, arith, length-append}
use Rattle.std.specs.List.{flat_map}
use Rattle.std.proofs.lemmas.List.{drop_at}
use Rattle.std.proofs.lemmas.List.Concat.{flat_map-append}
use Rattle.records.specs.declared.record.Record.{Record}
use Rattle.records.specs.Maps.{Kept}
use Rattle.records.specs.Records.{IsFormed, AreFormed, after, after_all}
use Rattle.records.specs.Bytes.{spelling}
use Rattle.records.specs.Reading.{first_record, HasNone}
use Rattle.records.specs.Meaning.{spelling_some, nothing_spelt}
use Rattle.records.specs.Applied.{formed_positions, after_one_more, one_more_formed}
use Rattle.records.specs.Spelled.{AreBytes, bytes_dropped, read_spelling, spelt, one_spelling}

-- these records stand before the rest, and were applied
pub record HasApplied (entries : ℕ) (old : Kept) (bytes : List ℕ) (kept : Kept) (rest : List ℕ) : Type 0 where
  pub done : List Record
  pub bytes_are : bytes ≡ flat_map spelling done ++ rest
  pub formed : AreFormed entries old done
  pub kept_is : kept ≡ after_all done old

pub none_applied : (entries : ℕ) (old : Kept) (bytes : List ℕ) → HasApplied entries old bytes old bytes
none_applied entries old bytes = record { done = []; bytes_are = refl; formed = tt; kept_is = refl }

-- the rest, too, is bytes
pub bytes_behind : (rest : List ℕ) (r : Record) (behind : List ℕ) → AreBytes rest → first_record rest ≡ Some (r, behind) → AreBytes behind
bytes_behind rest r behind are first =
    let e = (spelt rest r behind are first).bytes_are in
    subst (λ (l : List ℕ). AreBytes l) (ap (λ (l : List ℕ). drop (length (spelling r)) l) e ∙ drop_at (spelling r) behind (length (spelling r)) refl) (bytes_dropped (length (spelling r)) rest are)

-- one record more
more_bytes : (done : List Record) (r : Record) (rest : List ℕ) → flat_map spelling done ++ (spelling r ++ rest) ≡ flat_map spelling (done ++ r ∷ []) ++ rest
more_bytes done r rest =
    sym (append_assoc (flat_map spelling done) (spelling r) rest)
    ∙ ap (λ (l : List ℕ). (flat_map spelling done ++ l) ++ rest) (sym (append-nil (spelling r)))
    ∙ ap (λ (l : List ℕ). l ++ rest) (sym (flat_map-append spelling done (r ∷ [])))

pub one_applied : (entries : ℕ) (old : Kept) (bytes : List ℕ) (kept : Kept) (rest : List ℕ) (r : Record) (behind : List ℕ)
    → AreBytes rest → first_record rest ≡ Some (r, behind) → IsFormed entries kept r → HasApplied entries old bytes kept rest → HasApplied entries old bytes (after r kept) behind
one_applied entries old bytes kept rest r behind are first formed so = record {
  done = so.done ++ r ∷ [];
  bytes_are = so.bytes_are ∙ ap (λ (l : List ℕ). flat_map spelling so.done ++ l) (spelt rest r behind are first).bytes_are ∙ more_bytes so.done r behind;
  formed = one_more_formed entries old so.done r so.formed (subst (λ (k : Kept). IsFormed entries k r) so.kept_is formed);
  kept_is = ap (λ (k : Kept). after r k) so.kept_is ∙ sym (after_one_more so.done r old);
}

-- the rest is shorter
pub shorter : (rest : List ℕ) (r : Record) (behind : List ℕ) → AreBytes rest → first_record rest ≡ Some (r, behind) → length behind < length rest
shorter rest r behind are first = omega (arith, ap length (spelt rest r behind are first).bytes_are, length-append (spelling r) behind, spelling_some r)

-- ---- records that spell the same

-- behind these records stand others, of their form there
pub record AreBehind (entries : ℕ) (kept : Kept) (rest : List ℕ) : Type 0 where
  pub others : List Record
  pub bytes_are : rest ≡ flat_map spelling others
  pub formed : AreFormed entries kept others

others_behind : (entries : ℕ) (old : Kept) (done records : List Record) (rest : List ℕ) → entries ≤ 2 ^ 62 → AreFormed entries old done → AreFormed entries old records → flat_map spelling done ++ rest ≡ flat_map spelling records → AreBehind entries (after_all done old) rest
others_behind entries old [] records rest low formed formed' same = record { others = records; bytes_are = same; formed = formed' }
others_behind entries old (d ∷ done) [] rest low formed formed' same = absurd (nothing_spelt d (flat_map spelling done ++ rest) (sym (append_assoc (spelling d) (flat_map spelling done) rest) ∙ same))
others_behind entries old (d ∷ done) (r ∷ records) rest low formed formed' same =
    let one = one_spelling d r (flat_map spelling done ++ rest) (flat_map spelling records) formed.0.name_is (formed_positions entries old d low formed.0) formed'.0.name_is (formed_positions entries old r low formed'.0) (sym (append_assoc (spelling d) (flat_map spelling done) rest) ∙ same) in
    others_behind entries (after d old) done records rest low formed.1 (subst (λ (x : Record). AreFormed entries (after x old) records) (sym one.0) formed'.1) one.1

behind_applied : (entries : ℕ) (old : Kept) (bytes : List ℕ) (kept : Kept) (rest : List ℕ) (records : List Record) → entries ≤ 2 ^ 62 → HasApplied entries old bytes kept rest → bytes ≡ flat_map spelling records → AreFormed entries old records → AreBehind entries kept rest
behind_applied entries old bytes kept rest records low so is formed =
    subst (λ (k : Kept). AreBehind entries k rest) (sym so.kept_is) (others_behind entries old so.done records rest low so.formed formed (sym so.bytes_are ∙ is))

-- where no record of its form stands next, there are no records of their form
bad_first : (entries : ℕ) (kept : Kept) (rest : List ℕ) (others : List Record) → entries ≤ 2 ^ 62 → 0 < length rest → HasNone entries kept rest → rest ≡ flat_map spelling others → AreFormed entries kept others → ⊥
bad_first entries kept rest [] low some bad is formed = omega (arith, some, ap length is)
bad_first entries kept rest (r ∷ others) low some bad is formed =
    bad r (flat_map spelling others) (ap first_record is ∙ read_spelling r (flat_map spelling others) formed.0.name_is (formed_positions entries kept r low formed.0)) formed.0

pub bad_next : (entries : ℕ) (old : Kept) (bytes : List ℕ) (kept : Kept) (rest : List ℕ) → entries ≤ 2 ^ 62 → HasApplied entries old bytes kept rest → 0 < length rest → HasNone entries kept rest
    → (records : List Record) → bytes ≡ flat_map spelling records → ¬ AreFormed entries old records
bad_next entries old bytes kept rest low so some bad records is = λ formed.
    let behind = behind_applied entries old bytes kept rest records low so is formed in
    bad_first entries kept rest behind.others low some bad behind.bytes_are behind.formed
