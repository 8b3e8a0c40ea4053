-- An item has one spelling, and it is read back from it.
use Rattle.std.proofs.Common.{◌≡◌, ◌∙◌, ap, sym, refl, subst, ℕ, ◌<◌, ◌≤◌, ◌^◌, List, [], ◌∷◌, ◌++◌, Bool, true, false, cond, nat_le, nat_eq, Some, None, Option, length, take, drop, get_or, append_assoc, arith, inl, inr, length-append}
use Rattle.std.proofs.lemmas.Nat.{from_le_bytes-to_le_bytes_8, le_bytes_8}
use Rattle.std.proofs.lemmas.List.{take-append-drop, length-take, length-take-le, get_or-take, get_or_past}
use Rattle.std.proofs.lemmas.Bool.Decides.{nat_tests, leb_tells}
use Rattle.std.specs.Int.{w64, from_le_bytes}
use Rattle.disk.specs.declared.file_id.Folder.{Folder}
use Rattle.disk.specs.declared.file_id.Folder.TheVariants as version
use Rattle.records.specs.declared.record.Record.{Record}
use Rattle.records.specs.declared.record.Record.TheVariants.{Made, Removed, Acknowledged, AcknowledgedThrough, AcknowledgedRange}
use Rattle.records.specs.Names.{is_subscription_name}
use Rattle.records.specs.Records.{name_of, HasPositions}
use Rattle.records.specs.Bytes.{placed, spelling}
use Rattle.records.specs.Reading.{first_position, first_record}
use Rattle.records.specs.Spelled.{AreBytes, bytes_dropped, read_spelling, spelt}
use Rattle.gated_log.specs.declared.start.Start.{Start}
use Rattle.cursor_store.specs.declared.item.Item.{Item}
use Rattle.cursor_store.specs.declared.item.Item.TheVariants.{Change, Trim}
use Rattle.cursor_store.specs.ItemBytes.{item_spelling, with_segment, with_base, first_trim, as_change, first_item}

-- a record's name is one
abbrev pub IsNamed : Item → Type 0
IsNamed (Change change) = is_subscription_name (name_of change) ≡ true
IsNamed (Trim start) = Unit {0}

-- and all its numbers are
abbrev pub HasNumbers : Item → Type 0
HasNumbers (Change change) = HasPositions change
HasNumbers (Trim start) = (start.base < 2 ^ 64) × (start.first < 2 ^ 64)

-- version 2 has no trims
abbrev pub IsIn : Folder → Item → Type 0
IsIn folder (Change change) = Unit {0}
IsIn version.One (Trim start) = Unit {0}
IsIn version.Two (Trim start) = ⊥

-- ---- what was spelled is read

position_read : (p : ℕ) (rest : List ℕ) → p < 2 ^ 64 → first_position (placed p ++ rest) ≡ Some p
position_read p rest fits =
    let long : nat_le 8 (length (placed p ++ rest)) ≡ true = let l = length-append (placed p) rest in grind (arith, nat_tests) in
    rw long (ap (λ (n : ℕ). Some n) (from_le_bytes-to_le_bytes_8 p fits))

trim_read : (start : Start) (rest : List ℕ) → start.base < 2 ^ 64 → start.first < 2 ^ 64 → first_trim (placed start.base ++ (placed start.first ++ rest)) ≡ Some (Trim start, rest)
trim_read start rest fits fits' =
    ap (λ (o : Option ℕ). with_base o (placed start.base ++ (placed start.first ++ rest))) (position_read start.base (placed start.first ++ rest) fits)
    ∙ ap (λ (o : Option ℕ). with_segment start.base o (placed start.first ++ rest)) (position_read start.first rest fits')

record_read : (folder : Folder) (r : Record) (rest : List ℕ) → first_item folder (spelling r ++ rest) ≡ as_change (first_record (spelling r ++ rest))
record_read version.One (Made name start) rest = refl
record_read version.One (Removed name) rest = refl
record_read version.One (Acknowledged name position) rest = refl
record_read version.One (AcknowledgedThrough name position) rest = refl
record_read version.One (AcknowledgedRange name first last) rest = refl
record_read version.Two (Made name start) rest = refl
record_read version.Two (Removed name) rest = refl
record_read version.Two (Acknowledged name position) rest = refl
record_read version.Two (AcknowledgedThrough name position) rest = refl
record_read version.Two (AcknowledgedRange name first last) rest = refl

pub read_item : (folder : Folder) (item : Item) (rest : List ℕ) → IsIn folder item → IsNamed item → HasNumbers item → first_item folder (item_spelling item ++ rest) ≡ Some (item, rest)
read_item folder (Change r) rest is_in named fits = record_read folder r rest ∙ ap (λ (o : Option (Record × List ℕ)). as_change o) (read_spelling r rest named fits)
read_item version.One (Trim start) rest is_in named fits = ap (λ (l : List ℕ). first_trim l) (append_assoc (placed start.base) (placed start.first) rest) ∙ trim_read start rest fits.0 fits.1
read_item version.Two (Trim start) rest is_in named fits = absurd is_in

-- ---- what is read was spelled

some_same : {A : Type 0} (x y : A) → Some x ≡ Some y → x ≡ y
some_same x y e = cc

pair_first : {A B : Type 0} (x y : A × B) → Some x ≡ Some y → x.0 ≡ y.0
pair_first x y e = ap (λ (p : _). p.0) (some_same x y e)

pair_second : {A B : Type 0} (x y : A × B) → Some x ≡ Some y → x.1 ≡ y.1
pair_second x y e = ap (λ (p : _). p.1) (some_same x y e)

-- these bytes begin with the spelling of an item with a name
pub record IsSpelt (bytes : List ℕ) (item : Item) (rest : List ℕ) : Type 0 where
  pub good : IsNamed item
  pub bytes_are : bytes ≡ item_spelling item ++ rest

bytes_taken : (n : ℕ) (bytes : List ℕ) → AreBytes bytes → AreBytes (take n bytes)
bytes_taken n bytes are i =
    elim (leb_tells n i) [
      | inl past ↦ let z : get_or (take n bytes) i 0 ≡ 0 = get_or_past (take n bytes) i 0 (let l = length-take n bytes in omega arith) in omega (arith, z)
      | inr within ↦ let z : get_or (take n bytes) i 0 ≡ get_or bytes i 0 = get_or-take n bytes i 0 within.1 in let b = are i in omega (arith, z, b)
    ]

position_spelled : (bytes : List ℕ) (p : ℕ) → AreBytes bytes → first_position bytes ≡ Some p → bytes ≡ placed p ++ drop 8 bytes
position_spelled bytes p are is = by_test (nat_le 8 (length bytes)) refl is
  where
    by_test : (a : Bool) → nat_le 8 (length bytes) ≡ a → cond a (Some (from_le_bytes w64 (take 8 bytes))) None ≡ Some p → bytes ≡ placed p ++ drop 8 bytes
    by_test true fits is' =
        let low : 8 ≤ length bytes = grind (arith, nat_tests) in
        let eight = length-take-le 8 bytes low in
        let e : placed p ≡ take 8 bytes = le_bytes_8 (take 8 bytes) p eight (bytes_taken 8 bytes are) (sym (some_same _ _ is')) in
        sym (take-append-drop 8 bytes) ∙ ap (λ (l : List ℕ). l ++ drop 8 bytes) (sym e)
    by_test false fits is' = absurd (Prim.cc)

trim_spelt : (bytes : List ℕ) (item : Item) (rest : List ℕ) → AreBytes bytes → first_trim bytes ≡ Some (item, rest) → IsSpelt (6 ∷ bytes) item rest
trim_spelt bytes item rest are is = by_base (first_position bytes) refl is
  where
    by_segment : (base : ℕ) → first_position bytes ≡ Some base → (o : Option ℕ) → first_position (drop 8 bytes) ≡ o → with_segment base o (drop 8 bytes) ≡ Some (item, rest) → IsSpelt (6 ∷ bytes) item rest
    by_segment base found None found' is' = absurd (Prim.cc)
    by_segment base found (Some first) found' is' =
        let start : Start = record { base = base; first = first } in
        let all : bytes ≡ (placed base ++ placed first) ++ rest =
        position_spelled bytes base are found
        ∙ ap (λ (l : List ℕ). placed base ++ l) (position_spelled (drop 8 bytes) first (bytes_dropped 8 bytes are) found' ∙ ap (λ (l : List ℕ). placed first ++ l) (pair_second _ _ is'))
        ∙ sym (append_assoc (placed base) (placed first) rest) in
        subst (λ (x : Item). IsSpelt (6 ∷ bytes) x rest) (pair_first (Trim start, drop 8 (drop 8 bytes)) (item, rest) is')
        (record { good = tt; bytes_are = ap (λ (l : List ℕ). 6 ∷ l) all })

    by_base : (o : Option ℕ) → first_position bytes ≡ o → with_base o bytes ≡ Some (item, rest) → IsSpelt (6 ∷ bytes) item rest
    by_base None found is' = absurd (Prim.cc)
    by_base (Some base) found is' = by_segment base found (first_position (drop 8 bytes)) refl is'

change_spelt : (bytes : List ℕ) (item : Item) (rest : List ℕ) → AreBytes bytes → as_change (first_record bytes) ≡ Some (item, rest) → IsSpelt bytes item rest
change_spelt bytes item rest are is = by_found (first_record bytes) refl is
  where
    by_found : (o : Option (Record × List ℕ)) → first_record bytes ≡ o → as_change o ≡ Some (item, rest) → IsSpelt bytes item rest
    by_found None found is' = absurd (Prim.cc)
    by_found (Some found) is-found is' =
        let was = spelt bytes found.0 found.1 are is-found in
        subst (λ (x : Item). IsSpelt bytes x rest) (pair_first (Change found.0, found.1) (item, rest) is')
        (record { good = was.good; bytes_are = was.bytes_are ∙ ap (λ (l : List ℕ). spelling found.0 ++ l) (pair_second (Change found.0, found.1) (item, rest) is') })

pub item_spelt : (folder : Folder) (bytes : List ℕ) (item : Item) (rest : List ℕ) → AreBytes bytes → first_item folder bytes ≡ Some (item, rest) → IsSpelt bytes item rest
item_spelt folder [] item rest are is = absurd (Prim.cc)
item_spelt version.Two (kind ∷ bytes) item rest are is = change_spelt (kind ∷ bytes) item rest are is
item_spelt version.One (kind ∷ bytes) item rest are is = by_kind (nat_eq kind 6) refl is
  where
    by_kind : (b : Bool) → nat_eq kind 6 ≡ b → cond b (first_trim bytes) (as_change (first_record (kind ∷ bytes))) ≡ Some (item, rest) → IsSpelt (kind ∷ bytes) item rest
    by_kind true six is' =
        let e : kind ≡ 6 = grind (arith, nat_tests) in
        subst (λ (k : ℕ). IsSpelt (k ∷ bytes) item rest) (sym e) (trim_spelt bytes item rest (bytes_dropped 1 (kind ∷ bytes) are) is')
    by_kind false other is' = change_spelt (kind ∷ bytes) item rest are is'

-- ---- one spelling

in_one : (item : Item) → IsIn version.One item
in_one (Change change) = tt
in_one (Trim start) = tt

pub one_spelling : (a b : Item) (x y : List ℕ) → IsNamed a → HasNumbers a → IsNamed b → HasNumbers b → item_spelling a ++ x ≡ item_spelling b ++ y → (a ≡ b) × (x ≡ y)
one_spelling a b x y good fits good' fits' same =
    let e : Some (a, x) ≡ Some (b, y) = sym (read_item version.One a x (in_one a) good fits) ∙ ap (λ (l : List ℕ). first_item version.One l) same ∙ read_item version.One b y (in_one b) good' fits' in
    (pair_first _ _ e, pair_second _ _ e)
