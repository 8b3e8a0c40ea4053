-- A record has one spelling, and it is read back from it.
use Rattle.std.proofs.Common.{◌≡◌, ◌∙◌, ap, sym, refl, subst, ℕ, suc, ◌+◌, ◌<◌, ◌≤◌, ◌^◌, List, [], ◌∷◌, ◌++◌, Bool, true, false, ◌&&◌, cond, nat_le, nat_eq, Some, None, Option, length, take, drop, get_or, append_assoc, arith, inl, inr, length-append}
use Rattle.std.proofs.lemmas.Nat.{from_le_bytes-to_le_bytes_8, le_bytes_8}
use Rattle.std.proofs.lemmas.List.{take_at, drop_at, take-append-drop, length-take, length-take-le, get_or-take, get_or-drop, get_or_past}
use Rattle.std.proofs.lemmas.Bool.Decides.{nat_tests, leb_tells, eqb_tells}
use Rattle.std.specs.Int.{w64, from_le_bytes}
use Rattle.records.specs.declared.record.Record.{Record}
use Rattle.records.specs.declared.record.Record.TheVariants.{Made, Removed, Acknowledged, AcknowledgedThrough, AcknowledgedRange}
use Rattle.records.specs.Names.{is_subscription_name}
use Rattle.records.specs.Records.{name_of, HasPositions}
use Rattle.records.specs.Bytes.{named, placed, spelling}
use Rattle.records.specs.Reading.{first_name, first_position, with_position, with_positions, record_with, record_at, first_record}

-- ---- what was spelled is read

name_read : (name rest : List ℕ) → is_subscription_name name ≡ true → first_name (named name ++ rest) ≡ Some name
name_read name rest is =
    let fits : nat_le (length name) (length (name ++ rest)) ≡ true = let l = length-append name rest in grind (arith, nat_tests) in
    rw (fits, take_at name rest (length name) refl, is) refl

head_read : (kind : ℕ) (name rest : List ℕ) → is_subscription_name name ≡ true → first_record (kind ∷ (named name ++ rest)) ≡ record_with kind name rest
head_read kind name rest is =
    ap (λ (o : Option (List ℕ)). record_at kind o (named name ++ rest)) (name_read name rest is)
    ∙ ap (λ (bytes : List ℕ). record_with kind name bytes) (drop_at name rest (length name) refl)

position_read : (p : ℕ) (rest : List ℕ) → p < 2 ^ 64 → first_position (placed p ++ rest) ≡ Some p
position_read p rest fits =
    let long : nat_le 8 (length (placed p ++ rest)) ≡ true = let l = length-append (placed p) rest in grind (arith, nat_tests) in
    rw long (ap (λ (n : ℕ). Some n) (from_le_bytes-to_le_bytes_8 p fits))

one_read : (made : ℕ → Record) (p : ℕ) (rest : List ℕ) → p < 2 ^ 64 → with_position made (first_position (placed p ++ rest)) (placed p ++ rest) ≡ Some (made p, rest)
one_read made p rest fits = ap (λ (o : Option ℕ). with_position made o (placed p ++ rest)) (position_read p rest fits)

two_read : (made : ℕ → ℕ → Record) (p q : ℕ) (rest : List ℕ) → p < 2 ^ 64 → q < 2 ^ 64 → with_positions made (first_position (placed p ++ (placed q ++ rest))) (placed p ++ (placed q ++ rest)) ≡ Some (made p q, rest)
two_read made p q rest fits fits' = ap (λ (o : Option ℕ). with_positions made o (placed p ++ (placed q ++ rest))) (position_read p (placed q ++ rest) fits) ∙ one_read (made p) q rest fits'

pub read_spelling : (r : Record) (rest : List ℕ) → is_subscription_name (name_of r) ≡ true → HasPositions r → first_record (spelling r ++ rest) ≡ Some (r, rest)
read_spelling (Made name start) rest is fits = ap (λ (l : List ℕ). first_record (1 ∷ (length name ∷ l))) (append_assoc name (placed start) rest) ∙ head_read 1 name (placed start ++ rest) is ∙ one_read (Made name) start rest (omega (arith, fits))
read_spelling (Removed name) rest is fits = head_read 2 name rest is
read_spelling (Acknowledged name position) rest is fits = ap (λ (l : List ℕ). first_record (3 ∷ (length name ∷ l))) (append_assoc name (placed position) rest) ∙ head_read 3 name (placed position ++ rest) is ∙ one_read (Acknowledged name) position rest (omega (arith, fits))
read_spelling (AcknowledgedThrough name position) rest is fits = ap (λ (l : List ℕ). first_record (4 ∷ (length name ∷ l))) (append_assoc name (placed position) rest) ∙ head_read 4 name (placed position ++ rest) is ∙ one_read (AcknowledgedThrough name) position rest (omega (arith, fits))
read_spelling (AcknowledgedRange name first last) rest is fits =
    ap (λ (l : List ℕ). first_record (5 ∷ (length name ∷ l))) (append_assoc name (placed first ++ placed last) rest) ∙ head_read 5 name (placed first ++ (placed last ++ rest)) is
    ∙ two_read (AcknowledgedRange name) first last rest (omega (arith, fits.0, fits.1)) (omega (arith, fits.1))

-- ---- what is read was spelled

abbrev pub AreBytes : List ℕ → Type 0
AreBytes bytes = (i : ℕ) → get_or bytes i 0 < 256

some_same : {A : Type 0} (x y : A) → Some x ≡ Some y → x ≡ y
some_same x y e = cc

pub record IsNamed (bytes name : List ℕ) : Type 0 where
  pub good : is_subscription_name name ≡ true
  pub bytes_are : bytes ≡ named name ++ drop (length name) (drop 1 bytes)

name_spelled : (bytes name : List ℕ) → first_name bytes ≡ Some name → IsNamed bytes name
name_spelled [] name is = absurd (Prim.cc)
name_spelled (n ∷ bytes) name is = by_test (nat_le n (length bytes)) (is_subscription_name (take n bytes)) refl refl is
  where
    by_test : (a b : Bool) → nat_le n (length bytes) ≡ a → is_subscription_name (take n bytes) ≡ b → cond (a && b) (Some (take n bytes)) None ≡ Some name → IsNamed (n ∷ bytes) name
    by_test true true fits good is' =
        let low : n ≤ length bytes = grind (arith, nat_tests) in
        let long = length-take-le n bytes low in
        subst (λ (t : List ℕ). IsNamed (n ∷ bytes) t) (some_same (take n bytes) name is') (record {
          good = good;
          bytes_are = (λ i. sym long i ∷ sym (take-append-drop n bytes) i) ∙ ap (λ (k : ℕ). length (take n bytes) ∷ (take n bytes ++ drop k bytes)) (sym long);
        })
    by_test true false fits good is' = absurd (Prim.cc)
    by_test false b fits good is' = absurd (Prim.cc)

bytes_taken : (n : ℕ) (bytes : List ℕ) → AreBytes bytes → AreBytes (take n bytes)
bytes_taken n bytes are i =
    elim (leb_tells n i) [
      | inl past ↦ let z : get_or (take n bytes) i 0 ≡ 0 = get_or_past (take n bytes) i 0 (let l = length-take n bytes in omega arith) in omega (arith, z)
      | inr within ↦ let z : get_or (take n bytes) i 0 ≡ get_or bytes i 0 = get_or-take n bytes i 0 within.1 in let b = are i in omega (arith, z, b)
    ]

pub bytes_dropped : (n : ℕ) (bytes : List ℕ) → AreBytes bytes → AreBytes (drop n bytes)
bytes_dropped n bytes are i = let z : get_or (drop n bytes) i 0 ≡ get_or bytes (n + i) 0 = get_or-drop n bytes i 0 in let b = are (n + i) in omega (arith, z, b)

position_spelled : (bytes : List ℕ) (p : ℕ) → AreBytes bytes → first_position bytes ≡ Some p → bytes ≡ placed p ++ drop 8 bytes
position_spelled bytes p are is = by_test (nat_le 8 (length bytes)) refl is
  where
    by_test : (a : Bool) → nat_le 8 (length bytes) ≡ a → cond a (Some (from_le_bytes w64 (take 8 bytes))) None ≡ Some p → bytes ≡ placed p ++ drop 8 bytes
    by_test true fits is' =
        let low : 8 ≤ length bytes = grind (arith, nat_tests) in
        let eight = length-take-le 8 bytes low in
        let e : placed p ≡ take 8 bytes = le_bytes_8 (take 8 bytes) p eight (bytes_taken 8 bytes are) (sym (some_same _ _ is')) in
        sym (take-append-drop 8 bytes) ∙ ap (λ (l : List ℕ). l ++ drop 8 bytes) (sym e)
    by_test false fits is' = absurd (Prim.cc)

-- a record of one position
record IsOne (made : ℕ → Record) (bytes : List ℕ) (r : Record) (rest : List ℕ) : Type 0 where
  position : ℕ
  record_is : r ≡ made position
  bytes_are : bytes ≡ placed position ++ rest

pair_first : {A B : Type 0} (x y : A × B) → Some x ≡ Some y → x.0 ≡ y.0
pair_first x y e = ap (λ (p : _). p.0) (some_same x y e)

pair_second : {A B : Type 0} (x y : A × B) → Some x ≡ Some y → x.1 ≡ y.1
pair_second x y e = ap (λ (p : _). p.1) (some_same x y e)

one_spelled : (made : ℕ → Record) (bytes : List ℕ) (r : Record) (rest : List ℕ) → AreBytes bytes → with_position made (first_position bytes) bytes ≡ Some (r, rest) → IsOne made bytes r rest
one_spelled made bytes r rest are is = by_found (first_position bytes) refl is
  where
    by_found : (o : Option ℕ) → first_position bytes ≡ o → with_position made o bytes ≡ Some (r, rest) → IsOne made bytes r rest
    by_found None found is' = absurd (Prim.cc)
    by_found (Some p) found is' = record {
      position = p;
      record_is = sym (pair_first _ _ is');
      bytes_are = position_spelled bytes p are found ∙ ap (λ (l : List ℕ). placed p ++ l) (pair_second _ _ is');
    }

-- a record of two
record IsTwo (made : ℕ → ℕ → Record) (bytes : List ℕ) (r : Record) (rest : List ℕ) : Type 0 where
  first : ℕ
  last : ℕ
  record_is : r ≡ made first last
  bytes_are : bytes ≡ placed first ++ (placed last ++ rest)

two_spelled : (made : ℕ → ℕ → Record) (bytes : List ℕ) (r : Record) (rest : List ℕ) → AreBytes bytes → with_positions made (first_position bytes) bytes ≡ Some (r, rest) → IsTwo made bytes r rest
two_spelled made bytes r rest are is = by_found (first_position bytes) refl is
  where
    by_found : (o : Option ℕ) → first_position bytes ≡ o → with_positions made o bytes ≡ Some (r, rest) → IsTwo made bytes r rest
    by_found None found is' = absurd (Prim.cc)
    by_found (Some p) found is' =
        let next = one_spelled (made p) (drop 8 bytes) r rest (bytes_dropped 8 bytes are) is' in
        record {
          first = p;
          last = next.position;
          record_is = next.record_is;
          bytes_are = position_spelled bytes p are found ∙ ap (λ (l : List ℕ). placed p ++ l) next.bytes_are;
        }

-- these bytes begin with the spelling of a record with a name
pub record IsSpelt (bytes : List ℕ) (r : Record) (rest : List ℕ) : Type 0 where
  pub good : is_subscription_name (name_of r) ≡ true
  pub bytes_are : bytes ≡ spelling r ++ rest

one_spelt : (kind : ℕ) (made : ℕ → Record) (name bytes : List ℕ) (r : Record) (rest : List ℕ) → is_subscription_name name ≡ true → ((p : ℕ) → name_of (made p) ≡ name) → ((p : ℕ) → spelling (made p) ≡ kind ∷ (named name ++ placed p))
    → IsOne made bytes r rest → IsSpelt (kind ∷ (named name ++ bytes)) r rest
one_spelt kind made name bytes r rest good names spells one =
    subst (λ (x : Record). IsSpelt (kind ∷ (named name ++ bytes)) x rest) (sym one.record_is) (record {
      good = ap is_subscription_name (names one.position) ∙ good;
      bytes_are = ap (λ (l : List ℕ). kind ∷ (named name ++ l)) one.bytes_are ∙ ap (λ (l : List ℕ). kind ∷ l) (sym (append_assoc (named name) (placed one.position) rest)) ∙ ap (λ (l : List ℕ). l ++ rest) (sym (spells one.position));
    })

two_spelt : (name bytes : List ℕ) (r : Record) (rest : List ℕ) → is_subscription_name name ≡ true → IsTwo (AcknowledgedRange name) bytes r rest → IsSpelt (5 ∷ (named name ++ bytes)) r rest
two_spelt name bytes r rest good two =
    subst (λ (x : Record). IsSpelt (5 ∷ (named name ++ bytes)) x rest) (sym two.record_is) (record {
      good = good;
      bytes_are = ap (λ (l : List ℕ). 5 ∷ (named name ++ l)) two.bytes_are ∙ ap (λ (l : List ℕ). 5 ∷ l) (sym (append_assoc (named name) (placed two.first ++ placed two.last) rest));
    })

with_spelt : (kind : ℕ) (name bytes : List ℕ) (r : Record) (rest : List ℕ) → is_subscription_name name ≡ true → AreBytes bytes → record_with kind name bytes ≡ Some (r, rest) → IsSpelt (kind ∷ (named name ++ bytes)) r rest
with_spelt kind name bytes r rest good are is =
    elim (eqb_tells kind 1) [
      | inl e ↦ at_kind 1 e.1 (λ is'. one_spelt 1 (Made name) name bytes r rest good (λ p. refl) (λ p. refl) (one_spelled (Made name) bytes r rest are is'))
      | inr n1 ↦ elim (eqb_tells kind 2) [
        | inl e ↦ at_kind 2 e.1 (λ is'. removed is')
        | inr n2 ↦ elim (eqb_tells kind 3) [
          | inl e ↦ at_kind 3 e.1 (λ is'. one_spelt 3 (Acknowledged name) name bytes r rest good (λ p. refl) (λ p. refl) (one_spelled (Acknowledged name) bytes r rest are is'))
          | inr n3 ↦ elim (eqb_tells kind 4) [
            | inl e ↦ at_kind 4 e.1 (λ is'. one_spelt 4 (AcknowledgedThrough name) name bytes r rest good (λ p. refl) (λ p. refl) (one_spelled (AcknowledgedThrough name) bytes r rest are is'))
            | inr n4 ↦ elim (eqb_tells kind 5) [
              | inl e ↦ at_kind 5 e.1 (λ is'. two_spelt name bytes r rest good (two_spelled (AcknowledgedRange name) bytes r rest are is'))
              | inr n5 ↦
                  let t1 : nat_eq kind 1 ≡ false = grind (arith, nat_tests) in
                  let t2 : nat_eq kind 2 ≡ false = grind (arith, nat_tests) in
                  let t3 : nat_eq kind 3 ≡ false = grind (arith, nat_tests) in
                  let t4 : nat_eq kind 4 ≡ false = grind (arith, nat_tests) in
                  let t5 : nat_eq kind 5 ≡ false = grind (arith, nat_tests) in
                  absurd (let nothing = rw (t1, t2, t3, t4, t5) at is in cc)
            ]
          ]
        ]
      ]
    ]
  where
    at_kind : (k : ℕ) → kind ≡ k → (record_with k name bytes ≡ Some (r, rest) → IsSpelt (k ∷ (named name ++ bytes)) r rest) → IsSpelt (kind ∷ (named name ++ bytes)) r rest
    at_kind k e there = subst (λ (j : ℕ). IsSpelt (j ∷ (named name ++ bytes)) r rest) (sym e) (there (subst (λ (j : ℕ). record_with j name bytes ≡ Some (r, rest)) e is))

    removed : record_with 2 name bytes ≡ Some (r, rest) → IsSpelt (2 ∷ (named name ++ bytes)) r rest
    removed is' = subst (λ (x : Record). IsSpelt (2 ∷ (named name ++ bytes)) x rest) (pair_first _ _ is') (record { good = good; bytes_are = ap (λ (l : List ℕ). 2 ∷ (named name ++ l)) (pair_second _ _ is') })

bytes_behind : (b : ℕ) (bytes : List ℕ) → AreBytes (b ∷ bytes) → AreBytes bytes
bytes_behind b bytes are = λ i. are (suc i)

pub spelt : (bytes : List ℕ) (r : Record) (rest : List ℕ) → AreBytes bytes → first_record bytes ≡ Some (r, rest) → IsSpelt bytes r rest
spelt [] r rest are is = absurd (Prim.cc)
spelt (kind ∷ bytes) r rest are is = by_found (first_name bytes) refl is
  where
    by_found : (o : Option (List ℕ)) → first_name bytes ≡ o → record_at kind o bytes ≡ Some (r, rest) → IsSpelt (kind ∷ bytes) r rest
    by_found None found is' = absurd (Prim.cc)
    by_found (Some name) found is' =
        let named_so = name_spelled bytes name found in
        subst (λ (l : List ℕ). IsSpelt (kind ∷ l) r rest) (sym named_so.bytes_are)
        (with_spelt kind name (drop (length name) (drop 1 bytes)) r rest named_so.good (bytes_dropped (length name) (drop 1 bytes) (bytes_dropped 1 bytes (bytes_behind kind bytes are))) is')

-- ---- one spelling

pub one_spelling : (r s : Record) (x y : List ℕ) → is_subscription_name (name_of r) ≡ true → HasPositions r → is_subscription_name (name_of s) ≡ true → HasPositions s → spelling r ++ x ≡ spelling s ++ y → (r ≡ s) × (x ≡ y)
one_spelling r s x y good fits good' fits' same =
    let e : Some (r, x) ≡ Some (s, y) = sym (read_spelling r x good fits) ∙ ap first_record same ∙ read_spelling s y good' fits' in
    (pair_first _ _ e, pair_second _ _ e)
