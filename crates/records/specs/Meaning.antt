-- Bodies mean one map.
use Rattle.std.proofs.Common.{◌≡◌, ◌∙◌, ap, sym, refl, subst, ℕ, ◌<◌, ◌≤◌, ◌^◌, List, [], ◌∷◌, ◌++◌, drop, length, arith, length-append}
use Rattle.std.specs.List.{flat_map}
use Rattle.records.specs.declared.record.Record.{Record}
use Rattle.records.specs.declared.record.Record.TheVariants.{Made, Removed, Acknowledged, AcknowledgedThrough, AcknowledgedRange}
use Rattle.records.specs.Maps.{Kept}
use Rattle.records.specs.Records.{AreFormed, after, after_all}
use Rattle.records.specs.Bytes.{spelling, IsBody, Means}
use Rattle.records.specs.Applied.{formed_positions, are_formed_longer}
use Rattle.records.specs.Spelled.{one_spelling}

pub spelling_some : (r : Record) → 0 < length (spelling r)
spelling_some (Made name start) = omega arith
spelling_some (Removed name) = omega arith
spelling_some (Acknowledged name position) = omega arith
spelling_some (AcknowledgedThrough name position) = omega arith
spelling_some (AcknowledgedRange name first last) = omega arith

pub nothing_spelt : (r : Record) (rest : List ℕ) → spelling r ++ rest ≡ [] → ⊥
nothing_spelt r rest is = omega (arith, ap length is, length-append (spelling r) rest, spelling_some r)

spelt_alike : (entries : ℕ) (old : Kept) (rs ss : List Record) → entries ≤ 2 ^ 62 → AreFormed entries old rs → AreFormed entries old ss → flat_map spelling rs ≡ flat_map spelling ss → rs ≡ ss
spelt_alike entries old [] [] low formed formed' same = refl
spelt_alike entries old [] (s ∷ ss) low formed formed' same = absurd (nothing_spelt s (flat_map spelling ss) (sym same))
spelt_alike entries old (r ∷ rs) [] low formed formed' same = absurd (nothing_spelt r (flat_map spelling rs) same)
spelt_alike entries old (r ∷ rs) (s ∷ ss) low formed formed' same =
    let one = one_spelling r s (flat_map spelling rs) (flat_map spelling ss) formed.0.name_is (formed_positions entries old r low formed.0) formed'.0.name_is (formed_positions entries old s low formed'.0) same in
    let rest = spelt_alike entries (after r old) rs ss low formed.1 (subst (λ (x : Record). AreFormed entries (after x old) ss) (sym one.0) formed'.1) one.1 in
    λ i. one.0 i ∷ rest i

-- a body makes one map
pub body_one : (entries : ℕ) (old : Kept) (body : List ℕ) (a b : Kept) → entries ≤ 2 ^ 62 → IsBody entries old body a → IsBody entries old body b → a ≡ b
body_one entries old body a b low is is' =
    let same : is.records ≡ is'.records = spelt_alike entries old is.records is'.records low is.formed is'.formed (ap (λ (l : List ℕ). drop 1 l) (sym is.body_is ∙ is'.body_is)) in
    is.new_is ∙ ap (λ (rs : List Record). after_all rs old) same ∙ sym is'.new_is

pub means_one : (entries : ℕ) (old : Kept) (bodies : List (List ℕ)) (a b : Kept) → entries ≤ 2 ^ 62 → Means entries old bodies a → Means entries old bodies b → a ≡ b
means_one entries old [] a b low is is' = is ∙ sym is'
means_one entries old (body ∷ bodies) a b low is is' =
    let same = body_one entries old body is.0 is'.0 low is.1 is'.1 in
    means_one entries is.0 bodies a b low is.2 (subst (λ (k : Kept). Means entries k bodies b) (sym same) is'.2)

-- a longer ledger changes nothing
pub body_longer : (entries more : ℕ) (old : Kept) (body : List ℕ) (new : Kept) → entries ≤ more → IsBody entries old body new → IsBody more old body new
body_longer entries more old body new low is = record { records = is.records; body_is = is.body_is; formed = are_formed_longer entries more old is.records low is.formed; new_is = is.new_is }

pub means_longer : (entries more : ℕ) (old : Kept) (bodies : List (List ℕ)) (kept : Kept) → entries ≤ more → Means entries old bodies kept → Means more old bodies kept
means_longer entries more old [] kept low is = is
means_longer entries more old (body ∷ bodies) kept low is = (is.0, body_longer entries more old body is.0 low is.1, means_longer entries more is.0 bodies kept low is.2)

-- one body more
pub means_more : (entries : ℕ) (old : Kept) (bodies : List (List ℕ)) (kept : Kept) (body : List ℕ) (next : Kept) → Means entries old bodies kept → IsBody entries kept body next → Means entries old (bodies ++ body ∷ []) next
means_more entries old [] kept body next is more = (next, subst (λ (k : Kept). IsBody entries k body next) is more, refl)
means_more entries old (b ∷ bodies) kept body next is more = (is.0, is.1, means_more entries is.0 bodies kept body next is.2 more)

-- bodies that mean something, and a body among them that means nothing there
pub none_bad : (entries : ℕ) (old : Kept) (before : List (List ℕ)) (body : List ℕ) (behind : List (List ℕ)) (kept new : Kept) → entries ≤ 2 ^ 62 → Means entries old before kept → ((next : Kept) → ¬ IsBody entries kept body next) → ¬ Means entries old (before ++ body ∷ behind) new
none_bad entries old [] body behind kept new low is bad = λ all. bad all.0 (subst (λ (k : Kept). IsBody entries k body all.0) (sym is) all.1)
none_bad entries old (b ∷ before) body behind kept new low is bad = λ all.
    let same = body_one entries old b is.0 all.0 low is.1 all.1 in
    none_bad entries is.0 before body behind kept new low is.2 bad (subst (λ (k : Kept). Means entries k (before ++ body ∷ behind) new) (sym same) all.2)
