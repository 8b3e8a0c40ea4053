-- Consumers in rising id are searched by halves.
use Rattle.std.proofs.Common.{◌≡◌, inl, inr, ◌∙◌, ltb-true, leb-true, lt-ltb, le-leb, ◌<◌, ◌≤◌, ℕ, zero, suc, List, [], ◌∷◌, cond, length, Option, Some, None, nat_lt, nat_le, sym, ap, subst, arith}
use Rattle.std.specs.Prelude.{slice_index_or}
use Rattle.std.specs.Option.{option_map}
use Rattle.std.specs.List.{position, position_or_len, slice_get}
use Rattle.std.specs.List.Sorted.{IsPartitionedBy}
use Rattle.std.proofs.lemmas.Bool.{cases_lt, eqb-true, eq-eqb, ne_eqb, le-ltb}
use Rattle.std.proofs.lemmas.List.Folds.{find_at}
use Rattle.std.proofs.lemmas.List.Quantifiers.{position-Some}
use Rattle.std.proofs.lemmas.Option.{slice_get-get_or, slice_get_past}
use Rattle.std.proofs.lemmas.List.Sums.{position_or_len_is}
use Rattle.session.specs.declared.entry.Entry.{Entry}
use Rattle.session.specs.Table.{has_id, topic_of, AreRising}
use Rattle.session.proofs.Ordered.{AreAbove}

above-at : (id : ℕ) (xs : List Entry) (j : ℕ) (d : Entry) → AreAbove id xs → j < length xs → id < (slice_index_or xs j d).id
above-at id [] j d all h = absurd (omega (arith, h))
above-at id (x ∷ xs) zero d all h = all.0
above-at id (x ∷ xs) (suc j) d all h = above-at id xs j d all.1 (omega (arith, h))

-- a later one has a greater id
pub later : (xs : List Entry) (i j : ℕ) (d : Entry) → AreRising xs → i < j → j < length xs → (slice_index_or xs i d).id < (slice_index_or xs j d).id
later [] i j d rise h within = absurd (omega (arith, within))
later (x ∷ xs) i zero d rise h within = absurd (omega (arith, h))
later (x ∷ xs) zero (suc j) d rise h within = above-at x.id xs j d rise.0 (omega (arith, within))
later (x ∷ xs) (suc i) (suc j) d rise h within = later xs i j d rise.1 (omega (arith, h)) (omega (arith, within))

-- one that is there is the only one
pub found : (xs : List Entry) (id place : ℕ) (d : Entry) → AreRising xs → place < length xs → (slice_index_or xs place d).id ≡ id → position (has_id id) xs ≡ Some place
found xs id place d rise within is =
    let at : position_or_len (has_id id) xs ≡ place = position_or_len_is (has_id id) xs place d (omega (arith, within))
    (λ k h. ne_eqb _ id (λ same. omega (arith, same, is, later xs k place d rise h within))) (λ h. eq-eqb _ id is) in
    ap (λ n. cond (nat_lt n (length xs)) (Some n) None) at ∙ ap (λ b. cond b (Some place) None) (lt-ltb place (length xs) within)

pub told : (xs : List Entry) (id place : ℕ) (d : Entry) → AreRising xs → place < length xs → (slice_index_or xs place d).id ≡ id → Some place ≡ position (has_id id) xs
told xs id place d rise within is = sym (found xs id place d rise within is)

-- nobody has the id
pub missing : (xs : List Entry) (id : ℕ) (d : Entry) → ((k : ℕ) → k < length xs → (slice_index_or xs k d).id ≡ id → ⊥) → position (has_id id) xs ≡ None
missing xs id d none =
    let at : position_or_len (has_id id) xs ≡ length xs = position_or_len_is (has_id id) xs (length xs) d (omega arith) (λ k h. ne_eqb _ id (none k h)) (λ h. absurd (omega (arith, h))) in
    ap (λ n. cond (nat_lt n (length xs)) (Some n) None) at ∙ ap (λ b. cond b (Some (length xs)) None) (le-ltb (length xs) (length xs) (omega arith))

-- those in front have smaller ids, and the one there has a greater one
pub passed : (xs : List Entry) (id place : ℕ) (d : Entry) → AreRising xs → place < length xs → ((k : ℕ) → k < place → (slice_index_or xs k d).id < id) →
    id < (slice_index_or xs place d).id → position (has_id id) xs ≡ None
passed xs id place d rise within below is = missing xs id d (λ k h same. elim (cases_lt k place) [
  | inl before ↦ omega (arith, same, below k before)
  | inr behind ↦ elim (cases_lt place k) [
    | inl after ↦ omega (arith, same, is, later xs place k d rise after h)
    | inr there ↦
        let at : k ≡ place = omega (arith, behind, there) in
        let here : (slice_index_or xs place d).id ≡ id = rw at at same in
        omega (arith, here, is)
  ]
])

-- and none that is no earlier has a smaller one
no_earlier : (xs : List Entry) (i j : ℕ) (d : Entry) → AreRising xs → i ≤ j → j < length xs → (slice_index_or xs i d).id ≤ (slice_index_or xs j d).id
no_earlier xs i j d rise h within = elim (cases_lt i j) [
  | inl below ↦ let less = later xs i j d rise below within in omega (arith, less)
  | inr past ↦ let same : i ≡ j = omega (arith, h, past) in subst (λ n. (slice_index_or xs i d).id ≤ (slice_index_or xs n d).id) same (omega arith)
]

-- those with smaller ids come first
pub parted : (xs : List Entry) (id : ℕ) → AreRising xs → IsPartitionedBy (λ (c : Entry). nat_lt c.id id) xs
parted xs id rise i j d h k is = lt-ltb _ _ (omega (arith, ltb-true _ _ is, no_earlier xs i j d rise h k))

-- and those with no greater ids
pub parted_upto : (xs : List Entry) (id : ℕ) → AreRising xs → IsPartitionedBy (λ (c : Entry). nat_le c.id id) xs
parted_upto xs id rise i j d h k is = le-leb _ _ (omega (arith, leb-true _ _ is, no_earlier xs i j d rise h k))

-- whoever stands where an id does has it
pub id_there : (xs : List Entry) (id place : ℕ) (d : Entry) → position (has_id id) xs ≡ Some place → (slice_index_or xs place d).id ≡ id
id_there xs id place d at = eqb-true _ _ (position-Some (has_id id) xs place d at).1

-- and the topic of the id
pub topic_there : (xs : List Entry) (id place : ℕ) (d : Entry) → position (has_id id) xs ≡ Some place → topic_of xs id ≡ Some (slice_index_or xs place d).topic
topic_there xs id place d at =
    let there = position-Some (has_id id) xs place d at in
    let first : position_or_len (has_id id) xs ≡ place = position_or_len_is (has_id id) xs place d (omega (arith, there.0)) there.2 (λ within. there.1) in
    ap (λ (found : Option Entry). option_map (λ (e : Entry). e.topic) found) (find_at (has_id id) xs ∙ ap (λ n. slice_get xs n) first ∙ slice_get-get_or xs place d there.0)

not_nowhere : (place : ℕ) → Some place ≡ None → ⊥
not_nowhere place is = cc

-- an id that stands nowhere has none
pub topic_nowhere : (xs : List Entry) (id : ℕ) → position (has_id id) xs ≡ None → topic_of xs id ≡ None
topic_nowhere xs id none =
    let place = position_or_len (has_id id) xs in
    let past : length xs ≤ place = elim (cases_lt place (length xs)) [
      | inl within ↦ absurd (not_nowhere place (sym (ap (λ b. cond b (Some place) None) (lt-ltb place (length xs) within)) ∙ none))
      | inr past ↦ past
    ] in
    ap (λ (found : Option Entry). option_map (λ (e : Entry). e.topic) found) (find_at (has_id id) xs ∙ slice_get_past xs place past)

pub is_somewhere : (xs : List Entry) (id topic : ℕ) → topic_of xs id ≡ Some topic → position (has_id id) xs ≡ None → ⊥
is_somewhere xs id topic known none = not_nowhere topic (sym known ∙ topic_nowhere xs id none)

some_is : (a b : ℕ) → Some a ≡ Some b → a ≡ b
some_is a b h = cc

-- the entry of an id whose topic is known
pub stands : (xs : List Entry) (id topic place : ℕ) (x : Entry) → topic_of xs id ≡ Some topic → position (has_id id) xs ≡ Some place → x ≡ slice_index_or xs place x → x ≡ record { id = id; topic = topic }
stands xs id topic place x known at is =
    let same : x.id ≡ id = ap (λ (e : Entry). e.id) is ∙ id_there xs id place x at in
    let on : x.topic ≡ topic = ap (λ (e : Entry). e.topic) is ∙ some_is _ _ (sym (topic_there xs id place x at) ∙ known) in
    λ i. record { id = same i; topic = on i }

-- neither smaller nor the same
pub above_of : (a b : ℕ) → b ≤ a → (a ≡ b → ⊥) → b < a
above_of a b least apart = elim (cases_lt b a) [
  | inl below ↦ below
  | inr above ↦ absurd (apart (omega (arith, least, above)))
]

-- any entry at all
abbrev pub some_entry : Entry
some_entry = record { id = 0; topic = 0 }
