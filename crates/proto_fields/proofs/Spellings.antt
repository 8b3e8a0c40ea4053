-- Reading a field and its spelling say the same.
use Rattle.std.proofs.Common.{◌≡◌, ◌<◌, ◌≤◌, ℕ, zero, suc, ◌+◌, ◌-◌, ◌*◌, ◌/◌, ◌%◌, ◌^◌, List, [], ◌∷◌, ◌++◌, Ok, Result, nat_lt, nat_le, nat_eq, true, false, refl, ap, ◌∙◌, sym, arith, length, drop, inl, inr, ◌&&◌, subst, append_assoc, length-append}
use Rattle.std.proofs.Math.Seq.{take-append_seam, drop-append_seam}
use Rattle.std.proofs.lemmas.List.{take-append-drop, length-take-le}
use Rattle.std.proofs.lemmas.Bool.Decides.{nat_tests}
use Rattle.proto_fields.specs.declared.fault.FieldFault.{FieldFault}
use Rattle.proto_fields.specs.declared.value.Field.{Field}
use Rattle.proto_fields.specs.declared.value.Value.{Value}
use Rattle.proto_fields.specs.declared.value.Value.TheVariants.{Varint, Fixed64, Bytes, Fixed32}
use Rattle.proto_fields.specs.Varint.{IsGroups, IsVarint, groups_at, varint_at}
use Rattle.proto_fields.specs.Fields.{IsValue, IsField, part_at, value_at, field_at}
use Rattle.proto_fields.specs.Laws.{ReadsSpellings}
use Rattle.proto_fields.proofs.Steps.{bind_ok, chosen}

abbrev pub AreSame : {A : Type 0} → A → List ℕ → A → List ℕ → Type 0
AreSame {A} a x b y = let left : Result (A × List ℕ) FieldFault = Ok (a, x) in left ≡ Ok (b, y)

pub same_parts : {A : Type 0} (a : A) (x : List ℕ) (b : A) (y : List ℕ) → AreSame a x b y → (a ≡ b) × (x ≡ y)
same_parts {A} a x b y h = let e : (let left : A × List ℕ = (a, x) in left ≡ (b, y)) = cc in (ap (λ p. p.0) e, ap (λ p. p.1) e)

-- one more group in front
pub groups-cons : (b high : ℕ) (front : List ℕ) → 128 ≤ b → IsGroups front high → IsGroups (b ∷ front) (b - 128 + 128 * high)
groups-cons b high [] le h = absurd h
groups-cons b high (c ∷ front) le h = (le, high, omega arith, h)

pub groups_at-spelled : (left : ℕ) (bytes : List ℕ) (n : ℕ) (rest : List ℕ) → groups_at left bytes ≡ Ok (n, rest) →
    (front : List ℕ) × (bytes ≡ front ++ rest) × IsGroups front n × (length front ≤ left)
unfolding groups_at
groups_at-spelled zero bytes n rest h = cc
groups_at-spelled (suc left) [] n rest h = cc
groups_at-spelled (suc left) (b ∷ bytes) n rest h =
    elim (chosen (nat_lt b 128) _ _ _ h) [
      | inl p ↦
          let same = same_parts _ _ _ _ p.1 in
          let small : b < 128 = let e = p.0 in grind (arith, nat_tests) in
          (b ∷ [], ap (λ l. b ∷ l) same.1, (small, sym same.0), omega arith)
      | inr p ↦
          let large : 128 ≤ b = let e = p.0 in grind (arith, nat_tests) in
          let high = bind_ok (groups_at left bytes) _ _ p.1 in
          let found = groups_at-spelled left bytes high.0.0 high.0.1 high.1 in
          let same = same_parts _ _ _ _ high.2 in
          let more = groups-cons b high.0.0 found.0 large found.2 in
          let P : ℕ → Type 0 = IsGroups (b ∷ found.0) in
          (b ∷ found.0, ap (λ l. b ∷ l) (found.1 ∙ ap (λ l. found.0 ++ l) same.1), subst P same.0 more, (let k = found.3 in omega arith))
    ]

pub spelled-groups_at : (left : ℕ) (front : List ℕ) (n : ℕ) (rest : List ℕ) → IsGroups front n → length front ≤ left → groups_at left (front ++ rest) ≡ Ok (n, rest)
unfolding groups_at
spelled-groups_at left [] n rest h le = absurd h
spelled-groups_at zero (b ∷ front) n rest h le = absurd (omega arith)
spelled-groups_at (suc left) (b ∷ []) n rest h le =
    let small : b < 128 = h.0 in
    let e : nat_lt b 128 ≡ true = grind (arith, nat_tests) in rw e (ap (λ k. Ok (k, rest)) (sym h.1))
spelled-groups_at (suc left) (b ∷ c ∷ front) n rest h le =
    let large : 128 ≤ b = h.0 in
    let e : nat_lt b 128 ≡ false = grind (arith, nat_tests) in
    let high = spelled-groups_at left (c ∷ front) h.1 rest h.3 (omega arith) in
    let total = h.2 in
    let same : b - 128 + 128 * h.1 ≡ n = omega arith in
    rw e (rw high (ap (λ k. Ok (k, rest)) same))

pub varint_at-spelled : (bytes : List ℕ) (n : ℕ) (rest : List ℕ) → varint_at bytes ≡ Ok (n, rest) → (front : List ℕ) × (bytes ≡ front ++ rest) × IsVarint front n
unfolding varint_at
varint_at-spelled bytes n rest h =
    let found = bind_ok (groups_at 10 bytes) _ _ h in
    elim (chosen (nat_lt found.0.0 (2 ^ 64)) _ _ _ found.2) [
      | inl p ↦
          let same = same_parts found.0.0 found.0.1 n rest p.1 in
          let spelled = groups_at-spelled 10 bytes found.0.0 found.0.1 found.1 in
          let small : found.0.0 < 2 ^ 64 = let e = p.0 in grind (arith, nat_tests) in
          let P : ℕ → Type 0 = IsVarint spelled.0 in
          (spelled.0, spelled.1 ∙ ap (λ l. spelled.0 ++ l) same.1, subst P same.0 (record { groups = spelled.2; short = spelled.3; small = small }))
      | inr p ↦ cc
    ]

pub spelled-varint_at : (front : List ℕ) (n : ℕ) (rest : List ℕ) → IsVarint front n → varint_at (front ++ rest) ≡ Ok (n, rest)
unfolding varint_at
spelled-varint_at front n rest h =
    let small : n < 2 ^ 64 = h.small in
    let e : nat_lt n (2 ^ 64) ≡ true = grind (arith, nat_tests) in
    rw (spelled-groups_at 10 front n rest h.groups h.short) (rw e refl)

pub part_at-spelled : (size : ℕ) (bytes part rest : List ℕ) → part_at size bytes ≡ Ok (part, rest) → (bytes ≡ part ++ rest) × (length part ≡ size)
unfolding part_at
part_at-spelled size bytes part rest h =
    elim (chosen (nat_lt (length bytes) size) _ _ _ h) [
      | inl p ↦ cc
      | inr p ↦
          let long : size ≤ length bytes = let e = p.0 in grind (arith, nat_tests) in
          let same = same_parts _ _ _ _ p.1 in (
            sym (take-append-drop size bytes) ∙ ap (λ l. l ++ drop size bytes) same.0 ∙ ap (λ l. part ++ l) same.1,
            ap length (sym same.0) ∙ length-take-le size bytes long,
          )
    ]

spelled-part_at : (size : ℕ) (part rest : List ℕ) → length part ≡ size → part_at size (part ++ rest) ≡ Ok (part, rest)
unfolding part_at
spelled-part_at size part rest e =
    let P : ℕ → Type 0 = λ k. part_at k (part ++ rest) ≡ Ok (part, rest) in
    let long : nat_lt (length (part ++ rest)) (length part) ≡ false = let k = length-append part rest in grind (arith, nat_tests) in
    subst P e (rw long (rw (take-append_seam part rest) (rw (drop-append_seam part rest) refl)))

pub value_at-spelled : (wire : ℕ) (bytes : List ℕ) (v : Value) (rest : List ℕ) → value_at wire bytes ≡ Ok (v, rest) →
    (front : List ℕ) × (bytes ≡ front ++ rest) × IsValue v wire front
unfolding value_at
value_at-spelled wire bytes v rest h =
    elim (chosen (nat_eq wire 0) _ _ _ h) [
      | inl p ↦
          let is : wire ≡ 0 = let e = p.0 in grind (arith, nat_tests) in
          let n = bind_ok (varint_at bytes) _ _ p.1 in
          let found = varint_at-spelled bytes n.0.0 n.0.1 n.1 in
          let same = same_parts _ _ _ _ n.2 in
          let P : Value → Type 0 = λ w. IsValue w wire found.0 in
          (found.0, found.1 ∙ ap (λ l. found.0 ++ l) same.1, subst P same.0 (is, found.2))
      | inr p ↦ elim (chosen (nat_eq wire 1) _ _ _ p.1) [
        | inl q ↦
            let is : wire ≡ 1 = let e = q.0 in grind (arith, nat_tests) in
            let n = bind_ok (part_at 8 bytes) _ _ q.1 in
            let found = part_at-spelled 8 bytes n.0.0 n.0.1 n.1 in
            let same = same_parts _ _ _ _ n.2 in
            let P : Value → Type 0 = λ w. IsValue w wire n.0.0 in
            (n.0.0, found.0 ∙ ap (λ l. n.0.0 ++ l) same.1, subst P same.0 (is, found.1, refl))
        | inr q ↦ elim (chosen (nat_eq wire 2) _ _ _ q.1) [
          | inl r ↦
              let is : wire ≡ 2 = let e = r.0 in grind (arith, nat_tests) in
              let n = bind_ok (varint_at bytes) _ _ r.1 in
              let size = varint_at-spelled bytes n.0.0 n.0.1 n.1 in
              let part = bind_ok (part_at n.0.0 n.0.1) _ _ n.2 in
              let found = part_at-spelled n.0.0 n.0.1 part.0.0 part.0.1 part.1 in
              let same = same_parts _ _ _ _ part.2 in
              let P : Value → Type 0 = λ w. IsValue w wire (size.0 ++ part.0.0) in
              let Q : ℕ → Type 0 = IsVarint size.0 in (
                size.0 ++ part.0.0,
                size.1 ∙ ap (λ l. size.0 ++ l) (found.0 ∙ ap (λ l. part.0.0 ++ l) same.1) ∙ sym (append_assoc size.0 part.0.0 rest),
                subst P same.0 (is, size.0, subst Q (sym found.1) size.2, refl),
              )
          | inr r ↦ elim (chosen (nat_eq wire 5) _ _ _ r.1) [
            | inl s ↦
                let is : wire ≡ 5 = let e = s.0 in grind (arith, nat_tests) in
                let n = bind_ok (part_at 4 bytes) _ _ s.1 in
                let found = part_at-spelled 4 bytes n.0.0 n.0.1 n.1 in
                let same = same_parts _ _ _ _ n.2 in
                let P : Value → Type 0 = λ w. IsValue w wire n.0.0 in
                (n.0.0, found.0 ∙ ap (λ l. n.0.0 ++ l) same.1, subst P same.0 (is, found.1, refl))
            | inr s ↦ cc
          ]
        ]
      ]
    ]

spelled-value_at : (v : Value) (wire : ℕ) (front rest : List ℕ) → IsValue v wire front → value_at wire (front ++ rest) ≡ Ok (v, rest)
unfolding value_at
spelled-value_at (Varint n) wire front rest h =
    rw h.0 (rw (spelled-varint_at front n rest h.1) refl)
spelled-value_at (Fixed64 n) wire front rest h =
    rw h.0 (rw (spelled-part_at 8 front rest h.1) (ap (λ k. Ok (Fixed64 k, rest)) (sym h.2)))
spelled-value_at (Bytes content) wire front rest h =
    rw h.0 (rw h.3 (rw (append_assoc h.1 content rest)
    (rw (spelled-varint_at h.1 (length content) (content ++ rest) h.2) (rw (spelled-part_at (length content) content rest refl) refl))))
spelled-value_at (Fixed32 n) wire front rest h =
    rw h.0 (rw (spelled-part_at 4 front rest h.1) (ap (λ k. Ok (Fixed32 k, rest)) (sym h.2)))

field_at-spelled : (bytes : List ℕ) (field : Field) (rest : List ℕ) → field_at bytes ≡ Ok (field, rest) →
    (front : List ℕ) × (bytes ≡ front ++ rest) × IsField field front
unfolding field_at
field_at-spelled bytes field rest h =
    let tag = bind_ok (varint_at bytes) _ _ h in
    let tag_text = varint_at-spelled bytes tag.0.0 tag.0.1 tag.1 in
    elim (chosen (nat_le 1 (tag.0.0 / 8) && nat_le (tag.0.0 / 8) 536870911) _ _ _ tag.2) [
      | inl p ↦
          let value = bind_ok (value_at (tag.0.0 % 8) tag.0.1) _ _ p.1 in
          let content = value_at-spelled (tag.0.0 % 8) tag.0.1 value.0.0 value.0.1 value.1 in
          let same = same_parts _ _ _ _ value.2 in
          let e : (nat_le 1 (tag.0.0 / 8) && nat_le (tag.0.0 / 8) 536870911) ≡ true = p.0 in
          let positive : 1 ≤ tag.0.0 / 8 = grind (arith, nat_tests) in
          let small : tag.0.0 / 8 ≤ 536870911 = grind (arith, nat_tests) in
          let parts : tag.0.0 ≡ 8 * (tag.0.0 / 8) + tag.0.0 % 8 = omega arith in
          let Q : ℕ → Type 0 = IsVarint tag_text.0 in
          let P : Field → Type 0 = λ f. IsField f (tag_text.0 ++ content.0) in (
            tag_text.0 ++ content.0,
            tag_text.1 ∙ ap (λ l. tag_text.0 ++ l) (content.1 ∙ ap (λ l. content.0 ++ l) same.1) ∙ sym (append_assoc tag_text.0 content.0 rest),
            subst P same.0 (record {
              tag = tag_text.0;
              content = content.0;
              wire = tag.0.0 % 8;
              whole = refl;
              tag_is = record { varint = subst Q parts tag_text.2; wire_small = omega arith };
              number_is = (positive, small);
              value_is = content.2;
            }),
          )
      | inr p ↦ cc
    ]

pub spelled-field_at : (field : Field) (front rest : List ℕ) → IsField field front → field_at (front ++ rest) ≡ Ok (field, rest)
unfolding field_at
spelled-field_at field front rest h =
    let small : h.wire < 8 = h.tag_is.wire_small in
    let number : (8 * field.number + h.wire) / 8 ≡ field.number = omega arith in
    let wire : (8 * field.number + h.wire) % 8 ≡ h.wire = omega arith in
    let positive : 1 ≤ field.number = h.number_is.0 in
    let bounded : field.number ≤ 536870911 = h.number_is.1 in
    let test : (nat_le 1 field.number && nat_le field.number 536870911) ≡ true = grind (arith, nat_tests) in
    rw h.whole (rw (append_assoc h.tag h.content rest) (rw (spelled-varint_at h.tag (8 * field.number + h.wire) (h.content ++ rest) h.tag_is.varint)
    (rw (number, wire) (rw test (rw (spelled-value_at field.value h.wire h.content rest h.value_is) refl)))))

pub reads_spellings : ReadsSpellings
reads_spellings bytes field rest = (
  field_at-spelled bytes field rest,
  λ found. let P : List ℕ → Type 0 = λ b. field_at b ≡ Ok (field, rest) in subst P (sym found.1) (spelled-field_at field found.0 rest found.2),
)
