-- Reading answers a fault exactly where it is the first that stands.
use Rattle.std.proofs.Common.{◌≡◌, ◌≢◌, ◌<◌, ◌≤◌, ℕ, zero, suc, ◌+◌, ◌*◌, ◌/◌, ◌%◌, ◌^◌, List, [], ◌∷◌, ◌++◌, Ok, Err, Result, nat_lt, nat_le, nat_eq, true, false, refl, ap, ◌∙◌, sym, arith, length, take, ◌⊎◌, inl, inr, ◌&&◌, subst}
use Rattle.std.proofs.lemmas.Bool.Decides.{nat_tests}
use Rattle.std.proofs.lemmas.List.Elements.{All-nil, All-cons, All-head, All-tail}
use Rattle.proto_fields.specs.declared.fault.FieldFault.{FieldFault}
use Rattle.proto_fields.specs.declared.fault.FieldFault.TheVariants.{Cut, TooLong, BadTag, BadWire}
use Rattle.proto_fields.specs.Varint.{IsVarint, groups_at, varint_at}
use Rattle.proto_fields.specs.Fields.{IsFieldNumber, part_at, value_at, field_at}
use Rattle.proto_fields.specs.Faults.{AllHigh, IsVarintTooLong, IsVarintFault, IsValueCut, in_varint, in_fixed64, in_size, in_content, in_fixed32, IsValueFault, HasTag, IsNoFieldNumber, IsNoWireType, IsFieldFault, of_tag, of_number, of_wire, of_value}
use Rattle.proto_fields.specs.Laws.{NamesFaults}
use Rattle.proto_fields.proofs.Steps.{chosen, bind_err}
use Rattle.proto_fields.proofs.Spellings.{groups_at-spelled, spelled-groups_at, varint_at-spelled, spelled-varint_at}

abbrev AreFaults : (A : Type 0) → FieldFault → FieldFault → Type 0
AreFaults A d e = let left : Result A FieldFault = Err d in left ≡ Err e

same_fault : (A : Type 0) (d e : FieldFault) → AreFaults A d e → d ≡ e
same_fault A d e h = cc

-- why there are no groups, at most this many, at the front
abbrev IsGroupsFault : FieldFault → ℕ → List ℕ → Type 0
IsGroupsFault Cut left bytes = (length bytes < left) × AllHigh bytes
IsGroupsFault TooLong left bytes = (left ≤ length bytes) × AllHigh (take left bytes)
IsGroupsFault BadTag left bytes = ⊥
IsGroupsFault BadWire left bytes = ⊥

abbrev IsHigh : ℕ → Type 0
IsHigh b = 128 ≤ b

one-more : (fault : FieldFault) (left b : ℕ) (bytes : List ℕ) → 128 ≤ b → IsGroupsFault fault left bytes → IsGroupsFault fault (suc left) (b ∷ bytes)
one-more Cut left b bytes high h = let short : length bytes < left = h.0 in (omega arith, All-cons IsHigh b bytes high h.1)
one-more TooLong left b bytes high h = let long : left ≤ length bytes = h.0 in (omega arith, All-cons IsHigh b (take left bytes) high h.1)
one-more BadTag left b bytes high h = h
one-more BadWire left b bytes high h = h

groups_at-fault : (left : ℕ) (bytes : List ℕ) (fault : FieldFault) → groups_at left bytes ≡ Err fault → IsGroupsFault fault left bytes
unfolding groups_at
groups_at-fault zero bytes fault h =
    let P : FieldFault → Type 0 = λ f. IsGroupsFault f zero bytes in
    subst P (same_fault _ TooLong fault h) (omega arith, All-nil IsHigh)
groups_at-fault (suc left) [] fault h =
    let P : FieldFault → Type 0 = λ f. IsGroupsFault f (suc left) [] in
    subst P (same_fault _ Cut fault h) (omega arith, All-nil IsHigh)
groups_at-fault (suc left) (b ∷ bytes) fault h =
    elim (chosen (nat_lt b 128) _ _ _ h) [
      | inl p ↦ cc
      | inr p ↦
          let high : 128 ≤ b = let e = p.0 in grind (arith, nat_tests) in
          elim (bind_err (groups_at left bytes) _ fault p.1) [
            | inl e ↦ one-more fault left b bytes high (groups_at-fault left bytes fault e)
            | inr x ↦ cc
          ]
    ]

groups_at-cut : (left : ℕ) (bytes : List ℕ) → length bytes < left → AllHigh bytes → groups_at left bytes ≡ Err Cut
unfolding groups_at
groups_at-cut zero bytes short high = absurd (omega arith)
groups_at-cut (suc left) [] short high = refl
groups_at-cut (suc left) (b ∷ bytes) short high =
    let first : 128 ≤ b = All-head IsHigh b bytes high in
    let e : nat_lt b 128 ≡ false = grind (arith, nat_tests) in
    rw e (rw (groups_at-cut left bytes (omega arith) (All-tail IsHigh b bytes high)) refl)

groups_at-long : (left : ℕ) (bytes : List ℕ) → left ≤ length bytes → AllHigh (take left bytes) → groups_at left bytes ≡ Err TooLong
unfolding groups_at
groups_at-long zero bytes long high = refl
groups_at-long (suc left) [] long high = absurd (omega arith)
groups_at-long (suc left) (b ∷ bytes) long high =
    let first : 128 ≤ b = All-head IsHigh b (take left bytes) high in
    let e : nat_lt b 128 ≡ false = grind (arith, nat_tests) in
    rw e (rw (groups_at-long left bytes (omega arith) (All-tail IsHigh b (take left bytes) high)) refl)

varint-of_groups : (fault : FieldFault) (bytes : List ℕ) → IsGroupsFault fault 10 bytes → IsVarintFault fault bytes
varint-of_groups Cut bytes h = record { short = h.0; unended = h.1 }
varint-of_groups TooLong bytes h = inl (record { long = h.0; unended = h.1 })
varint-of_groups BadTag bytes h = h
varint-of_groups BadWire bytes h = h

pub varint_at-fault : (bytes : List ℕ) (fault : FieldFault) → varint_at bytes ≡ Err fault → IsVarintFault fault bytes
unfolding varint_at
varint_at-fault bytes fault h =
    elim (bind_err (groups_at 10 bytes) _ fault h) [
      | inl e ↦ varint-of_groups fault bytes (groups_at-fault 10 bytes fault e)
      | inr x ↦ elim (chosen (nat_lt x.0.0 (2 ^ 64)) _ _ _ x.2) [
        | inl p ↦ cc
        | inr p ↦
            let large : 2 ^ 64 ≤ x.0.0 = let e = p.0 in grind (arith, nat_tests) in
            let spelled = groups_at-spelled 10 bytes x.0.0 x.0.1 x.1 in
            let P : FieldFault → Type 0 = λ f. IsVarintFault f bytes in
            subst P (same_fault _ TooLong fault p.1)
            (inr (record { front = spelled.0; rest = x.0.1; n = x.0.0; whole = spelled.1; groups = spelled.2; short = spelled.3; large = large }))
      ]
    ]

pub fault-varint_at : (bytes : List ℕ) (fault : FieldFault) → IsVarintFault fault bytes → varint_at bytes ≡ Err fault
unfolding varint_at
fault-varint_at bytes Cut h = rw (groups_at-cut 10 bytes h.short h.unended) refl
fault-varint_at bytes TooLong (inl h) = rw (groups_at-long 10 bytes h.long h.unended) refl
fault-varint_at bytes TooLong (inr h) =
    let large : 2 ^ 64 ≤ h.n = h.large in
    let e : nat_lt h.n (2 ^ 64) ≡ false = grind (arith, nat_tests) in
    rw h.whole (rw (spelled-groups_at 10 h.front h.n h.rest h.groups h.short) (rw e refl))
fault-varint_at bytes BadTag h = absurd h
fault-varint_at bytes BadWire h = absurd h

part_at-fault : (size : ℕ) (bytes : List ℕ) (fault : FieldFault) → part_at size bytes ≡ Err fault → (Cut ≡ fault) × (length bytes < size)
unfolding part_at
part_at-fault size bytes fault h =
    elim (chosen (nat_lt (length bytes) size) _ _ _ h) [
      | inl p ↦ (same_fault _ Cut fault p.1, (let e = p.0 in grind (arith, nat_tests)))
      | inr p ↦ cc
    ]

part_at-cut : (size : ℕ) (bytes : List ℕ) → length bytes < size → part_at size bytes ≡ Err Cut
unfolding part_at
part_at-cut size bytes h = let e : nat_lt (length bytes) size ≡ true = grind (arith, nat_tests) in rw e refl

number-fault : (wire : ℕ) (bytes : List ℕ) (fault : FieldFault) → wire ≡ 0 → IsVarintFault fault bytes → IsValueFault fault wire bytes
number-fault wire bytes Cut is h = in_varint is h
number-fault wire bytes TooLong is h = record { has_varint = inl is; too_long = h }
number-fault wire bytes BadTag is h = h
number-fault wire bytes BadWire is h = h

size-fault : (wire : ℕ) (bytes : List ℕ) (fault : FieldFault) → wire ≡ 2 → IsVarintFault fault bytes → IsValueFault fault wire bytes
size-fault wire bytes Cut is h = in_size is h
size-fault wire bytes TooLong is h = record { has_varint = inr is; too_long = h }
size-fault wire bytes BadTag is h = h
size-fault wire bytes BadWire is h = h

-- a wire type without a value, or a value that can't be read
abbrev IsBehindTag : FieldFault → ℕ → List ℕ → Type 0
IsBehindTag fault wire bytes = (IsNoWireType wire × (BadWire ≡ fault)) ⊎ IsValueFault fault wire bytes

no_wire : (wire : ℕ) → wire < 8 → wire ≢ 0 → wire ≢ 1 → wire ≢ 2 → wire ≢ 5 → IsNoWireType wire
no_wire wire small a b c d =
    elim (nat_eq wire 3) as (λ t. nat_eq wire 3 ≡ t → IsNoWireType wire) [
      | true ↦ λ e. inl (grind (arith, nat_tests))
      | false ↦ λ e. elim (nat_eq wire 4) as (λ t. nat_eq wire 4 ≡ t → IsNoWireType wire) [
        | true ↦ λ f. inr (inl (grind (arith, nat_tests)))
        | false ↦ λ f. elim (nat_eq wire 6) as (λ t. nat_eq wire 6 ≡ t → IsNoWireType wire) [
          | true ↦ λ g. inr (inr (inl (grind (arith, nat_tests))))
          | false ↦ λ g. inr (inr (inr (grind (arith, nat_tests))))
        ] refl
      ] refl
    ] refl

value_at-fault : (wire : ℕ) (bytes : List ℕ) (fault : FieldFault) → wire < 8 → value_at wire bytes ≡ Err fault → IsBehindTag fault wire bytes
unfolding value_at
value_at-fault wire bytes fault small h =
    elim (chosen (nat_eq wire 0) _ _ _ h) [
      | inl p ↦
          let is : wire ≡ 0 = let e = p.0 in grind (arith, nat_tests) in
          elim (bind_err (varint_at bytes) _ fault p.1) [
            | inl e ↦ inr (number-fault wire bytes fault is (varint_at-fault bytes fault e))
            | inr x ↦ cc
          ]
      | inr p ↦ elim (chosen (nat_eq wire 1) _ _ _ p.1) [
        | inl q ↦
            let is : wire ≡ 1 = let e = q.0 in grind (arith, nat_tests) in
            elim (bind_err (part_at 8 bytes) _ fault q.1) [
              | inl e ↦
                  let cut = part_at-fault 8 bytes fault e in
                  let P : FieldFault → Type 0 = λ f. IsBehindTag f wire bytes in subst P cut.0 (inr (in_fixed64 is cut.1))
              | inr x ↦ cc
            ]
        | inr q ↦ elim (chosen (nat_eq wire 2) _ _ _ q.1) [
          | inl r ↦
              let is : wire ≡ 2 = let e = r.0 in grind (arith, nat_tests) in
              elim (bind_err (varint_at bytes) _ fault r.1) [
                | inl e ↦ inr (size-fault wire bytes fault is (varint_at-fault bytes fault e))
                | inr x ↦ elim (bind_err (part_at x.0.0 x.0.1) _ fault x.2) [
                  | inl e ↦
                      let cut = part_at-fault x.0.0 x.0.1 fault e in
                      let size = varint_at-spelled bytes x.0.0 x.0.1 x.1 in
                      let P : FieldFault → Type 0 = λ f. IsBehindTag f wire bytes in
                      subst P cut.0 (inr (in_content is size.0 x.0.1 x.0.0 size.1 size.2 cut.1))
                  | inr y ↦ cc
                ]
              ]
          | inr r ↦ elim (chosen (nat_eq wire 5) _ _ _ r.1) [
            | inl s ↦
                let is : wire ≡ 5 = let e = s.0 in grind (arith, nat_tests) in
                elim (bind_err (part_at 4 bytes) _ fault s.1) [
                  | inl e ↦
                      let cut = part_at-fault 4 bytes fault e in
                      let P : FieldFault → Type 0 = λ f. IsBehindTag f wire bytes in subst P cut.0 (inr (in_fixed32 is cut.1))
                  | inr x ↦ cc
                ]
            | inr s ↦
                let a : wire ≢ 0 = let e = p.0 in grind (arith, nat_tests) in
                let b : wire ≢ 1 = let e = q.0 in grind (arith, nat_tests) in
                let c : wire ≢ 2 = let e = r.0 in grind (arith, nat_tests) in
                let d : wire ≢ 5 = let e = s.0 in grind (arith, nat_tests) in
                inl (no_wire wire small a b c d, same_fault _ BadWire fault s.1)
          ]
        ]
      ]
    ]

wire-value_at : (wire : ℕ) (bytes : List ℕ) → IsNoWireType wire → value_at wire bytes ≡ Err BadWire
unfolding value_at
wire-value_at wire bytes (inl e) = rw e refl
wire-value_at wire bytes (inr (inl e)) = rw e refl
wire-value_at wire bytes (inr (inr (inl e))) = rw e refl
wire-value_at wire bytes (inr (inr (inr e))) = rw e refl

cut-value_at : (wire : ℕ) (bytes : List ℕ) → IsValueCut wire bytes → value_at wire bytes ≡ Err Cut
unfolding value_at
cut-value_at wire bytes (in_varint is h) = rw is (rw (fault-varint_at bytes Cut h) refl)
cut-value_at wire bytes (in_fixed64 is h) = rw is (rw (part_at-cut 8 bytes h) refl)
cut-value_at wire bytes (in_size is h) = rw is (rw (fault-varint_at bytes Cut h) refl)
cut-value_at wire bytes (in_content is size content n whole spelled h) =
    rw is (rw whole (rw (spelled-varint_at size n content spelled) (rw (part_at-cut n content h) refl)))
cut-value_at wire bytes (in_fixed32 is h) = rw is (rw (part_at-cut 4 bytes h) refl)

long-value_at : (wire : ℕ) (bytes : List ℕ) → (wire ≡ 0) ⊎ (wire ≡ 2) → IsVarintTooLong bytes → value_at wire bytes ≡ Err TooLong
unfolding value_at
long-value_at wire bytes (inl is) h = rw is (rw (fault-varint_at bytes TooLong h) refl)
long-value_at wire bytes (inr is) h = rw is (rw (fault-varint_at bytes TooLong h) refl)

fault-value_at : (wire : ℕ) (bytes : List ℕ) (fault : FieldFault) → IsValueFault fault wire bytes → value_at wire bytes ≡ Err fault
fault-value_at wire bytes Cut h = cut-value_at wire bytes h
fault-value_at wire bytes TooLong h = long-value_at wire bytes h.has_varint h.too_long
fault-value_at wire bytes BadTag h = absurd h
fault-value_at wire bytes BadWire h = absurd h

tag_of : (bytes tag : List ℕ) (n : ℕ) (behind : List ℕ) → bytes ≡ tag ++ behind → IsVarint tag n → HasTag bytes (n / 8) (n % 8) behind
tag_of bytes tag n behind whole spelled =
    let parts : n ≡ 8 * (n / 8) + n % 8 = omega arith in
    let P : ℕ → Type 0 = IsVarint tag in
    record { tag = tag; whole = whole; tag_is = record { varint = subst P parts spelled; wire_small = omega arith } }

behind_tag : (bytes : List ℕ) (fault : FieldFault) (number wire : ℕ) (behind : List ℕ) → HasTag bytes number wire behind → IsFieldNumber number →
    IsBehindTag fault wire behind → IsFieldFault fault bytes
behind_tag bytes fault number wire behind tag is (inl h) = of_wire number wire behind tag is h.0 (sym h.1)
behind_tag bytes fault number wire behind tag is (inr h) = of_value number wire behind tag is h

field_at-fault : (bytes : List ℕ) (fault : FieldFault) → field_at bytes ≡ Err fault → IsFieldFault fault bytes
unfolding field_at
field_at-fault bytes fault h =
    elim (bind_err (varint_at bytes) _ fault h) [
      | inl e ↦ of_tag (varint_at-fault bytes fault e)
      | inr x ↦
          let spelled = varint_at-spelled bytes x.0.0 x.0.1 x.1 in
          let tag = tag_of bytes spelled.0 x.0.0 x.0.1 spelled.1 spelled.2 in
          elim (chosen (nat_le 1 (x.0.0 / 8) && nat_le (x.0.0 / 8) 536870911) _ _ _ x.2) [
            | inl p ↦
                let e : (nat_le 1 (x.0.0 / 8) && nat_le (x.0.0 / 8) 536870911) ≡ true = p.0 in
                let positive : 1 ≤ x.0.0 / 8 = grind (arith, nat_tests) in
                let small : x.0.0 / 8 ≤ 536870911 = grind (arith, nat_tests) in
                elim (bind_err (value_at (x.0.0 % 8) x.0.1) _ fault p.1) [
                  | inl f ↦ behind_tag bytes fault (x.0.0 / 8) (x.0.0 % 8) x.0.1 tag (positive, small)
                      (value_at-fault (x.0.0 % 8) x.0.1 fault (omega arith) f)
                  | inr y ↦ cc
                ]
            | inr p ↦
                of_number (x.0.0 / 8) (x.0.0 % 8) x.0.1 tag (no_number (x.0.0 / 8) p.0) (sym (same_fault _ BadTag fault p.1))
          ]
    ]
  where
    no_number : (number : ℕ) → (nat_le 1 number && nat_le number 536870911) ≡ false → IsNoFieldNumber number
    no_number zero e = inl refl
    no_number (suc n) e = inr (grind (arith, nat_tests))

has-varint_at : (bytes : List ℕ) (number wire : ℕ) (behind : List ℕ) → HasTag bytes number wire behind → varint_at bytes ≡ Ok (8 * number + wire, behind)
has-varint_at bytes number wire behind h = rw h.whole (spelled-varint_at h.tag (8 * number + wire) behind h.tag_is.varint)

number_is : (number : ℕ) → IsFieldNumber number → (nat_le 1 number && nat_le number 536870911) ≡ true
number_is number h = let positive : 1 ≤ number = h.0 in let small : number ≤ 536870911 = h.1 in grind (arith, nat_tests)

number_is_not : (number : ℕ) → IsNoFieldNumber number → (nat_le 1 number && nat_le number 536870911) ≡ false
number_is_not number (inl e) = rw e refl
number_is_not number (inr large) = grind (arith, nat_tests)

-- behind a tag of a field's number, the value decides
behind-field_at : (bytes : List ℕ) (number wire : ℕ) (behind : List ℕ) (fault : FieldFault) → HasTag bytes number wire behind → IsFieldNumber number →
    value_at wire behind ≡ Err fault → field_at bytes ≡ Err fault
unfolding field_at
behind-field_at bytes number wire behind fault tag is h =
    let small : wire < 8 = tag.tag_is.wire_small in
    let number_same : (8 * number + wire) / 8 ≡ number = omega arith in
    let wire_same : (8 * number + wire) % 8 ≡ wire = omega arith in
    rw (has-varint_at bytes number wire behind tag) (rw (number_same, wire_same) (rw (number_is number is) (rw h refl)))

fault-field_at : (bytes : List ℕ) (fault : FieldFault) → IsFieldFault fault bytes → field_at bytes ≡ Err fault
unfolding field_at
fault-field_at bytes fault (of_tag h) = rw (fault-varint_at bytes fault h) refl
fault-field_at bytes fault (of_number number wire behind tag is e) =
    let small : wire < 8 = tag.tag_is.wire_small in
    let number_same : (8 * number + wire) / 8 ≡ number = omega arith in
    rw (has-varint_at bytes number wire behind tag) (rw number_same (rw (number_is_not number is) (ap (λ f. Err f) (sym e))))
fault-field_at bytes fault (of_wire number wire behind tag is none e) =
    behind-field_at bytes number wire behind fault tag is (wire-value_at wire behind none ∙ ap (λ f. Err f) (sym e))
fault-field_at bytes fault (of_value number wire behind tag is h) =
    behind-field_at bytes number wire behind fault tag is (fault-value_at wire behind fault h)

pub names_faults : NamesFaults
names_faults bytes fault = (field_at-fault bytes fault, fault-field_at bytes fault)
