-- Reading a field takes a byte at least.
use Rattle.std.proofs.Common.{◌≡◌, ◌<◌, ◌≤◌, ℕ, zero, suc, ◌/◌, ◌%◌, ◌^◌, List, [], ◌∷◌, Ok, Result, nat_lt, nat_le, nat_eq, ap, arith, length, inl, inr, length-drop, ◌&&◌}
use Rattle.proto_fields.specs.declared.fault.FieldFault.{FieldFault}
use Rattle.proto_fields.specs.declared.value.Field.{Field}
use Rattle.proto_fields.specs.declared.value.Value.{Value}
use Rattle.proto_fields.specs.Varint.{groups_at, varint_at}
use Rattle.proto_fields.specs.Fields.{part_at, value_at, field_at}
use Rattle.proto_fields.proofs.Steps.{bind_ok, chosen}

-- what a successful read leaves
abbrev IsOkOf : {A : Type 0} → A → A → Type 0
IsOkOf {A} a x = let left : Result A FieldFault = Ok a in left ≡ Ok x

ok_rest : {A : Type 0} (a : A) (rest : List ℕ) (x : A × List ℕ) → IsOkOf (a, rest) x → rest ≡ x.1
ok_rest {A} a rest x h = let e : let left : A × List ℕ = (a, rest) in left ≡ x = cc in ap (λ p. p.1) e

groups_at-shorter : (left : ℕ) (bytes : List ℕ) (x : ℕ × List ℕ) → groups_at left bytes ≡ Ok x → length x.1 < length bytes
unfolding groups_at
groups_at-shorter zero bytes x h = cc
groups_at-shorter (suc left) [] x h = cc
groups_at-shorter (suc left) (b ∷ bytes) x h =
    elim (chosen (nat_lt b 128) _ _ _ h) [
      | inl p ↦ rw (← ok_rest _ _ _ p.1) (omega arith)
      | inr p ↦
          let high = bind_ok (groups_at left bytes) _ x p.1 in
          let shorter : length high.0.1 < length bytes = groups_at-shorter left bytes high.0 high.1 in
          rw (← ok_rest _ _ _ high.2) (omega arith)
    ]

pub varint_at-shorter : (bytes : List ℕ) (x : ℕ × List ℕ) → varint_at bytes ≡ Ok x → length x.1 < length bytes
unfolding varint_at
varint_at-shorter bytes x h =
    let n = bind_ok (groups_at 10 bytes) _ x h in
    elim (chosen (nat_lt n.0.0 (2 ^ 64)) _ _ _ n.2) [
      | inl p ↦ let e : n.0 ≡ x = cc in rw (← e) (groups_at-shorter 10 bytes n.0 n.1)
      | inr p ↦ cc
    ]

part_at-shorter : (size : ℕ) (bytes : List ℕ) (x : List ℕ × List ℕ) → part_at size bytes ≡ Ok x → length x.1 ≤ length bytes
unfolding part_at
part_at-shorter size bytes x h =
    elim (chosen (nat_lt (length bytes) size) _ _ _ h) [
      | inl p ↦ cc
      | inr p ↦ rw (← ok_rest _ _ _ p.1) (omega (arith, length-drop size bytes))
    ]

value_at-shorter : (wire : ℕ) (bytes : List ℕ) (x : Value × List ℕ) → value_at wire bytes ≡ Ok x → length x.1 ≤ length bytes
unfolding value_at
value_at-shorter wire bytes x h =
    elim (chosen (nat_eq wire 0) _ _ _ h) [
      | inl p ↦
          let n = bind_ok (varint_at bytes) _ x p.1 in
          let shorter : length n.0.1 < length bytes = varint_at-shorter bytes n.0 n.1 in
          rw (← ok_rest _ _ _ n.2) (omega arith)
      | inr p ↦ elim (chosen (nat_eq wire 1) _ _ _ p.1) [
        | inl q ↦
            let n = bind_ok (part_at 8 bytes) _ x q.1 in rw (← ok_rest _ _ _ n.2) (part_at-shorter 8 bytes n.0 n.1)
        | inr q ↦ elim (chosen (nat_eq wire 2) _ _ _ q.1) [
          | inl r ↦
              let n = bind_ok (varint_at bytes) _ x r.1 in
              let shorter : length n.0.1 < length bytes = varint_at-shorter bytes n.0 n.1 in
              let part = bind_ok (part_at n.0.0 n.0.1) _ x n.2 in
              let cut : length part.0.1 ≤ length n.0.1 = part_at-shorter n.0.0 n.0.1 part.0 part.1 in
              rw (← ok_rest _ _ _ part.2) (omega arith)
          | inr r ↦ elim (chosen (nat_eq wire 5) _ _ _ r.1) [
            | inl s ↦
                let n = bind_ok (part_at 4 bytes) _ x s.1 in rw (← ok_rest _ _ _ n.2) (part_at-shorter 4 bytes n.0 n.1)
            | inr s ↦ cc
          ]
        ]
      ]
    ]

pub field_at-shorter : (bytes : List ℕ) (x : Field × List ℕ) → field_at bytes ≡ Ok x → length x.1 < length bytes
unfolding field_at
field_at-shorter bytes x h =
    let tag = bind_ok (varint_at bytes) _ x h in
    let shorter : length tag.0.1 < length bytes = varint_at-shorter bytes tag.0 tag.1 in
    elim (chosen (nat_le 1 (tag.0.0 / 8) && nat_le (tag.0.0 / 8) 536870911) _ _ _ tag.2) [
      | inl p ↦
          let value = bind_ok (value_at (tag.0.0 % 8) tag.0.1) _ x p.1 in
          let cut : length value.0.1 ≤ length tag.0.1 = value_at-shorter (tag.0.0 % 8) tag.0.1 value.0 value.1 in
          rw (← ok_rest _ _ _ value.2) (omega arith)
      | inr p ↦ cc
    ]
