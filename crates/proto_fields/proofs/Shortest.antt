-- What is written is the shortest spelling, and is read again.
use Rattle.std.proofs.Common.{◌≡◌, ◌<◌, ◌≤◌, ℕ, zero, suc, ◌+◌, ◌-◌, ◌*◌, ◌/◌, ◌%◌, ◌^◌, List, [], ◌∷◌, ◌++◌, nat_lt, true, false, refl, ap, ◌∙◌, sym, arith, length, subst, append_assoc}
use Rattle.std.proofs.lemmas.Bool.Decides.{nat_tests}
use Rattle.std.proofs.lemmas.List.Elements.{All-head, All-tail}
use Rattle.std.specs.Prelude.{All}
use Rattle.proto_fields.specs.declared.value.Value.TheVariants.{Varint, Bytes}
use Rattle.proto_fields.specs.Varint.{IsGroups, IsVarint}
use Rattle.proto_fields.specs.Fields.{IsFieldNumber, IsField}
use Rattle.proto_fields.specs.Spelling.{varint, number_field, bytes_field}
use Rattle.proto_fields.specs.Laws.{WritesShortest, ReadsWhatIsPut, ReadsVarints}
use Rattle.proto_fields.proofs.Spelled.{varint-last, varint-more, varint-short}
use Rattle.proto_fields.proofs.Spellings.{groups-cons, varint_at-spelled, spelled-varint_at, spelled-field_at}
use Rattle.proto_fields.proofs.Faults.{varint_at-fault, fault-varint_at}

abbrev IsByte : ℕ → Type 0
IsByte b = b < 256

-- what is written spells the number
varint-spells : (bound n : ℕ) → n ≤ bound → IsGroups (varint n) n
varint-spells zero n h = rw (varint-last n (omega arith)) (omega arith, refl)
varint-spells (suc bound) n h =
    elim (nat_lt n 128) as (λ t. nat_lt n 128 ≡ t → IsGroups (varint n) n) [
      | true ↦ λ e. let small : n < 128 = grind (arith, nat_tests) in rw (varint-last n small) (small, refl)
      | false ↦ λ e.
          let large : 128 ≤ n = grind (arith, nat_tests) in
          let others = varint-spells bound (n / 128) (omega arith) in
          let more = groups-cons (n % 128 + 128) (n / 128) (varint (n / 128)) (omega arith) others in
          let same : n % 128 + 128 - 128 + 128 * (n / 128) ≡ n = omega arith in
          let P : ℕ → Type 0 = IsGroups ((n % 128 + 128) ∷ varint (n / 128)) in
          rw (varint-more n large) (subst P same more)
    ] refl

pub varint-is : (n : ℕ) → n < 2 ^ 64 → IsVarint (varint n) n
varint-is n small = record { groups = varint-spells n n (omega arith); short = varint-short n small; small = small }

-- no spelling is shorter
shortest : (other : List ℕ) (n : ℕ) → All IsByte other → IsGroups other n → length (varint n) ≤ length other
shortest [] n bytes h = absurd h
shortest (b ∷ []) n bytes h = rw (varint-last n (omega (arith, h.0, h.1))) (omega arith)
shortest (b ∷ c ∷ other) n bytes h =
    let byte : b < 256 = All-head IsByte b (c ∷ other) bytes in
    let high : 128 ≤ b = h.0 in
    let total : n ≡ b - 128 + 128 * h.1 = h.2 in
    elim (nat_lt n 128) as (λ t. nat_lt n 128 ≡ t → length (varint n) ≤ length (b ∷ c ∷ other)) [
      | true ↦ λ e. let small : n < 128 = grind (arith, nat_tests) in rw (varint-last n small) (omega arith)
      | false ↦ λ e.
          let large : 128 ≤ n = grind (arith, nat_tests) in
          let same : n / 128 ≡ h.1 = omega arith in
          let others : length (varint h.1) ≤ length (c ∷ other) = shortest (c ∷ other) h.1 (All-tail IsByte b (c ∷ other) bytes) h.3 in
          rw (varint-more n large) (rw same (omega arith))
    ] refl

-- no other spelling is as short
only : (other : List ℕ) (n : ℕ) → All IsByte other → IsGroups other n → length other ≡ length (varint n) → other ≡ varint n
only [] n bytes h le = absurd h
only (b ∷ []) n bytes h le = ap (λ m. m ∷ []) (sym h.1) ∙ sym (varint-last n (omega (arith, h.0, h.1)))
only (b ∷ c ∷ other) n bytes h le =
    let byte : b < 256 = All-head IsByte b (c ∷ other) bytes in
    let high : 128 ≤ b = h.0 in
    let total : n ≡ b - 128 + 128 * h.1 = h.2 in
    elim (nat_lt n 128) as (λ t. nat_lt n 128 ≡ t → b ∷ c ∷ other ≡ varint n) [
      | true ↦ λ e. let small : n < 128 = grind (arith, nat_tests) in let one = rw (varint-last n small) at le in absurd (omega (arith, one))
      | false ↦ λ e.
          let large : 128 ≤ n = grind (arith, nat_tests) in
          let same : n / 128 ≡ h.1 = omega arith in
          let first : b ≡ n % 128 + 128 = omega arith in
          let more = rw (varint-more n large) at le in
          let others : c ∷ other ≡ varint (n / 128) = rw same (only (c ∷ other) h.1 (All-tail IsByte b (c ∷ other) bytes) h.3 (rw (← same) (omega (arith, more)))) in
          rw (varint-more n large) (rw first (ap (λ l. (n % 128 + 128) ∷ l) others))
    ] refl

pub writes_shortest : WritesShortest
writes_shortest n small = record {
  varint = varint-is n small;
  shortest = λ other bytes h. shortest other n bytes h.groups;
  only = λ other bytes h. only other n bytes h.groups;
}

pub reads_varints : ReadsVarints
reads_varints = record {
  numbers = λ bytes n rest. (
    varint_at-spelled bytes n rest,
    λ h. rw h.1 (spelled-varint_at h.0 n rest h.2),
  );
  faults = λ bytes fault. (varint_at-fault bytes fault, fault-varint_at bytes fault);
}

-- a number that is put is a field
pub number-is_field : (number n : ℕ) → IsFieldNumber number → n < 2 ^ 64 → IsField (record { number = number; value = Varint n }) (number_field number n)
number-is_field number n is small =
    let in_range : number ≤ 536870911 = is.1 in
    let whole : 8 * number ≡ 8 * number + 0 = omega arith in
    let P : ℕ → Type 0 = IsVarint (varint (8 * number)) in
    record {
      tag = varint (8 * number);
      content = varint n;
      wire = 0;
      whole = refl;
      tag_is = record { varint = subst P whole (varint-is (8 * number) (omega arith)); wire_small = omega arith };
      number_is = is;
      value_is = (refl, varint-is n small);
    }

-- bytes that are put are a field
pub content-is_field : (number : ℕ) (content : List ℕ) → IsFieldNumber number → length content < 2 ^ 64 → IsField (record { number = number; value = Bytes content }) (bytes_field number content)
content-is_field number content is small =
    let in_range : number ≤ 536870911 = is.1 in
    record {
      tag = varint (8 * number + 2);
      content = varint (length content) ++ content;
      wire = 2;
      whole = append_assoc (varint (8 * number + 2)) (varint (length content)) content;
      tag_is = record { varint = varint-is (8 * number + 2) (omega arith); wire_small = omega arith };
      number_is = is;
      value_is = (refl, varint (length content), varint-is (length content) small, refl);
    }

pub reads_what_is_put : ReadsWhatIsPut
reads_what_is_put = record {
  numbers = λ number n rest is small. spelled-field_at _ _ rest (number-is_field number n is small);
  contents = λ number content rest is small. spelled-field_at _ _ rest (content-is_field number content is small);
}
