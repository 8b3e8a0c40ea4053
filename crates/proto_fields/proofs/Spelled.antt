-- Writing a varint group by group.
use Rattle.std.proofs.Common.{◌≡◌, ◌<◌, ◌≤◌, ℕ, zero, suc, ◌+◌, ◌-◌, ◌*◌, ◌/◌, ◌%◌, List, [], ◌∷◌, ◌++◌, nat_lt, true, false, refl, ap, ◌∙◌, sym, arith, length, take, append_assoc, ◌^◌, length-append}
use Rattle.std.proofs.Math.Nat.{pow-suc}
use Rattle.std.proofs.lemmas.Bool.Decides.{nat_tests}
use Rattle.std.proofs.Math.Seq.{take-append_seam}
use Rattle.proto_fields.specs.Spelling.{groups, varint}

groups-last : (more n : ℕ) → n < 128 → groups more n ≡ n ∷ []
unfolding groups
groups-last zero n h = refl
groups-last (suc more) n h = let e : nat_lt n 128 ≡ true = grind (arith, nat_tests) in rw e refl

groups-more : (more n : ℕ) → 128 ≤ n → groups (suc more) n ≡ (n % 128 + 128) ∷ groups more (n / 128)
unfolding groups
groups-more more n h = let e : nat_lt n 128 ≡ false = grind (arith, nat_tests) in rw e refl

-- with groups enough, their count doesn't matter
groups-same : (m k n : ℕ) → n ≤ m → n ≤ k → groups m n ≡ groups k n
groups-same zero k n h j = groups-last zero n (omega arith) ∙ sym (groups-last k n (omega arith))
groups-same (suc m) zero n h j = groups-last (suc m) n (omega arith) ∙ sym (groups-last zero n (omega arith))
groups-same (suc m) (suc k) n h j =
    elim (nat_lt n 128) as (λ b. nat_lt n 128 ≡ b → groups (suc m) n ≡ groups (suc k) n) [
      | true ↦ λ e. let small : n < 128 = grind (arith, nat_tests) in groups-last (suc m) n small ∙ sym (groups-last (suc k) n small)
      | false ↦ λ e.
          let large : 128 ≤ n = grind (arith, nat_tests) in
          groups-more m n large ∙ ap (λ l. (n % 128 + 128) ∷ l) (groups-same m k (n / 128) (omega arith) (omega arith)) ∙ sym (groups-more k n large)
    ] refl

pub varint-last : (n : ℕ) → n < 128 → varint n ≡ n ∷ []
unfolding varint
varint-last n h = groups-last n n h

pub varint-more : (n : ℕ) → 128 ≤ n → varint n ≡ (n % 128 + 128) ∷ varint (n / 128)
unfolding varint
varint-more n h =
    let less : n ≡ suc (n - 1) = omega arith in
    ap (λ m. groups m n) less ∙ groups-more (n - 1) n h ∙ ap (λ l. (n % 128 + 128) ∷ l) (groups-same (n - 1) (n / 128) (n / 128) (omega arith) (omega arith))

-- the groups of the value so far stand behind what was there
pub record Writes (old : List ℕ) (value : ℕ) (now : List ℕ) (rest : ℕ) : Type 0 where
  pub whole : now ++ varint rest ≡ old ++ varint value
  pub front : (done : List ℕ) × (now ≡ old ++ done)

pub writes-more : {old : List ℕ} {value : ℕ} {now : List ℕ} {rest : ℕ} → Writes old value now rest → 128 ≤ rest →
    Writes old value (now ++ (rest % 128 + 128) ∷ []) (rest / 128)
writes-more {old} {value} {now} {rest} h large = record {
  whole = append_assoc now _ _ ∙ (let e = varint-more rest large in ap (λ l. now ++ l) (sym e)) ∙ h.whole;
  front = (h.front.0 ++ (rest % 128 + 128) ∷ [], ap (λ l. l ++ (rest % 128 + 128) ∷ []) h.front.1 ∙ append_assoc old h.front.0 _);
}

pub writes-last : {old : List ℕ} {value : ℕ} {now : List ℕ} {rest : ℕ} → Writes old value now rest → rest < 128 →
    now ++ rest ∷ [] ≡ old ++ varint value
writes-last {old} {value} {now} {rest} h small = (let e = varint-last rest small in ap (λ l. now ++ l) (sym e)) ∙ h.whole

pub writes-cut : {old : List ℕ} {value : ℕ} {now : List ℕ} {rest : ℕ} → Writes old value now rest → take (length old) now ≡ old
writes-cut {old} {value} {now} {rest} h = rw h.front.1 (take-append_seam old h.front.0)

-- a number below a power of 128 has that many groups at most
varint-groups : (k n : ℕ) → n < 128 ^ suc k → length (varint n) ≤ suc k
varint-groups zero n h = rw (varint-last n (omega arith)) (omega arith)
varint-groups (suc k) n h =
    elim (nat_lt n 128) as (λ b. nat_lt n 128 ≡ b → length (varint n) ≤ suc (suc k)) [
      | true ↦ λ e. let small : n < 128 = grind (arith, nat_tests) in rw (varint-last n small) (omega arith)
      | false ↦ λ e.
          let large : 128 ≤ n = grind (arith, nat_tests) in
          let power : 128 ^ suc (suc k) ≡ 128 ^ suc k * 128 = pow-suc 128 (suc k) in
          let below : n / 128 < 128 ^ suc k = grind arith in
          let others : length (varint (n / 128)) ≤ suc k = varint-groups k (n / 128) below in
          rw (varint-more n large) (omega arith)
    ] refl

pub varint-short : (n : ℕ) → n < 2 ^ 64 → length (varint n) ≤ 10
varint-short n h = varint-groups 9 n (omega arith)

-- what the last group leaves is ten bytes longer at most
pub writes-growth : {old : List ℕ} {value : ℕ} {now : List ℕ} {rest : ℕ} → Writes old value now rest → rest < 128 → value < 2 ^ 64 →
    length (now ++ rest ∷ []) ≤ length old + 10
writes-growth {old} {value} {now} {rest} h small fits =
    let short : length (varint value) ≤ 10 = varint-short value fits in
    rw (writes-last h small) (rw length-append (omega arith))

pub varint-some : (n : ℕ) → 0 < length (varint n)
varint-some n =
    elim (nat_lt n 128) as (λ b. nat_lt n 128 ≡ b → 0 < length (varint n)) [
      | true ↦ λ e. let small : n < 128 = grind (arith, nat_tests) in rw (varint-last n small) (omega arith)
      | false ↦ λ e. let large : 128 ≤ n = grind (arith, nat_tests) in rw (varint-more n large) (omega arith)
    ] refl

-- a byte at least is still to come
pub writes-room : {old : List ℕ} {value : ℕ} {now : List ℕ} {rest : ℕ} → Writes old value now rest →
    length now < length old + length (varint value)
writes-room {old} {value} {now} {rest} h =
    let some : 0 < length (varint rest) = varint-some rest in
    omega (arith, some, simp length-append at (ap length h.whole))

-- the groups counted so far, and those of the rest
pub counts-more : (value rest len : ℕ) → len + length (varint rest) ≡ 1 + length (varint value) → 128 ≤ rest →
    (len + 1) + length (varint (rest / 128)) ≡ 1 + length (varint value)
counts-more value rest len h large = let e = ap length (varint-more rest large) in omega arith

pub counts-last : (value rest len : ℕ) → len + length (varint rest) ≡ 1 + length (varint value) → rest < 128 →
    len ≡ length (varint value)
counts-last value rest len h small = let e = ap length (varint-last rest small) in omega arith
