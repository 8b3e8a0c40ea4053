-- Reading a varint group by group: the groups so far are a low part below a weight, and the rest completes it.
use Rattle.std.proofs.Common.{◌≡◌, ◌<◌, ◌≤◌, ℕ, suc, ◌+◌, ◌-◌, ◌*◌, ◌^◌, List, [], ◌∷◌, Ok, Err, Result, nat_lt, true, false, refl, ap, ◌∙◌, sym, arith, add-one}
use Rattle.std.proofs.Math.Nat.{pow-suc, pow-le-pow_right}
use Rattle.std.proofs.lemmas.Bool.Decides.{nat_tests}
use Rattle.proto_fields.specs.declared.fault.FieldFault.{FieldFault}
use Rattle.proto_fields.specs.declared.fault.FieldFault.TheVariants.{Cut, TooLong}
use Rattle.proto_fields.specs.Reading.{◌>>=◌}
use Rattle.proto_fields.specs.Varint.{groups_at, varint_at}

-- what reading gives, above a low part
abbrev pub completed : ℕ → ℕ → Result (ℕ × List ℕ) FieldFault → Result (ℕ × List ℕ) FieldFault
completed low weight (Ok high) = Ok (low + weight * high.0, high.1)
completed low weight (Err e) = Err e

pub completed-cut : (low weight left : ℕ) → completed low weight (groups_at (suc left) []) ≡ Err Cut
unfolding groups_at
completed-cut low weight left = refl

pub completed-last : (low weight left b : ℕ) (bytes : List ℕ) → b < 128 → completed low weight (groups_at (suc left) (b ∷ bytes)) ≡ Ok (low + b * weight, bytes)
unfolding groups_at
completed-last low weight left b bytes h =
    let e : nat_lt b 128 ≡ true = grind (arith, nat_tests) in
    rw e (let same : low + weight * b ≡ low + b * weight = omega arith in ap (λ n. Ok (n, bytes)) same)

completed-bind : (low weight d : ℕ) (r : Result (ℕ × List ℕ) FieldFault) →
    completed low weight (r >>= λ high. Ok (d + 128 * high.0, high.1)) ≡ completed (low + d * weight) (weight * 128) r
completed-bind low weight d (Ok x) =
    let n : ℕ = x.0 in
    let same : low + weight * (d + 128 * n) ≡ low + d * weight + weight * 128 * n = omega arith in ap (λ k. Ok (k, x.1)) same
completed-bind low weight d (Err e) = refl

pub completed-more : (low weight left b : ℕ) (bytes : List ℕ) → 128 ≤ b →
    completed low weight (groups_at (suc left) (b ∷ bytes)) ≡ completed (low + (b - 128) * weight) (weight * 128) (groups_at left bytes)
unfolding groups_at
completed-more low weight left b bytes h =
    let e : nat_lt b 128 ≡ false = grind (arith, nat_tests) in
    rw e (completed-bind low weight (b - 128) (groups_at left bytes))

-- after this many groups: their number, below a weight, and the bytes after them
pub record Reads (count low weight : ℕ) (rest bytes : List ℕ) : Type 0 where
  pub scale : weight ≡ 128 ^ count
  pub below : low < weight
  pub same : groups_at 10 bytes ≡ completed low weight (groups_at (10 - count) rest)

completed-none : (r : Result (ℕ × List ℕ) FieldFault) → r ≡ completed 0 1 r
completed-none (Ok x) = let n : ℕ = x.0 in let same : n ≡ 0 + 1 * n = omega arith in ap (λ k. Ok (k, x.1)) same
completed-none (Err e) = refl

pub reads-none : (bytes : List ℕ) → Reads 0 0 1 bytes bytes
reads-none bytes = record { scale = refl; below = omega arith; same = completed-none (groups_at 10 bytes) }

-- nine groups' weight
pub scale_small : (count weight : ℕ) → count ≤ 9 → weight ≡ 128 ^ count → weight ≤ 2 ^ 63
scale_small count weight h e =
    let p : 128 ^ count ≤ 128 ^ 9 = pow-le-pow_right (omega arith) h in rw e p

-- a group below a weight
below_weight : (weight low d : ℕ) → low < weight → d ≤ 127 → low + d * weight < weight * 128
below_weight weight low d h l = grind arith

pub reads-more : (count low weight b : ℕ) (rest bytes : List ℕ) → count < 9 → b < 256 → 128 ≤ b →
    Reads count low weight (b ∷ rest) bytes → Reads (count + 1) (low + (b - 128) * weight) (weight * 128) rest bytes
reads-more count low weight b rest bytes lt byte high h =
    let left : 10 - count ≡ suc (10 - (count + 1)) = omega arith in
    record {
      scale = rw h.scale (let p : 128 ^ count * 128 ≡ 128 ^ (count + 1) = rw add-one (sym (pow-suc 128 count)) in p);
      below = below_weight weight low (b - 128) h.below (omega arith);
      same = h.same ∙ rw left (completed-more low weight (10 - (count + 1)) b rest high);
    }

-- the next group's number fits 64 bits
pub last_fits : (count low weight b : ℕ) (rest bytes : List ℕ) → count < 9 → b < 128 →
    Reads count low weight (b ∷ rest) bytes → low + b * weight < 2 ^ 63
last_fits count low weight b rest bytes lt last h =
    let w : weight ≤ 2 ^ 56 = rw h.scale (let at_most : count ≤ 8 = omega arith in let p : 128 ^ count ≤ 128 ^ 8 = pow-le-pow_right (omega arith) at_most in p) in
    let small : low + b * weight < weight * 128 = below_weight weight low b h.below (omega arith) in
    omega arith

pub more_fits : (count low weight b : ℕ) (rest bytes : List ℕ) → count < 9 → b < 256 →
    Reads count low weight (b ∷ rest) bytes → low + (b - 128) * weight < 2 ^ 63
more_fits count low weight b rest bytes lt byte h =
    let w : weight ≤ 2 ^ 56 = rw h.scale (let at_most : count ≤ 8 = omega arith in let p : 128 ^ count ≤ 128 ^ 8 = pow-le-pow_right (omega arith) at_most in p) in
    let small : low + (b - 128) * weight < weight * 128 = below_weight weight low (b - 128) h.below (omega arith) in
    omega arith

pub scale_fits : (count low weight : ℕ) (rest bytes : List ℕ) → count < 9 →
    Reads count low weight rest bytes → weight ≤ 2 ^ 56
scale_fits count low weight rest bytes lt h =
    rw h.scale (let at_most : count ≤ 8 = omega arith in let p : 128 ^ count ≤ 128 ^ 8 = pow-le-pow_right (omega arith) at_most in p)

pub reads-last : (count low weight b : ℕ) (rest bytes : List ℕ) → count < 10 → b < 128 → low + b * weight < 2 ^ 64 →
    Reads count low weight (b ∷ rest) bytes → varint_at bytes ≡ Ok (low + b * weight, rest)
unfolding varint_at
reads-last count low weight b rest bytes lt last fits h =
    let left : 10 - count ≡ suc (10 - (count + 1)) = omega arith in
    let found : groups_at 10 bytes ≡ Ok (low + b * weight, rest) = h.same ∙ rw left (completed-last low weight (10 - (count + 1)) b rest last) in
    let e : nat_lt (low + b * weight) (2 ^ 64) ≡ true = grind (arith, nat_tests) in
    rw found (rw e refl)

-- a tenth byte above 1 passes 64 bits, or ten bytes aren't enough
pub reads-too_long : (low b : ℕ) (rest bytes : List ℕ) → 2 ≤ b →
    Reads 9 low (2 ^ 63) (b ∷ rest) bytes → varint_at bytes ≡ Err TooLong
unfolding varint_at groups_at
reads-too_long low b rest bytes big h =
    elim (nat_lt b 128) as (λ t. nat_lt b 128 ≡ t → varint_at bytes ≡ Err TooLong) [
      | true ↦ λ e.
          let last : b < 128 = grind (arith, nat_tests) in
          let found : groups_at 10 bytes ≡ Ok (low + b * 2 ^ 63, rest) = h.same ∙ completed-last low (2 ^ 63) 0 b rest last in
          let past : nat_lt (low + b * 2 ^ 63) (2 ^ 64) ≡ false = grind (arith, nat_tests) in
          rw found (rw past refl)
      | false ↦ λ e.
          let high : 128 ≤ b = grind (arith, nat_tests) in
          let found : groups_at 10 bytes ≡ Err TooLong = h.same ∙ completed-more low (2 ^ 63) 0 b rest high in
          rw found refl
    ] refl

pub reads-cut : (count low weight : ℕ) (bytes : List ℕ) → count < 10 →
    Reads count low weight [] bytes → varint_at bytes ≡ Err Cut
unfolding varint_at
reads-cut count low weight bytes lt h =
    let left : 10 - count ≡ suc (10 - (count + 1)) = omega arith in
    let found : groups_at 10 bytes ≡ Err Cut = h.same ∙ rw left (completed-cut low weight (10 - (count + 1))) in
    rw found refl

-- what the last group's step owes
pub record Last (low weight n : ℕ) (after bytes : List ℕ) : Type 0 where
  pub product : n * weight < 2 ^ 64
  pub sum : low + n * weight < 2 ^ 64
  pub found : varint_at bytes ≡ Ok (low + n * weight, after)

pub last : {count low weight n b : ℕ} {rest after bytes : List ℕ} → Reads count low weight rest bytes →
    rest ≡ b ∷ after → n ≡ b → count < 9 → b < 128 → Last low weight n after bytes
last {count} {low} {weight} {n} {b} {rest} {after} {bytes} h e same lt small =
    let g : Reads count low weight (b ∷ after) bytes = rw e at h in
    let fits : low + b * weight < 2 ^ 63 = last_fits count low weight b after bytes lt small g in
    rw same (record { product = omega arith; sum = omega arith; found = reads-last count low weight b after bytes (omega arith) small (omega arith) g })

-- what a further group's step owes
pub record More (count low weight n : ℕ) (after bytes : List ℕ) : Type 0 where
  pub product : n * weight < 2 ^ 64
  pub sum : low + n * weight < 2 ^ 64
  pub scale : weight * 128 < 2 ^ 64
  pub reads : Reads (count + 1) (low + n * weight) (weight * 128) after bytes

pub more : {count low weight n b : ℕ} {rest after bytes : List ℕ} → Reads count low weight rest bytes →
    rest ≡ b ∷ after → n ≡ b - 128 → count < 9 → b < 256 → 128 ≤ b → More count low weight n after bytes
more {count} {low} {weight} {n} {b} {rest} {after} {bytes} h e same lt byte high =
    let g : Reads count low weight (b ∷ after) bytes = rw e at h in
    let fits : low + (b - 128) * weight < 2 ^ 63 = more_fits count low weight b after bytes lt byte g in
    let scale : weight ≤ 2 ^ 56 = scale_fits count low weight rest bytes lt h in
    rw same (record { product = omega arith; sum = omega arith; scale = omega arith; reads = reads-more count low weight b after bytes lt byte high g })

pub cut : {count low weight : ℕ} {rest bytes : List ℕ} → Reads count low weight rest bytes → rest ≡ [] → count < 10 → varint_at bytes ≡ Err Cut
cut {count} {low} {weight} {rest} {bytes} h e lt =
    let g : Reads count low weight [] bytes = rw e at h in reads-cut count low weight bytes lt g

pub last_tenth : {count low weight n b : ℕ} {rest after bytes : List ℕ} → Reads count low weight rest bytes →
    rest ≡ b ∷ after → n ≡ b → count ≡ 9 → b ≤ 1 → Last low weight n after bytes
last_tenth {count} {low} {weight} {n} {b} {rest} {after} {bytes} h e same nine small =
    let g : Reads 9 low weight (b ∷ after) bytes = rw nine at (rw e at h) in
    let w : weight ≡ 2 ^ 63 = g.scale in
    let below : low < weight = g.below in
    let product : b * weight ≤ weight = grind arith in
    rw same (record { product = omega arith; sum = omega arith; found = reads-last 9 low weight b after bytes (omega arith) (omega arith) (omega arith) g })

pub too_long : {count low weight b : ℕ} {rest after bytes : List ℕ} → Reads count low weight rest bytes →
    rest ≡ b ∷ after → count ≡ 9 → 2 ≤ b → varint_at bytes ≡ Err TooLong
too_long {count} {low} {weight} {b} {rest} {after} {bytes} h e nine big =
    let g : Reads 9 low weight (b ∷ after) bytes = rw nine at (rw e at h) in
    let w : weight ≡ 2 ^ 63 = g.scale in
    reads-too_long low b after bytes big (rw w at g)
