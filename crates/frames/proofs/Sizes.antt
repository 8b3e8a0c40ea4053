-- The sizes at the front don't depend on what follows them.
use Rattle.std.proofs.Common.{◌≡◌, ◌<◌, ◌≤◌, ℕ, ◌+◌, List, ◌++◌, length, take, drop, nat_lt, sym, true, false, inl, inr, refl, ap, ◌∙◌, arith, length-append, length-drop}
use Rattle.std.proofs.lemmas.Bool.{cases_lt}
use Rattle.std.proofs.lemmas.Bool.Decides.{nat_tests}
use Rattle.std.proofs.lemmas.List.{take-append-le, drop-append-le, take-append-drop, length-take-le}
use Rattle.std.specs.Int.{w32, from_be_bytes}
use Rattle.commands.specs.Metadata.{size_at}
use Rattle.frames.specs.Frames.{largest_size}
use Rattle.frames.specs.Reading.{needed, EndsWithin, IsWhole}

pub size_at-more : (bytes more : List ℕ) → 4 ≤ length bytes → size_at (bytes ++ more) ≡ size_at bytes
size_at-more bytes more h = ap (λ b. from_be_bytes w32 b) (take-append-le 4 bytes more h)

pub second-more : (bytes more : List ℕ) → 8 ≤ length bytes → size_at (drop 4 (bytes ++ more)) ≡ size_at (drop 4 bytes)
second-more bytes more h =
    let head : 4 ≤ length bytes = omega arith in
    let behind : 4 ≤ length (drop 4 bytes) = omega (arith, length-drop 4 bytes) in
    ap size_at (drop-append-le 4 bytes more head) ∙ size_at-more (drop 4 bytes) more behind

needed_first : (bytes : List ℕ) → length bytes < 4 → needed bytes ≡ 4
unfolding needed
needed_first bytes h = let e : nat_lt (length bytes) 4 ≡ true = grind (arith, nat_tests) in rw e refl

needed_second : (bytes : List ℕ) → 4 ≤ length bytes → length bytes < 8 → needed bytes ≡ 8
unfolding needed
needed_second bytes h k =
    let e : nat_lt (length bytes) 4 ≡ false = grind (arith, nat_tests) in
    let f : nat_lt (length bytes) 8 ≡ true = grind (arith, nat_tests) in
    rw (e, f) refl

needed_all : (bytes : List ℕ) → 8 ≤ length bytes → needed bytes ≡ 4 + size_at bytes
unfolding needed
needed_all bytes h =
    let e : nat_lt (length bytes) 4 ≡ false = grind (arith, nat_tests) in
    let f : nat_lt (length bytes) 8 ≡ false = grind (arith, nat_tests) in
    rw (e, f) refl

-- no more bytes than needed don't pass the end
pub ends-within : (bytes more : List ℕ) → length (bytes ++ more) ≤ needed bytes → EndsWithin (bytes ++ more)
ends-within bytes more h all agree =
    let total : length (bytes ++ more) ≡ length bytes + length more = length-append bytes more in
    elim (cases_lt (length bytes) 4) [
      | inl short ↦ let e = needed_first bytes short in absurd (omega arith)
      | inr some ↦ elim (cases_lt (length bytes) 8) [
        | inl short ↦ let e = needed_second bytes some short in omega arith
        | inr long ↦
            let e = needed_all bytes long in
            let same = size_at-more bytes more some in
            rw same (omega arith)
      ]
    ]

-- the sizes at the front of a stream tell which of its bytes are a frame's
pub whole-front : (stream : List ℕ) → size_at stream ≤ largest_size → 4 + size_at (drop 4 stream) ≤ size_at stream → 4 + size_at stream ≤ length stream →
    IsWhole (take (4 + size_at stream) stream)
whole-front stream small agree within =
    let n = 4 + size_at stream in
    let part = take n stream in
    let split : part ++ drop n stream ≡ stream = take-append-drop n stream in
    let long : length part ≡ n = length-take-le n stream within in
    let first : size_at part ≡ size_at stream = sym (size_at-more part (drop n stream) (omega (arith, long))) ∙ ap size_at split in
    let second : size_at (drop 4 part) ≡ size_at (drop 4 stream) =
    sym (second-more part (drop n stream) (omega (arith, long, agree))) ∙ ap (λ l. size_at (drop 4 l)) split in
    record {
      known = omega (arith, long, agree);
      small = rw first small;
      agree = rw (first, second) agree;
      all = rw first long;
    }
