-- What `joined` does to the ranges.
use Rattle.std.proofs.Common.{◌≡◌, ℕ, ◌-◌, ◌^◌, ◌<◌, ◌≤◌, false, true, not, nat_lt, nat_le, cond, ◌||◌, ◌&&◌, ◌∙◌, ap, refl, sym, subst, arith, nat_cmp, Bool, [], ◌∷◌, Some, None, Option, inl, inr}
use Rattle.std.proofs.lemmas.Bool.Decides.{nat_tests, leb_tells}
use Rattle.std.specs.List.{filter}
use Rattle.std.specs.Option.{is_some}
use Rattle.std.specs.BTreeMap.{insert_entry}
use Rattle.cursor.specs.Ranged.{Ranges, in_ranges, behind, last_of, with_range, joined, IsApart}
use Rattle.cursor.proofs.Added.{less, equal, greater}

-- the first of the ranges ends at `first` or behind it
abbrev EndsFrom : ℕ → Ranges → Type 0
EndsFrom first [] = Unit {0}
EndsFrom first (r ∷ rs) = first ≤ r.0

-- the first of the ranges begins at `start` or behind it
abbrev StartsFrom : ℕ → Ranges → Type 0
StartsFrom start [] = Unit {0}
StartsFrom start (r ∷ rs) = start ≤ r.1

ends_after : (mark first : ℕ) (rs : Ranges) → first ≤ mark → IsApart mark rs → EndsFrom first rs
ends_after mark first [] low apart = tt
ends_after mark first (r ∷ rs) low apart = omega arith

starts_after : (mark start : ℕ) (rs : Ranges) → start ≤ mark → IsApart mark rs → StartsFrom start rs
starts_after mark start [] low apart = tt
starts_after mark start (r ∷ rs) low apart = omega arith

-- the range from `start` on and before `end`, in the place of those that end before it or begin in it
abbrev swallow : ℕ → ℕ → Ranges → Ranges
swallow start end [] = (end, start) ∷ []
swallow start end (r ∷ rs) = cond (nat_lt r.0 end) (swallow start end rs) (cond (nat_le r.1 end) ((r.0, start) ∷ rs) ((end, start) ∷ r ∷ rs))

last_from : (end : ℕ) (r : ℕ × ℕ) → end ≤ r.0 → end ≤ last_of end (Some r)
last_from end r high = grind (arith, nat_tests)

last_behind : (end : ℕ) (rs : Ranges) → end ≤ last_of end (behind (end - 1) rs)
last_behind end [] = omega arith
last_behind end (r ∷ rs) =
    elim (leb_tells r.0 (end - 1)) [
      | inl high ↦ let t : nat_lt (end - 1) r.0 ≡ false = grind (arith, nat_tests) in rw t (last_behind end rs)
      | inr low ↦ let t : nat_lt (end - 1) r.0 ≡ true = grind (arith, nat_tests) in rw t (last_from end r (omega (arith, low.1)))
    ]

-- ranges that end behind `end` stay
keep_all : (first end mark : ℕ) (rs : Ranges) → end ≤ mark → IsApart mark rs → filter (λ r. nat_lt r.0 first || nat_le end r.0) rs ≡ rs
keep_all first end mark [] low apart = refl
keep_all first end mark (r ∷ rs) low apart =
    let t : (nat_lt r.0 first || nat_le end r.0) ≡ true = grind (arith, nat_tests) in
    rw t (ap (λ (x : Ranges). r ∷ x) (keep_all first end r.0 rs (omega arith) apart.2))

swallow_is : (first start end mark : ℕ) (rs : Ranges) → 0 < end → EndsFrom first rs → IsApart mark rs → with_range first (last_of end (behind (end - 1) rs), start) rs ≡ swallow start end rs
swallow_is first start end mark [] some low apart =
    let t : (nat_lt end first || nat_le end end) ≡ true = grind (arith, nat_tests) in
    rw t refl
swallow_is first start end mark (r ∷ rs) some low apart =
    elim (leb_tells end r.0) [
      | inl high ↦
          let t : nat_lt r.0 end ≡ false = grind (arith, nat_tests, high.1) in
          let u : nat_lt (end - 1) r.0 ≡ true = grind (arith, nat_tests, high.1) in
          elim (leb_tells r.1 end) [
            | inl touch ↦
                let v : nat_le r.1 end ≡ true = grind (arith, nat_tests, touch.1) in
                let k : (nat_lt r.0 first || nat_le r.0 r.0) ≡ true = grind (arith, nat_tests) in
                rw (t, u, v, equal r.0 r.0 refl, k) (ap (λ (x : Ranges). (r.0, start) ∷ x) (keep_all first r.0 r.0 rs (omega arith) apart.2))
            | inr gap ↦
                let v : nat_le r.1 end ≡ false = grind (arith, nat_tests, gap.1) in
                let k : (nat_lt end first || nat_le end end) ≡ true = grind (arith, nat_tests) in
                let m : (nat_lt r.0 first || nat_le end r.0) ≡ true = grind (arith, nat_tests, high.1) in
                rw (t, u, v, less end r.0 (omega (arith, gap.1, apart.1)), k, m) (ap (λ (x : Ranges). (end, start) ∷ r ∷ x) (keep_all first end r.0 rs high.1 apart.2))
          ]
      | inr short ↦
          let t : nat_lt r.0 end ≡ true = grind (arith, nat_tests, short.1) in
          let u : nat_lt (end - 1) r.0 ≡ false = grind (arith, nat_tests, short.1) in
          let last = last_of end (behind (end - 1) rs) in
          let far = last_behind end rs in
          let k : (nat_lt r.0 first || nat_le last r.0) ≡ false = grind (arith, nat_tests, far, short.1) in
          rw (t, u, greater last r.0 (omega (arith, far, short.1)), k) (swallow_is first start end r.0 rs some (ends_after r.0 first rs low apart.2) apart.2)
    ]

-- these positions joined the ranges, which still follow the mark with gaps
pub record IsJoined (mark first end : ℕ) (old new : Ranges) : Type 0 where
  pub apart : IsApart mark new
  pub same : (q : ℕ) → in_ranges new q ≡ ((nat_lt q end && not (nat_lt q first)) || in_ranges old q)

swallows : (mark start end : ℕ) (rs : Ranges) → mark < start → start < end → end ≤ 2 ^ 62 → StartsFrom start rs → (before : ℕ) → IsApart before rs → IsJoined mark start end rs (swallow start end rs)
swallows mark start end [] behind_mark rises fits from before apart = record {
  apart = (behind_mark, rises, fits);
  same = λ q. grind (arith, nat_tests);
}
swallows mark start end (r ∷ rs) behind_mark rises fits from before apart =
    elim (leb_tells end r.0) [
      | inl high ↦
          let t : nat_lt r.0 end ≡ false = grind (arith, nat_tests, high.1) in
          elim (leb_tells r.1 end) [
            | inl touch ↦
                let v : nat_le r.1 end ≡ true = grind (arith, nat_tests, touch.1) in
                rw (t, v) (record {
                  apart = (behind_mark, omega (arith, high.1), apart.2);
                  same = λ q. let h = high.1 in let c = touch.1 in grind (arith, nat_tests);
                })
            | inr gap ↦
                let v : nat_le r.1 end ≡ false = grind (arith, nat_tests, gap.1) in
                rw (t, v) (record {
                  apart = (behind_mark, rises, (gap.1, apart.1, apart.2));
                  same = λ q. grind (arith, nat_tests);
                })
          ]
      | inr short ↦
          let t : nat_lt r.0 end ≡ true = grind (arith, nat_tests, short.1) in
          let rest = swallows mark start end rs behind_mark rises fits (starts_after r.0 start rs (omega (arith, from, apart.1)) apart.2) r.0 apart.2 in
          rw t (record {
            apart = rest.apart;
            same = λ q. let h = rest.same q in let s = short.1 in grind (arith, nat_tests);
          })
    ]

joined_later : (first end : ℕ) (r : ℕ × ℕ) (rs : Ranges) → first < end → r.0 < first → joined first end (r ∷ rs) ≡ r ∷ joined first end rs
joined_later first end r rs rises low =
    let t : nat_lt (first - 1) r.0 ≡ false = grind (arith, nat_tests) in
    let u : nat_lt (end - 1) r.0 ≡ false = grind (arith, nat_tests) in
    let last = last_of end (behind (end - 1) rs) in
    let far = last_behind end rs in
    let k : (nat_lt r.0 first || nat_le last r.0) ≡ true = grind (arith, nat_tests) in
    rw (t, u, greater last r.0 (omega (arith, far)), k) refl

later_joined : (mark first end : ℕ) (r : ℕ × ℕ) (rs new : Ranges) → mark < r.1 → r.1 < r.0 → IsJoined r.0 first end rs new → IsJoined mark first end (r ∷ rs) (r ∷ new)
later_joined mark first end r rs new behind_mark up rest = record {
  apart = (behind_mark, up, rest.apart);
  same = λ q. let h = rest.same q in grind (arith, nat_tests);
}

-- a range that touches the positions joins them
from_start : (mark first end : ℕ) (r : ℕ × ℕ) (rs new : Ranges) → r.1 < first → first ≤ r.0 → IsJoined mark r.1 end (r ∷ rs) new → IsJoined mark first end (r ∷ rs) new
from_start mark first end r rs new low high wide = record {
  apart = wide.apart;
  same = λ q. let h = wide.same q in grind (arith, nat_tests);
}

here_is : (mark first end : ℕ) (r : ℕ × ℕ) (rs : Ranges) → first < end → first ≤ r.0 → 0 < first → IsApart mark (r ∷ rs) → joined first end (r ∷ rs) ≡ swallow (cond (nat_lt r.1 first) r.1 first) end (r ∷ rs)
here_is mark first end r rs rises high low apart =
    let t : nat_lt (first - 1) r.0 ≡ true = grind (arith, nat_tests) in
    rw t (swallow_is first (cond (nat_lt r.1 first) r.1 first) end mark (r ∷ rs) (omega arith) high apart)

start_joined : (mark first end : ℕ) (r : ℕ × ℕ) (rs : Ranges) → mark < first → first < end → end ≤ 2 ^ 62 → first ≤ r.0 → IsApart mark (r ∷ rs) → (early : Bool) → nat_lt r.1 first ≡ early → IsJoined mark first end (r ∷ rs) (swallow (cond early r.1 first) end (r ∷ rs))
start_joined mark first end r rs behind_mark rises fits high apart true is =
    let low : r.1 < first = grind (arith, nat_tests) in
    from_start mark first end r rs _ low high (swallows mark r.1 end (r ∷ rs) apart.0 (omega (arith, low)) fits (omega arith) mark apart)
start_joined mark first end r rs behind_mark rises fits high apart false is =
    swallows mark first end (r ∷ rs) behind_mark rises fits (grind (arith, nat_tests)) mark apart

here_joined : (mark first end : ℕ) (r : ℕ × ℕ) (rs : Ranges) → mark < first → first < end → end ≤ 2 ^ 62 → first ≤ r.0 → IsApart mark (r ∷ rs) → IsJoined mark first end (r ∷ rs) (joined first end (r ∷ rs))
here_joined mark first end r rs behind_mark rises fits high apart =
    subst (λ (new : Ranges). IsJoined mark first end (r ∷ rs) new) (sym (here_is mark first end r rs rises high (omega arith) apart))
    (start_joined mark first end r rs behind_mark rises fits high apart (nat_lt r.1 first) refl)

pub joined_keeps : (mark first end : ℕ) (rs : Ranges) → mark < first → first < end → end ≤ 2 ^ 62 → IsApart mark rs → IsJoined mark first end rs (joined first end rs)
joined_keeps mark first end [] behind_mark rises fits apart = rw (swallow_is first first end mark [] (omega arith) tt apart) (swallows mark first end [] behind_mark rises fits tt mark apart)
joined_keeps mark first end (r ∷ rs) behind_mark rises fits apart =
    elim (leb_tells first r.0) [
      | inl high ↦ here_joined mark first end r rs behind_mark rises fits high.1 apart
      | inr low ↦ rw (joined_later first end r rs rises low.1) (later_joined mark first end r rs (joined first end rs) apart.0 apart.1 (joined_keeps r.0 first end rs low.1 rises fits apart.2))
    ]

-- ---- behind the last range

no_range : (early : Bool) (p : ℕ) (r : ℕ × ℕ) (rs : Ranges) → nat_lt p r.0 ≡ early → cond early (Some r) (behind p rs) ≡ None → (r.0 ≤ p) × (behind p rs ≡ None)
no_range true p r rs is none = absurd (Prim.cc)
no_range false p r rs is none = (grind (arith, nat_tests), none)

pub none_there : (o : Option (ℕ × ℕ)) (none : Bool) → is_some o ≡ not none → none ≡ true → o ≡ None
none_there None none is there = refl
none_there (Some r) none is there = let nothing : true ≡ false = is ∙ ap not there in absurd (Prim.cc)

-- no range ends at `first` or behind it
pub added_behind : (first end : ℕ) (rs : Ranges) → first < end → 0 < first → behind (first - 1) rs ≡ None → joined first end rs ≡ insert_entry nat_cmp rs end first
added_behind first end [] rises some none = let t : (nat_lt end first || nat_le end end) ≡ true = grind (arith, nat_tests) in rw t refl
added_behind first end (r ∷ rs) rises some none =
    let past = no_range (nat_lt (first - 1) r.0) (first - 1) r rs refl none in
    let low : r.0 < first = omega (arith, past.0) in
    rw (joined_later first end r rs rises low, greater end r.0 (omega (arith, low, rises))) (ap (λ (x : Ranges). r ∷ x) (added_behind first end rs rises some past.1))
