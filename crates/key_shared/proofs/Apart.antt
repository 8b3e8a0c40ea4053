-- Ranges that don't meet have no slot in common, and so no slot lies in the ranges of two consumers.
use Rattle.std.proofs.Common.{◌≡◌, ℕ, suc, ◌<◌, ◌≤◌, ◌++◌, ◌∙◌, List, [], ◌∷◌, Bool, true, false, cond, not, nat_le, ◌&&◌, ◌||◌, get_or, Option, Some, None, OnOk, OnErr, Result, Ok, Err, inl, inr, ◌⊎◌, refl, ap, sym, subst, arith}
use Rattle.std.proofs.lemmas.Bool.{eqb-true}
use Rattle.std.proofs.lemmas.Bool.Decides.{nat_tests, eqb_tells, leb_tells}
use Rattle.std.proofs.lemmas.List.Folds.{list_any_at}
use Rattle.std.proofs.lemmas.List.Quantifiers.{all_pairs_push}
use Rattle.std.proofs.lemmas.List.Kept.{AllPairs-filter}
use Rattle.std.proofs.lemmas.Option.{get_or_from_slice_get, slice_get_within}
use Rattle.std.specs.List.{list_any, slice_get}
use Rattle.std.specs.Option.{IsSomeAnd}
use Rattle.std.specs.Prelude.{IsTrue, ◌↔◌, slice_index}
use Rattle.holds.specs.Backlog.{Backlog, IsLeast, IsOpenIn, in_ranges, attached, without}
use Rattle.holds.specs.Deliveries.{same_key}
use Rattle.holds.specs.declared.consumer.Consumer.{Consumer}
use Rattle.holds.specs.declared.consumer.ConsumerKey.{ConsumerKey}
use Rattle.holds.specs.declared.consumer.SlotRange.{SlotRange}
use Rattle.holds.specs.declared.consumer.Refusal.{Refusal}
use Rattle.key_shared.specs.Ranges.{meets, meet, sticky_refusal, AdmitsSticky, AreDisjoint, AreApart}

-- whether a slot lies in one range
abbrev lies : ℕ → SlotRange → Bool
lies slot r = nat_le r.start slot && nat_le slot r.end

either : (x y : Bool) → (x || y) ≡ true → (x ≡ true) ⊎ (y ≡ true)
either true y h = inl refl
either false y h = inr h

or_left : (x y : Bool) → x ≡ true → (x || y) ≡ true
or_left true y h = refl
or_left false y h = absurd cc

or_right : (x y : Bool) → y ≡ true → (x || y) ≡ true
or_right true y h = refl
or_right false y h = h

not_both : (b : Bool) → b ≡ false → b ≡ true → ⊥
not_both true e h = absurd cc
not_both false e h = absurd cc

-- two ranges in which a slot lies meet
pub common : (slot : ℕ) (a b : SlotRange) → lies slot a ≡ true → lies slot b ≡ true → meets a b ≡ true
common slot a b in_a in_b = grind (arith, nat_tests)

meets_one : (slot : ℕ) (a : SlotRange) (others : List SlotRange) → lies slot a ≡ true → in_ranges others slot ≡ true → list_any (meets a) others ≡ true
meets_one slot a [] here there = there
meets_one slot a (b ∷ bs) here there =
    elim (either _ _ there) [
      | inl in_b ↦ or_left _ _ (common slot a b here in_b)
      | inr later ↦ or_right _ _ (meets_one slot a bs here later)
    ]

meets_at : (slot : ℕ) (ranges others : List SlotRange) → in_ranges ranges slot ≡ true → in_ranges others slot ≡ true → meet ranges others ≡ true
meets_at slot [] others here there = here
meets_at slot (a ∷ rest) others here there =
    elim (either _ _ here) [
      | inl in_a ↦ or_left _ _ (meets_one slot a others in_a there)
      | inr later ↦ or_right _ _ (meets_at slot rest others later there)
    ]

-- whether the consumer's ranges meet those of the attached one
abbrev meets_with : Consumer → Consumer → Bool
meets_with c d = meet c.ranges d.ranges

disjoint : (c d : Consumer) → meets_with c d ≡ false → AreDisjoint d c
disjoint c d apart slot in_d in_c = not_both _ apart (meets_at slot c.ranges d.ranges in_c in_d)

not_met_by : (b : Bool) → ¬ (b ≡ true) → b ≡ false
not_met_by true h = absurd (h refl)
not_met_by false h = refl

last_false : (room others last : Bool) (e f : Refusal) → cond room (cond (others || last) (Some e) None) (Some f) ≡ None → last ≡ false
last_false true true last e f none = absurd cc
last_false true false true e f none = absurd cc
last_false true false false e f none = refl
last_false false others last e f none = absurd cc

pub pushed : (consumers : List Consumer) (c : Consumer) → AreApart consumers → sticky_refusal consumers c ≡ None → AreApart (consumers ++ c ∷ [])
pushed consumers c apart none =
    let unmet : list_any (meets_with c) consumers ≡ false = last_false _ _ _ _ _ none in
    all_pairs_push AreDisjoint consumers c apart (λ k d low. disjoint c (get_or consumers k d) (not_met_by _ (λ met. not_both _ unmet (list_any_at (meets_with c) consumers k d low met))))

pub taken_out : (consumers : List Consumer) (key : ConsumerKey) → AreApart consumers → AreApart (without key consumers)
taken_out consumers key apart = AllPairs-filter AreDisjoint (λ c. not (same_key c.key key)) consumers apart

pub attached_or_not : (result : Result (Unit {0}) Refusal) (before after : List Consumer) (c : Consumer)
    → AreApart before → sticky_refusal before c ≡ None → OnOk result (after ≡ before ++ c ∷ []) → OnErr result (after ≡ before) → AreApart after
attached_or_not (Ok t) before after c apart none is_ok is_err = subst AreApart (sym is_ok) (pushed before c apart none)
attached_or_not (Err e) before after c apart none is_ok is_err = subst AreApart (sym is_err) apart

-- where a consumer with this key and in P stands
record IsFound (key : ConsumerKey) (P : Consumer → Type 0) (consumers : List Consumer) : Type 0 where
  place : ℕ
  who : Consumer
  at : slice_get consumers place ≡ Some who
  named : who.key ≡ key
  holds : P who

key_is : (a b : ConsumerKey) → same_key a b ≡ true → a ≡ b
key_is a b same =
    let here = both _ _ same in
    let one_session : a.session ≡ b.session = eqb-true a.session b.session here.0 in
    let one_id : a.id ≡ b.id = eqb-true a.id b.id here.1 in
    λ i. record { session = one_session i; id = one_id i }
  where
    both : (x y : Bool) → (x && y) ≡ true → (x ≡ true) × (y ≡ true)
    both true y h = (refl, h)
    both false y h = absurd cc

found : (key : ConsumerKey) (P : Consumer → Type 0) (consumers : List Consumer) → IsSomeAnd (attached key consumers) P → IsFound key P consumers
found key P [] here = absurd here
found key P (c ∷ cs) here = by_test (same_key c.key key) refl (λ h. found key P cs h) here
  where
    by_test : (b : Bool) → same_key c.key key ≡ b → (IsSomeAnd (attached key cs) P → IsFound key P cs) → IsSomeAnd (cond b (Some c) (attached key cs)) P → IsFound key P (c ∷ cs)
    by_test true is behind here = record { place = 0; who = c; at = refl; named = key_is c.key key is; holds = here }
    by_test false is behind here = let later = behind here in record { place = suc later.place; who = later.who; at = later.at; named = later.named; holds = later.holds }

one_place : (consumers : List Consumer) (i j : ℕ) (c d : Consumer) (k l : ConsumerKey) → i ≡ j → slice_get consumers i ≡ Some c → slice_get consumers j ≡ Some d → c.key ≡ k → d.key ≡ l → k ≡ l
one_place consumers i j c d k l same at_i at_j is_k is_l =
    let there : Some c ≡ Some d = sym at_i ∙ ap (slice_get consumers) same ∙ at_j in
    let one : c ≡ d = cc in
    sym is_k ∙ ap (λ x. x.key) one ∙ is_l

two_places : (slot : ℕ) (consumers : List Consumer) (i j : ℕ) (c d : Consumer) → AreApart consumers → i < j → slice_get consumers i ≡ Some c → slice_get consumers j ≡ Some d
    → in_ranges c.ranges slot ≡ true → in_ranges d.ranges slot ≡ true → ⊥
two_places slot consumers i j c d apart low at_i at_j in_c in_d =
    let of : Consumer → ℕ → Bool = λ x s. in_ranges x.ranges s in
    apart i j c low (slice_get_within consumers j d at_j) slot
    (ap (λ x. of x slot) (get_or_from_slice_get consumers i c c at_i) ∙ in_c)
    (ap (λ x. of x slot) (get_or_from_slice_get consumers j d c at_j) ∙ in_d)

pub one_consumer : (consumers : List Consumer) (slot : ℕ) (k l : ConsumerKey) → AreApart consumers
    → IsSomeAnd (attached k consumers) (λ c. IsTrue (in_ranges c.ranges slot)) → IsSomeAnd (attached l consumers) (λ c. IsTrue (in_ranges c.ranges slot)) → k ≡ l
one_consumer consumers slot k l apart has_k has_l =
    let P : Consumer → Type 0 = λ c. IsTrue (in_ranges c.ranges slot) in
    let here : IsFound k P consumers = found k P consumers has_k in
    let there : IsFound l P consumers = found l P consumers has_l in
    elim (eqb_tells here.place there.place) [
      | inl same ↦ one_place consumers here.place there.place here.who there.who k l same.1 here.at there.at here.named there.named
      | inr other ↦
          elim (leb_tells here.place there.place) [
            | inl before ↦ absurd (two_places slot consumers here.place there.place here.who there.who apart (omega arith) here.at there.at here.holds there.holds)
            | inr behind ↦ absurd (two_places slot consumers there.place here.place there.who here.who apart (omega arith) there.at here.at there.holds here.holds)
          ]
    ]

pub admitted_once : (consumers : List Consumer) (b : Backlog) (k l : ConsumerKey) (i : ℕ) → AreApart consumers → AdmitsSticky consumers b k i → AdmitsSticky consumers b l i → k ≡ l
admitted_once consumers b k l i apart has_k has_l = one_consumer consumers (slice_index b.slots i) k l apart (in_its (attached k consumers) has_k) (in_its (attached l consumers) has_l)
  where
    in_its : (o : Option Consumer) → IsSomeAnd o (λ c. IsLeast (IsOpenIn b c.ranges) i) → IsSomeAnd o (λ c. IsTrue (in_ranges c.ranges (slice_index b.slots i)))
    in_its None h = h
    in_its (Some c) h = h.0.1

pub meet_or_not : (a b : SlotRange) → a.start ≤ a.end → b.start ≤ b.end → IsTrue (meets a b) ↔ ((slot : ℕ) × IsTrue (in_ranges (a ∷ []) slot) × IsTrue (in_ranges (b ∷ []) slot))
meet_or_not a b forward_a forward_b = (shared_slot, λ s. common s.0 a b (alone _ s.1) (alone _ s.2))
  where
    alone : (x : Bool) → (x || false) ≡ true → x ≡ true
    alone true h = refl
    alone false h = h

    shared_slot : meets a b ≡ true → (slot : ℕ) × IsTrue (in_ranges (a ∷ []) slot) × IsTrue (in_ranges (b ∷ []) slot)
    shared_slot met =
        elim (leb_tells a.start b.start) [
          | inl here ↦ (b.start, grind (arith, nat_tests), grind (arith, nat_tests))
          | inr there ↦ (a.start, grind (arith, nat_tests), grind (arith, nat_tests))
        ]
