-- What is listed with each consumer follows who holds each position.
use Rattle.std.proofs.Common.{◌≡◌, ℕ, ◌≤◌, Bool, true, false, cond, ◌&&◌, List, ◌∷◌, ◌∙◌, ap, sym, refl, subst, arith, nat_eq, nat_cmp, Option, Some, None, inl, inr, Less, Equal, Greater, IsTrue, IfSome, IfNone, slice_get}
use Rattle.std.specs.Option.{option_map}
use Rattle.std.specs.Ordering.{ordering_then, is_eq, is_gt}
use Rattle.std.specs.declared.cmp.Ordering.{Ordering}
use Rattle.std.specs.Cmp.{nat_cmp_total, unsigned_tied, nat_eq_equiv}
use Rattle.std.specs.BTreeMap.{BTreeMap, is_at}
use Rattle.std.specs.BTreeMap as tree
use Rattle.std.specs.BTreeMap.Range.{IsLeBy}
use Rattle.std.specs.BTreeSet.{BTreeSet, contains}
use Rattle.holds.specs.Backlog.{IsLeast}
use Rattle.std.proofs.lemmas.Bool.{eqb-true, false≢true}
use Rattle.std.proofs.lemmas.Bool.Decides.{eqb_tells, nat_tests}
use Rattle.std.proofs.lemmas.Cmp.{tied_itself}
use Rattle.std.proofs.lemmas.Map.Keys.{le_from_not_gt}
use Rattle.holds.specs.declared.consumer.ConsumerKey.{ConsumerKey}
use Rattle.holds.specs.declared.delivery.Delivery.{Delivery}
use Rattle.holds.proofs.Kept.{kept, get_kept}
use Rattle.holds.specs.Deliveries.{holder, holder_in, is_held_by, same_key, released, given_back}
use Rattle.holds.specs.Listing.{Place, place_cmp, is_listed, IsSetTo, IsListedAt, IsRelisted, IsListing}

-- ---- places in order
then_tied : (a b : Ordering) → is_eq (ordering_then a b) ≡ (is_eq a && is_eq b)
then_tied Less b = refl
then_tied Equal b = refl
then_tied Greater b = refl

swapped : (a b : Bool) → (a && b) ≡ (b && a)
swapped true true = refl
swapped true false = refl
swapped false true = refl
swapped false false = refl

pub at_place : (c d : ConsumerKey) (p q : ℕ) → is_at (place_cmp (c.session, c.id, p)) (d.session, d.id, q) ≡ (nat_eq q p && same_key c d)
at_place c d p q =
    then_tied (ordering_then (nat_cmp c.session d.session) (nat_cmp c.id d.id)) (nat_cmp p q)
    ∙ ap (λ b. b && is_eq (nat_cmp p q)) (then_tied (nat_cmp c.session d.session) (nat_cmp c.id d.id))
    ∙ ap (λ b. (b && is_eq (nat_cmp c.id d.id)) && is_eq (nat_cmp p q)) (unsigned_tied c.session d.session)
    ∙ ap (λ b. (nat_eq c.session d.session && b) && is_eq (nat_cmp p q)) (unsigned_tied c.id d.id)
    ∙ ap (λ b. same_key c d && b) (unsigned_tied p q ∙ nat_eq_equiv.symm p q)
    ∙ swapped (same_key c d) (nat_eq q p)

first_not_above : (a b : Ordering) → is_gt (ordering_then a b) ≡ false → is_gt a ≡ false
first_not_above Less b low = refl
first_not_above Equal b low = refl
first_not_above Greater b low = low

then_not_above : (a b : Ordering) → a ≡ Equal → is_gt (ordering_then a b) ≡ false → is_gt b ≡ false
then_not_above a b tied low = ap (λ x. is_gt (ordering_then x b)) (sym tied) ∙ low

tied : (n m : ℕ) → n ≡ m → nat_cmp m n ≡ Equal
tied n m same = ap (nat_cmp m) same ∙ tied_itself nat_cmp_total m

both_tied : (c : ConsumerKey) → ordering_then (nat_cmp c.session c.session) (nat_cmp c.id c.id) ≡ Equal
both_tied c = ap (λ x. ordering_then x (nat_cmp c.id c.id)) (tied_itself nat_cmp_total c.session) ∙ tied_itself nat_cmp_total c.id

pub from_start : (c : ConsumerKey) (q : ℕ) → IsLeBy place_cmp (c.session, c.id, 0) (c.session, c.id, q)
from_start c q = ap (λ x. is_gt (ordering_then x (nat_cmp 0 q))) (both_tied c) ∙ (let low : is_gt (nat_cmp 0 q) ≡ false = grind (arith, nat_tests) in low)

pub in_order : (c : ConsumerKey) (p q : ℕ) → IsLeBy place_cmp (c.session, c.id, p) (c.session, c.id, q) → p ≤ q
in_order c p q low = le_from_not_gt p q (then_not_above (ordering_then (nat_cmp c.session c.session) (nat_cmp c.id c.id)) (nat_cmp p q) (both_tied c) low)

-- a place from the consumer's first one on and up to one of its places
pub same_session : (c : ConsumerKey) (k : Place) (q : ℕ) → IsLeBy place_cmp (c.session, c.id, 0) k → IsLeBy place_cmp k (c.session, c.id, q) → k.0 ≡ c.session
same_session c k q low high =
    let up = le_from_not_gt c.session k.0 (first_not_above (nat_cmp c.session k.0) (nat_cmp c.id k.1) (first_not_above _ (nat_cmp 0 k.2) low)) in
    let down = le_from_not_gt k.0 c.session (first_not_above (nat_cmp k.0 c.session) (nat_cmp k.1 c.id) (first_not_above _ (nat_cmp k.2 q) high)) in
    omega arith

pub same_id : (c : ConsumerKey) (k : Place) (q : ℕ) → IsLeBy place_cmp (c.session, c.id, 0) k → IsLeBy place_cmp k (c.session, c.id, q) → k.1 ≡ c.id
same_id c k q low high =
    let same = same_session c k q low high in
    let up = le_from_not_gt c.id k.1 (then_not_above (nat_cmp c.session k.0) (nat_cmp c.id k.1) (tied k.0 c.session same) (first_not_above _ (nat_cmp 0 k.2) low)) in
    let down = le_from_not_gt k.1 c.id (then_not_above (nat_cmp k.0 c.session) (nat_cmp k.1 c.id) (tied c.session k.0 (sym same)) (first_not_above _ (nat_cmp k.2 q) high)) in
    omega arith

-- ---- what is listed with one position
-- what a value is at one place of a list, and elsewhere
at_or_apart : (p q : ℕ) (old : ℕ → Bool) (was now then : Bool) → old p ≡ was → (nat_eq q p ≡ true → old q ≡ was → now ≡ then) → (nat_eq q p ≡ false → now ≡ old q) → now ≡ cond (nat_eq q p) then (old q)
at_or_apart p q old was now then at here there =
    elim (eqb_tells q p) [
      | inl same ↦ here same.0 (ap old same.1 ∙ at) ∙ ap (λ b. cond b then (old q)) (sym same.0)
      | inr apart ↦ there apart.0 ∙ ap (λ b. cond b then (old q)) (sym apart.0)
    ]

taken_here : (s l : Bool) → l ≡ s → cond s false l ≡ false
taken_here true l is = refl
taken_here false l is = is

set_at : (b listed : Bool) (s l : Bool) → b ≡ true → cond (b && s) listed l ≡ cond s listed l
set_at b listed s l at = ap (λ x. cond (x && s) listed l) at

set_apart : (b listed : Bool) (s l : Bool) → b ≡ false → cond (b && s) listed l ≡ l
set_apart b listed s l apart = ap (λ x. cond (x && s) listed l) apart

pub taken : (old new : BTreeSet Place) (k : ConsumerKey) (p : ℕ) → IsSetTo false old k p new → IsListedAt old p (Some k) → IsRelisted old p None new
taken old new k p says at c q =
    at_or_apart p q (is_listed old c) (same_key k c) (is_listed new c q) false (at c)
    (λ t l. says c q ∙ set_at (nat_eq q p) false (same_key k c) (is_listed old c q) t ∙ taken_here (same_key k c) (is_listed old c q) l)
    (λ t. says c q ∙ set_apart (nat_eq q p) false (same_key k c) (is_listed old c q) t)

-- ---- what is listed, and the deliveries
held_cond : (c : ConsumerKey) (b : Bool) (x y : Option Delivery) (h : Option ConsumerKey) → (b ≡ true → holder_in x ≡ h) → cond b (is_held_by c h) (is_held_by c (holder_in y)) ≡ is_held_by c (holder_in (cond b x y))
held_cond c true x y h is = ap (is_held_by c) (sym (is refl))
held_cond c false x y h is = refl

pub relisted : (before after : BTreeMap ℕ Delivery) (old new : BTreeSet Place) (p : ℕ) (h : Option ConsumerKey) (x : ℕ → Option Delivery) → ((q : ℕ) → nat_eq q p ≡ true → holder_in (x q) ≡ h) → ((q : ℕ) → tree.get nat_cmp after q ≡ cond (nat_eq q p) (x q) (tree.get nat_cmp before q)) → IsRelisted old p h new → IsListing before old → IsListing after new
relisted before after old new p h x is says lists listing c q =
    lists c q
    ∙ ap (λ b. cond (nat_eq q p) (is_held_by c h) b) (listing c q)
    ∙ held_cond c (nat_eq q p) (x q) (tree.get nat_cmp before q) h (is q)
    ∙ ap (λ d. is_held_by c (holder_in d)) (sym (says q))

pub holder_released : (d : Option Delivery) → holder_in (option_map released d) ≡ None
holder_released None = refl
holder_released (Some d) = refl

-- ---- what a consumer gives back
pub held_is : (c : ConsumerKey) (h : Option ConsumerKey) → is_held_by c h ≡ true → (d : ConsumerKey) → is_held_by d h ≡ same_key c d
held_is c None is d = cc
held_is c (Some key) is d = grind (arith, nat_tests)

pub gave_one : (c : ConsumerKey) (b : Bool) (d : Option Delivery) → (b ≡ true → is_held_by c (holder_in d) ≡ true) → option_map (given_back c) (cond b (option_map released d) d) ≡ option_map (given_back c) d
gave_one c false d held = refl
gave_one c true None held = refl
gave_one c true (Some d) held = let freed : Bool → Option Delivery = λ b. Some (record { holder = cond b None d.holder; times = d.times }) in ap freed (sym (held refl))

pub gave_all : (c : ConsumerKey) (d : Option Delivery) → is_held_by c (holder_in d) ≡ false → d ≡ option_map (given_back c) d
gave_all c None free = refl
gave_all c (Some d) free = let freed : Bool → Option Delivery = λ b. Some (record { holder = cond b None d.holder; times = d.times }) in ap freed (sym free)

pub listed_alone : (deliveries : BTreeMap ℕ Delivery) (places : BTreeSet Place) (p : ℕ) (c : ConsumerKey) → is_listed places c p ≡ true → IsListing deliveries places → IsListedAt places p (Some c)
listed_alone deliveries places p c listed listing d = listing d p ∙ held_is c (holder_in (tree.get nat_cmp deliveries p)) (sym (listing c p) ∙ listed) d

-- ---- the first place that a search found
pub head_is : {X : Type 0} (P : X → Type 0) (r t : List X) (k : X) → r ≡ k ∷ t → IfSome (slice_get r 0) P → P k
head_is P r t k is h = subst (λ x. IfSome (slice_get x 0) P) is h

-- k is a place, and no place of the consumer's is below it
abbrev pub IsFirstPlace : BTreeSet Place → ConsumerKey → Place → Type 0
IsFirstPlace places c k = (q : Place) → (IsLeBy place_cmp (c.session, c.id, 0) q × Unit {0}) → IsTrue (contains place_cmp places q) → IsLeBy place_cmp k q

false_unless : (b : Bool) (X : Type 0) → (b ≡ true → X) → (X → ⊥) → b ≡ false
false_unless true X then not = absurd (not (then refl))
false_unless false X then not = refl

pub other_session : (places : BTreeSet Place) (c : ConsumerKey) (k : Place) → IsLeBy place_cmp (c.session, c.id, 0) k → IsFirstPlace places c k → (k.0 ≡ c.session → ⊥) → (i : ℕ) → is_listed places c i ≡ false
other_session places c k low least apart i =
    false_unless (is_listed places c i) (k.0 ≡ c.session)
    (λ listed. same_session c k i low (least (c.session, c.id, i) (from_start c i, tt) listed)) apart

pub other_id : (places : BTreeSet Place) (c : ConsumerKey) (k : Place) → IsLeBy place_cmp (c.session, c.id, 0) k → IsFirstPlace places c k → (k.1 ≡ c.id → ⊥) → (i : ℕ) → is_listed places c i ≡ false
other_id places c k low least apart i =
    false_unless (is_listed places c i) (k.1 ≡ c.id)
    (λ listed. same_id c k i low (least (c.session, c.id, i) (from_start c i, tt) listed)) apart

pub least_held : (places : BTreeSet Place) (c : ConsumerKey) (k : Place) → IsTrue (contains place_cmp places k) → IsFirstPlace places c k → k.0 ≡ c.session → k.1 ≡ c.id → IsLeast (λ i. is_listed places c i ≡ true) k.2
least_held places c k has least session id =
    let same : k ≡ (c.session, c.id, k.2) = λ i. (session i, id i, k.2) in (
      ap (contains place_cmp places) (sym same) ∙ has,
      λ j listed. in_order c k.2 j (subst (λ p. IsLeBy place_cmp p (c.session, c.id, j)) same (least (c.session, c.id, j) (from_start c j, tt) listed)),
    )

-- ---- one position that a consumer gives back
pub gave_listing : (before after : BTreeMap ℕ Delivery) (old new : BTreeSet Place) (c : ConsumerKey) (p : ℕ) → is_listed old c p ≡ true → ((q : ℕ) → tree.get nat_cmp after q ≡ cond (nat_eq q p) (option_map released (tree.get nat_cmp before q)) (tree.get nat_cmp before q)) → IsSetTo false old c p new → IsListing before old → IsListing after new
gave_listing before after old new c p listed says takes listing =
    relisted before after old new p None (λ q. option_map released (tree.get nat_cmp before q)) (λ q t. holder_released (tree.get nat_cmp before q)) says
    (taken old new c p takes (listed_alone before old p c listed listing)) listing

pub gave_step : (before after : BTreeMap ℕ Delivery) (old : BTreeSet Place) (c : ConsumerKey) (p : ℕ) → is_listed old c p ≡ true → ((q : ℕ) → tree.get nat_cmp after q ≡ cond (nat_eq q p) (option_map released (tree.get nat_cmp before q)) (tree.get nat_cmp before q)) → IsListing before old → (q : ℕ) → option_map (given_back c) (tree.get nat_cmp after q) ≡ option_map (given_back c) (tree.get nat_cmp before q)
gave_step before after old c p listed says listing q =
    ap (option_map (given_back c)) (says q)
    ∙ gave_one c (nat_eq q p) (tree.get nat_cmp before q) (λ t. sym (listing c q) ∙ ap (is_listed old c) (eqb-true q p t) ∙ listed)

-- ---- who holds the first of a consumer's places
holds_it : (c : ConsumerKey) (h : Option ConsumerKey) → is_held_by c h ≡ true → h ≡ Some c
holds_it c None is = cc
holds_it c (Some key) is =
    let session : key.session ≡ c.session = grind (arith, nat_tests) in
    let id : key.id ≡ c.id = grind (arith, nat_tests) in
    λ i. Some (record { session = session i; id = id i })

held_itself : (c : ConsumerKey) (h : Option ConsumerKey) → h ≡ Some c → is_held_by c h ≡ true
held_itself c h is = ap (is_held_by c) is ∙ (let same : same_key c c ≡ true = grind (arith, nat_tests) in same)

listed_held : (deliveries : BTreeMap ℕ Delivery) (places : BTreeSet Place) (c : ConsumerKey) (i : ℕ) → IsListing deliveries places → is_listed places c i ≡ true → holder (kept deliveries.entries) i ≡ Some c
listed_held deliveries places c i listing listed = ap holder_in (get_kept deliveries.entries i) ∙ holds_it c (holder_in (tree.get nat_cmp deliveries i)) (sym (listing c i) ∙ listed)

held_listed : (deliveries : BTreeMap ℕ Delivery) (places : BTreeSet Place) (c : ConsumerKey) (i : ℕ) → IsListing deliveries places → holder (kept deliveries.entries) i ≡ Some c → is_listed places c i ≡ true
held_listed deliveries places c i listing held = listing c i ∙ held_itself c (holder_in (tree.get nat_cmp deliveries i)) (ap holder_in (sym (get_kept deliveries.entries i)) ∙ held)

pub least_holder : (deliveries : BTreeMap ℕ Delivery) (places : BTreeSet Place) (c : ConsumerKey) (first : Option ℕ) → IsListing deliveries places → IfSome first (IsLeast (λ i. is_listed places c i ≡ true)) → IfSome first (IsLeast (λ i. holder (kept deliveries.entries) i ≡ Some c))
least_holder deliveries places c None listing least = tt
least_holder deliveries places c (Some p) listing least = (listed_held deliveries places c p listing least.0, λ j held. least.1 j (held_listed deliveries places c j listing held))

pub no_holder : (deliveries : BTreeMap ℕ Delivery) (places : BTreeSet Place) (c : ConsumerKey) (first : Option ℕ) → IsListing deliveries places → IfNone first ((i : ℕ) → is_listed places c i ≡ false) → IfNone first ((i : ℕ) → holder (kept deliveries.entries) i ≡ Some c → ⊥)
no_holder deliveries places c None listing free = λ i held. false≢true (sym (free i) ∙ held_listed deliveries places c i listing held)
no_holder deliveries places c (Some p) listing free = tt
