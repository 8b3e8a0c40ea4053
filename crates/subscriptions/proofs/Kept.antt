-- The names and sets of the subscriptions are what the changes make of the kept ones, after each step.
use Rattle.std.proofs.Common.{◌≡◌, ℕ, zero, suc, ◌+◌, Bool, false, true, nat_eq, cond, ◌||◌, List, [], ◌∷◌, ◌++◌, take, drop, ◌∙◌, ap, sym, refl, arith, Some, None, Option}
use Rattle.std.proofs.lemmas.Bool.{true≢false}
use Rattle.std.proofs.lemmas.Bool.Decides.{nat_tests}
use Rattle.std.proofs.lemmas.Slice.Eq.{bytes_eq-Decides}
use Rattle.std.proofs.lemmas.Map.Text.{is_eq-slice_cmp}
use Rattle.std.proofs.lemmas.Map.Keys.{IsDistinct-head, IsDistinct-tail}
use Rattle.std.specs.List.{find, AllByRecursion, IsDistinct}
use Rattle.std.specs.Option.{option_map}
use Rattle.std.specs.Cmp.Lexicographic.{nat_list_cmp_total}
use Rattle.std.specs.Str.{bytes_eq}
use Rattle.std.specs.FinSet as set
use Rattle.std.specs.FinMap as map
use Rattle.std.specs.Prelude.{map as each}
use Rattle.cursor.specs.Positions.{Positions, below, same_positions, has_insert}
use Rattle.records.specs.declared.record.Record.{Record}
use Rattle.records.specs.declared.record.Record.TheVariants.{Made, Removed, Acknowledged, AcknowledgedThrough}
use Rattle.records.specs.Maps.{Kept}
use Rattle.records.specs.Records.{after, after_all, changed_at, acknowledged}
use Rattle.subscriptions.specs.State.{Subscription, Subscriptions}
use Rattle.subscriptions.specs.Progress.{joined}
use Rattle.subscriptions.specs.Steps.{first_changed, first_removed, is_named, is_on, acked_on, acknowledgements, acked_through_on, acknowledgement_through, removal, attached_at, attached_to, made}
use Rattle.subscriptions.specs.Laws.{acked_as}
use Rattle.subscriptions.specs.declared.consumer.Mode.{Mode}
use Rattle.holds.specs.Deliveries.{Deliveries}
use Rattle.holds.specs.declared.consumer.ConsumerKey.{ConsumerKey}
use Rattle.holds.specs.declared.consumer.Consumer.{Consumer as Seat}
use Rattle.subscriptions.proofs.Settled.{is_in, has_joined, joined_none, forgotten, forgotten_below}
use Rattle.subscriptions.proofs.Places.{changed-none, removed-none, none_found}
use Rattle.permits.specs.Ends.{Word}

-- ---- names

pub same_name : (a b : List ℕ) → bytes_eq a b ≡ true → a ≡ b
same_name a b h = (bytes_eq-Decides a b).0 h

pub name_itself : (a : List ℕ) → bytes_eq a a ≡ true
name_itself a = (bytes_eq-Decides a a).1 refl

other_name : (a b : List ℕ) (c : Bool) → bytes_eq b a ≡ c → bytes_eq a b ≡ false → c ≡ false
other_name a b false is h = refl
other_name a b true is h = absurd (true≢false (sym ((bytes_eq-Decides a b).1 (sym (same_name b a is))) ∙ h))

turned_at : (a b : List ℕ) (c : Bool) → bytes_eq a b ≡ c → bytes_eq b a ≡ c
turned_at a b true h = (bytes_eq-Decides b a).1 (sym (same_name a b h))
turned_at a b false h = other_name a b (bytes_eq b a) refl h

pub turned : (a b : List ℕ) → bytes_eq a b ≡ bytes_eq b a
turned a b = sym (turned_at a b (bytes_eq a b) refl)

-- ---- maps

pub get_insert : (kept : Kept) (n : List ℕ) (s : Positions) (q : List ℕ) → map.get (map.insert kept n s) q ≡ cond (bytes_eq q n) (Some s) (map.get kept q)
get_insert kept n s q = map.get-insert nat_list_cmp_total kept n s q ∙ ap (λ b. cond b (Some s) (map.get kept q)) (is_eq-slice_cmp q n)

pub after_append : (cs ds : List Record) (kept : Kept) → after_all (cs ++ ds) kept ≡ after_all ds (after_all cs kept)
after_append [] ds kept = refl
after_append (c ∷ cs) ds kept = after_append cs ds (after c kept)

parts : {X : Type 0} (n : ℕ) (xs : List X) → take n xs ++ drop n xs ≡ xs
parts zero xs = refl
parts (suc n) [] = refl
parts (suc n) (x ∷ xs) = ap (λ ys. x ∷ ys) (parts n xs)

-- the first changes, and then the others
pub after_parts : (n : ℕ) (cs : List Record) (kept : Kept) → after_all (drop n cs) (after_all (take n cs) kept) ≡ after_all cs kept
after_parts n cs kept = sym (after_append (take n cs) (drop n cs) kept) ∙ ap (λ xs. after_all xs kept) (parts n cs)

twice : {X : Type 0} (b : Bool) (x y : X) (z : X) → cond b x (cond b y z) ≡ cond b x z
twice true x y z = refl
twice false x y z = refl

or_moved : (a b c : Bool) → ((a || b) || c) ≡ (b || (a || c))
or_moved true true c = refl
or_moved true false c = refl
or_moved false b c = refl

symmetric_eq : (p q : ℕ) → nat_eq p q ≡ nat_eq q p
symmetric_eq p q = grind (arith, nat_tests)

joined_first : (acked : Positions) (p : ℕ) (ps : List ℕ) → joined (set.insert acked p) ps ≡ joined acked (p ∷ ps)
joined_first acked p ps = same_positions _ _ (λ q.
    has_joined (set.insert acked p) ps q ∙ ap (λ b. b || is_in q ps) (has_insert acked p q)
    ∙ or_moved (nat_eq q p) (set.contains acked q) (is_in q ps)
    ∙ ap (λ b. set.contains acked q || (b || is_in q ps)) (symmetric_eq q p)
    ∙ sym (has_joined acked (p ∷ ps) q))

was_there : (kept : Kept) (n : List ℕ) (s : Positions) (q : List ℕ) (b : Bool) → bytes_eq q n ≡ b → map.get kept n ≡ Some s → map.get kept q ≡ cond b (Some s) (map.get kept q)
was_there kept n s q true is there = ap (map.get kept) (same_name q n is) ∙ there
was_there kept n s q false is there = refl

-- an acknowledgement of a subscription that is there
pub after_ack : (kept : Kept) (n : List ℕ) (p : ℕ) (s : Positions) → map.get kept n ≡ Some s → after (Acknowledged n p) kept ≡ map.insert kept n (set.insert s p)
after_ack kept n p s there = ap (λ o. changed_at o kept n (acknowledged (Acknowledged n p))) there

pub get_after_ack : (kept : Kept) (n : List ℕ) (p : ℕ) (s : Positions) (q : List ℕ) → map.get kept n ≡ Some s → map.get (after (Acknowledged n p) kept) q ≡ cond (bytes_eq q n) (Some (set.insert s p)) (map.get kept q)
get_after_ack kept n p s q there = ap (λ m. map.get m q) (after_ack kept n p s there) ∙ get_insert kept n (set.insert s p) q

pub there_after_ack : (kept : Kept) (n : List ℕ) (p : ℕ) (s : Positions) → map.get kept n ≡ Some s → map.get (after (Acknowledged n p) kept) n ≡ Some (set.insert s p)
there_after_ack kept n p s there = get_after_ack kept n p s n there ∙ ap (λ b. cond b (Some (set.insert s p)) (map.get kept n)) (name_itself n)

-- the acknowledgements of one subscription
pub after_acks : (n : List ℕ) (ps : List ℕ) (kept : Kept) (s : Positions) (q : List ℕ) → map.get kept n ≡ Some s
    → map.get (after_all (each (λ p. Acknowledged n p) ps) kept) q ≡ cond (bytes_eq q n) (Some (joined s ps)) (map.get kept q)
after_acks n [] kept s q there =
    was_there kept n s q (bytes_eq q n) refl there ∙ ap (λ x. cond (bytes_eq q n) (Some x) (map.get kept q)) (sym (joined_none s))
after_acks n (p ∷ ps) kept s q there =
    let next = after (Acknowledged n p) kept in
    after_acks n ps next (set.insert s p) q (there_after_ack kept n p s there)
    ∙ ap (λ x. cond (bytes_eq q n) (Some x) (map.get next q)) (joined_first s p ps)
    ∙ ap (λ x. cond (bytes_eq q n) (Some (joined s (p ∷ ps))) x) (get_after_ack kept n p s q there)
    ∙ twice (bytes_eq q n) (Some (joined s (p ∷ ps))) (Some (set.insert s p)) (map.get kept q)

-- ---- subscriptions

abbrev pub names : List Subscription → List (List ℕ)
names subs = each (λ (s : Subscription). s.name) subs

-- what changes neither the name nor the acknowledged positions
pub record Spares (f : Subscription → Subscription) : Type 0 where
  pub name : (s : Subscription) → (f s).name ≡ s.name
  pub acked : (s : Subscription) → (f s).acked ≡ s.acked

spared : (f : Subscription → Subscription) → Spares f → (q : List ℕ) (x : Subscription) (r r' : Option Subscription) → option_map (λ (s : Subscription). s.acked) r ≡ option_map (λ (s : Subscription). s.acked) r'
    → option_map (λ (s : Subscription). s.acked) (cond (is_named q (f x)) (Some (f x)) r) ≡ option_map (λ (s : Subscription). s.acked) (cond (is_named q x) (Some x) r')
spared f same q x r r' rest =
    ap (λ n. option_map (λ (s : Subscription). s.acked) (cond (bytes_eq n q) (Some (f x)) r)) (same.name x)
    ∙ elim (bytes_eq x.name q) as (λ b. option_map (λ (s : Subscription). s.acked) (cond b (Some (f x)) r) ≡ option_map (λ (s : Subscription). s.acked) (cond b (Some x) r')) [
      | true ↦ ap (λ p. Some p) (same.acked x)
      | false ↦ rest
    ]

pub acked_spared : (test : Subscription → Bool) (f : Subscription → Subscription) → Spares f → (q : List ℕ) (subs : List Subscription) → acked_as q (first_changed test f subs) ≡ acked_as q subs
acked_spared test f same q [] = refl
acked_spared test f same q (x ∷ xs) = elim (test x) as (λ b. acked_as q (cond b (f x ∷ xs) (x ∷ first_changed test f xs)) ≡ acked_as q (x ∷ xs)) [
  | true ↦ spared f same q x (find (is_named q) xs) (find (is_named q) xs) refl
  | false ↦ spared (λ s. s) (record { name = λ _. refl; acked = λ _. refl }) q x (find (is_named q) (first_changed test f xs)) (find (is_named q) xs) (acked_spared test f same q xs)
]

pub acked_each : (f : Subscription → Subscription) → Spares f → (q : List ℕ) (subs : List Subscription) → acked_as q (each (λ s. f s) subs) ≡ acked_as q subs
acked_each f same q [] = refl
acked_each f same q (x ∷ xs) = spared f same q x (find (is_named q) (each (λ s. f s) xs)) (find (is_named q) xs) (acked_each f same q xs)

-- a new subscription
pub acked_pushed : (q : List ℕ) (subs : List Subscription) (s : Subscription) → find (is_named s.name) subs ≡ None → acked_as q (subs ++ s ∷ []) ≡ cond (bytes_eq q s.name) (Some s.acked) (acked_as q subs)
acked_pushed q [] s none = ap (λ b. option_map (λ (x : Subscription). x.acked) (cond b (Some s) None)) (turned s.name q)
    ∙ elim (bytes_eq q s.name) as (λ b. option_map (λ (x : Subscription). x.acked) (cond b (Some s) None) ≡ cond b (Some s.acked) None) [ true ↦ refl | false ↦ refl ]
acked_pushed q (x ∷ xs) s none =
    elim (bytes_eq x.name s.name) as (λ b. bytes_eq x.name s.name ≡ b → cond b (Some x) (find (is_named s.name) xs) ≡ None → acked_as q ((x ∷ xs) ++ s ∷ []) ≡ cond (bytes_eq q s.name) (Some s.acked) (acked_as q (x ∷ xs))) [
      | true ↦ λ is none. absurd (cc)
      | false ↦ λ is none. elim (bytes_eq x.name q) as (λ b. bytes_eq x.name q ≡ b → option_map (λ (y : Subscription). y.acked) (cond b (Some x) (find (is_named q) (xs ++ s ∷ []))) ≡ cond (bytes_eq q s.name) (Some s.acked) (option_map (λ (y : Subscription). y.acked) (cond b (Some x) (find (is_named q) xs)))) [
        | true ↦ λ here. sym (ap (λ b. cond b (Some s.acked) (Some x.acked)) (ap (λ n. bytes_eq n s.name) (sym (same_name x.name q here)) ∙ is))
        | false ↦ λ here. acked_pushed q xs s none
      ] refl
    ] refl none

-- a name that differs from each of a list's differs from that of a subscription found there
found_apart : (n : List ℕ) (test : Subscription → Bool) (xs : List Subscription) (s : Subscription) → AllByRecursion (λ y. bytes_eq n y ≡ false) (names xs) → find test xs ≡ Some s → bytes_eq n s.name ≡ false
found_apart n test [] s apart is = absurd (cc)
found_apart n test (x ∷ xs) s apart is = elim (test x) as (λ b. cond b (Some x) (find test xs) ≡ Some s → bytes_eq n s.name ≡ false) [
  | true ↦ λ is. let same : x ≡ s = cc in ap (λ (y : Subscription). bytes_eq n y.name) (sym same) ∙ apart.0
  | false ↦ λ is. found_apart n test xs s apart.1 is
] is

-- what is found under another test is found by its name
pub acked_found : (test : Subscription → Bool) (xs : List Subscription) (s : Subscription) → IsDistinct bytes_eq (names xs) → find test xs ≡ Some s → acked_as s.name xs ≡ Some s.acked
acked_found test [] s d is = absurd (cc)
acked_found test (x ∷ xs) s d is = elim (test x) as (λ b. cond b (Some x) (find test xs) ≡ Some s → acked_as s.name (x ∷ xs) ≡ Some s.acked) [
  | true ↦ λ is. let same : x ≡ s = cc in
      ap (λ (y : Subscription). option_map (λ (z : Subscription). z.acked) (cond (bytes_eq x.name y.name) (Some x) (find (is_named y.name) xs))) (sym same)
      ∙ ap (λ b. option_map (λ (z : Subscription). z.acked) (cond b (Some x) (find (is_named x.name) xs))) (name_itself x.name)
      ∙ ap (λ (y : Subscription). Some y.acked) same
  | false ↦ λ is.
      ap (λ b. option_map (λ (z : Subscription). z.acked) (cond b (Some x) (find (is_named s.name) xs))) (found_apart x.name test xs s (IsDistinct-head bytes_eq x.name (names xs) d) is)
      ∙ acked_found test xs s (IsDistinct-tail bytes_eq x.name (names xs) d) is
] is

chosen : (b : Bool) (x y : Subscription) (r : Option Subscription) → option_map (λ (z : Subscription). z.acked) (cond b (Some x) r) ≡ cond b (Some x.acked) (option_map (λ (z : Subscription). z.acked) (cond b (Some y) r))
chosen true x y r = refl
chosen false x y r = refl

-- what acknowledges more and forgets deliveries
abbrev pub acked_by : (Positions → Positions) → (Deliveries → Deliveries) → Subscription → Subscription
acked_by more forget s = record s { acked = more s.acked; deliveries = forget s.deliveries }

-- the subscription that a consumer is on acknowledges positions
pub acked_changed : (test : Subscription → Bool) (more : Positions → Positions) (forget : Deliveries → Deliveries) (q : List ℕ) (xs : List Subscription) (s : Subscription) → IsDistinct bytes_eq (names xs) → find test xs ≡ Some s
    → acked_as q (first_changed test (acked_by more forget) xs) ≡ cond (bytes_eq q s.name) (Some (more s.acked)) (acked_as q xs)
acked_changed test more forget q [] s d is = absurd (cc)
acked_changed test more forget q (x ∷ xs) s d is = elim (test x) as (λ b. cond b (Some x) (find test xs) ≡ Some s → acked_as q (cond b (acked_by more forget x ∷ xs) (x ∷ first_changed test (acked_by more forget) xs)) ≡ cond (bytes_eq q s.name) (Some (more s.acked)) (acked_as q (x ∷ xs))) [
  | true ↦ λ is. let same : x ≡ s = cc in
      ap (λ b. option_map (λ (z : Subscription). z.acked) (cond b (Some (acked_by more forget x)) (find (is_named q) xs))) (turned x.name q)
      ∙ chosen (bytes_eq q x.name) (acked_by more forget x) x (find (is_named q) xs)
      ∙ ap (λ b. cond (bytes_eq q x.name) (Some (more x.acked)) (option_map (λ (z : Subscription). z.acked) (cond b (Some x) (find (is_named q) xs)))) (sym (turned x.name q))
      ∙ ap (λ (y : Subscription). cond (bytes_eq q y.name) (Some (more y.acked)) (acked_as q (x ∷ xs))) same
  | false ↦ λ is. elim (bytes_eq x.name q) as (λ b. bytes_eq x.name q ≡ b
      → option_map (λ (z : Subscription). z.acked) (cond b (Some x) (find (is_named q) (first_changed test (acked_by more forget) xs))) ≡ cond (bytes_eq q s.name) (Some (more s.acked)) (option_map (λ (z : Subscription). z.acked) (cond b (Some x) (find (is_named q) xs)))) [
        | true ↦ λ here. sym (ap (λ b. cond b (Some (more s.acked)) (Some x.acked))
            (ap (λ n. bytes_eq n s.name) (sym (same_name x.name q here)) ∙ found_apart x.name test xs s (IsDistinct-head bytes_eq x.name (names xs) d) is))
        | false ↦ λ here. acked_changed test more forget q xs s (IsDistinct-tail bytes_eq x.name (names xs) d) is
      ] refl
] is

-- a name that differs from each of a list's is not among them
none_named : (n : List ℕ) (xs : List Subscription) → AllByRecursion (λ y. bytes_eq n y ≡ false) (names xs) → acked_as n xs ≡ None
none_named n [] apart = refl
none_named n (x ∷ xs) apart =
    ap (λ b. option_map (λ (z : Subscription). z.acked) (cond b (Some x) (find (is_named n) xs))) (turned x.name n ∙ apart.0) ∙ none_named n xs apart.1

-- the first one goes
gone_here : (q : List ℕ) (x : Subscription) (xs : List Subscription) (b : Bool) → bytes_eq q x.name ≡ b → AllByRecursion (λ y. bytes_eq x.name y ≡ false) (names xs)
    → acked_as q xs ≡ cond b None (option_map (λ (z : Subscription). z.acked) (cond b (Some x) (find (is_named q) xs)))
gone_here q x xs true is apart = ap (λ n. acked_as n xs) (same_name q x.name is) ∙ none_named x.name xs apart
gone_here q x xs false is apart = refl

-- the subscription that a consumer is on goes
pub acked_removed : (test : Subscription → Bool) (q : List ℕ) (xs : List Subscription) (s : Subscription) → IsDistinct bytes_eq (names xs) → find test xs ≡ Some s
    → acked_as q (first_removed test xs) ≡ cond (bytes_eq q s.name) None (acked_as q xs)
acked_removed test q [] s d is = absurd (cc)
acked_removed test q (x ∷ xs) s d is = elim (test x) as (λ b. cond b (Some x) (find test xs) ≡ Some s → acked_as q (cond b xs (x ∷ first_removed test xs)) ≡ cond (bytes_eq q s.name) None (acked_as q (x ∷ xs))) [
  | true ↦ λ is. let same : x ≡ s = cc in
      gone_here q x xs (bytes_eq q x.name) refl (IsDistinct-head bytes_eq x.name (names xs) d)
      ∙ ap (λ b. cond (bytes_eq q x.name) None (option_map (λ (z : Subscription). z.acked) (cond b (Some x) (find (is_named q) xs)))) (sym (turned x.name q))
      ∙ ap (λ (y : Subscription). cond (bytes_eq q y.name) None (acked_as q (x ∷ xs))) same
  | false ↦ λ is. elim (bytes_eq x.name q) as (λ b. bytes_eq x.name q ≡ b
      → option_map (λ (z : Subscription). z.acked) (cond b (Some x) (find (is_named q) (first_removed test xs))) ≡ cond (bytes_eq q s.name) None (option_map (λ (z : Subscription). z.acked) (cond b (Some x) (find (is_named q) xs)))) [
        | true ↦ λ here. sym (ap (λ b. cond b None (Some x.acked))
            (ap (λ n. bytes_eq n s.name) (sym (same_name x.name q here)) ∙ found_apart x.name test xs s (IsDistinct-head bytes_eq x.name (names xs) d) is))
        | false ↦ λ here. acked_removed test q xs s (IsDistinct-tail bytes_eq x.name (names xs) d) is
      ] refl
] is

-- ---- the names and sets after a SUBSCRIBE and an ACK

abbrev pub AreSame : Kept → Subscriptions → Type 0
AreSame kept t = (name : List ℕ) → map.get (after_all t.changes kept) name ≡ acked_as name t.subs

pub attached_same : (kept : Kept) (t : Subscriptions) (name : List ℕ) (mode : Mode) (seat : Seat) (word : Word) (start : ℕ) (o : Option Subscription) → find (is_named name) t.subs ≡ o
    → AreSame kept t → AreSame kept (attached_at o t name mode seat word start)
attached_same kept t name mode seat word start None none is q =
    ap (λ m. map.get m q) (after_append t.changes (Made name start ∷ []) kept)
    ∙ get_insert (after_all t.changes kept) name (below start) q
    ∙ ap (λ x. cond (bytes_eq q name) (Some (below start)) x) (is q)
    ∙ sym (acked_pushed q t.subs (attached_to mode seat word (made name mode start)) none)
attached_same kept t name mode seat word start (Some s) found is q =
    is q ∙ sym (acked_spared (is_named name) (attached_to mode seat word) (record { name = λ _. refl; acked = λ _. refl }) q t.subs)

pub acknowledged_same : (kept : Kept) (t : Subscriptions) (key : ConsumerKey) (ps : List ℕ) (o : Option Subscription) → find (is_on key) t.subs ≡ o → IsDistinct bytes_eq (names t.subs)
    → AreSame kept t → (q : List ℕ) → map.get (after_all (t.changes ++ acknowledgements o ps) kept) q ≡ acked_as q (first_changed (is_on key) (acked_on ps) t.subs)
acknowledged_same kept t key ps None none d is q =
    ap (λ m. map.get m q) (after_append t.changes [] kept) ∙ is q
    ∙ sym (ap (acked_as q) (changed-none (is_on key) (acked_on ps) t.subs (none_found (is_on key) t.subs none)))
acknowledged_same kept t key ps (Some s) found d is q =
    ap (λ m. map.get m q) (after_append t.changes (each (λ p. Acknowledged s.name p) ps) kept)
    ∙ after_acks s.name ps (after_all t.changes kept) s.acked q (is s.name ∙ acked_found (is_on key) t.subs s d found)
    ∙ ap (λ x. cond (bytes_eq q s.name) (Some (joined s.acked ps)) x) (is q)
    ∙ sym (acked_changed (is_on key) (λ a. joined a ps) (λ d. forgotten d ps) q t.subs s d found)

-- one acknowledgement of all up to a position
pub after_through : (kept : Kept) (n : List ℕ) (p : ℕ) (s : Positions) → map.get kept n ≡ Some s → after (AcknowledgedThrough n p) kept ≡ map.insert kept n (set.union s (below (p + 1)))
after_through kept n p s there = ap (λ o. changed_at o kept n (acknowledged (AcknowledgedThrough n p))) there

pub through_same : (kept : Kept) (t : Subscriptions) (key : ConsumerKey) (p : ℕ) (o : Option Subscription) → find (is_on key) t.subs ≡ o → IsDistinct bytes_eq (names t.subs)
    → AreSame kept t → (q : List ℕ) → map.get (after_all (t.changes ++ acknowledgement_through o p) kept) q ≡ acked_as q (first_changed (is_on key) (acked_through_on p) t.subs)
through_same kept t key p None none d is q =
    ap (λ m. map.get m q) (after_append t.changes [] kept) ∙ is q
    ∙ sym (ap (acked_as q) (changed-none (is_on key) (acked_through_on p) t.subs (none_found (is_on key) t.subs none)))
through_same kept t key p (Some s) found d is q =
    ap (λ m. map.get m q) (after_append t.changes (AcknowledgedThrough s.name p ∷ []) kept ∙ after_through (after_all t.changes kept) s.name p s.acked (is s.name ∙ acked_found (is_on key) t.subs s d found))
    ∙ get_insert (after_all t.changes kept) s.name (set.union s.acked (below (p + 1))) q
    ∙ ap (λ x. cond (bytes_eq q s.name) (Some (set.union s.acked (below (p + 1)))) x) (is q)
    ∙ sym (acked_changed (is_on key) (λ a. set.union a (below (p + 1))) (λ d. forgotten_below d (p + 1)) q t.subs s d found)

pub get_remove : (kept : Kept) (n q : List ℕ) → map.get (map.remove kept n) q ≡ cond (bytes_eq q n) None (map.get kept q)
get_remove kept n q = map.get-remove nat_list_cmp_total kept n q ∙ ap (λ b. cond b None (map.get kept q)) (is_eq-slice_cmp q n)

pub removed_same : (kept : Kept) (t : Subscriptions) (key : ConsumerKey) (o : Option Subscription) → find (is_on key) t.subs ≡ o → IsDistinct bytes_eq (names t.subs)
    → AreSame kept t → (q : List ℕ) → map.get (after_all (t.changes ++ removal o) kept) q ≡ acked_as q (first_removed (is_on key) t.subs)
removed_same kept t key None none d is q =
    ap (λ m. map.get m q) (after_append t.changes [] kept) ∙ is q
    ∙ sym (ap (acked_as q) (removed-none (is_on key) t.subs (none_found (is_on key) t.subs none)))
removed_same kept t key (Some s) found d is q =
    ap (λ m. map.get m q) (after_append t.changes (Removed s.name ∷ []) kept)
    ∙ get_remove (after_all t.changes kept) s.name q
    ∙ ap (λ x. cond (bytes_eq q s.name) None x) (is q)
    ∙ sym (acked_removed (is_on key) q t.subs s d found)
