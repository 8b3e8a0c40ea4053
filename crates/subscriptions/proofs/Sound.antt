-- Each step keeps a subscription sound.
use Rattle.std.proofs.Common.{◌≡◌, ℕ, suc, ◌+◌, ◌≤◌, ◌^◌, Bool, false, true, not, nat_lt, nat_le, nat_eq, cond, ◌||◌, ◌&&◌, List, [], ◌∷◌, ◌++◌, length, filter, ◌∙◌, ap, sym, refl, arith, Some, None, Option, length-append}
use Rattle.std.proofs.lemmas.Bool.{true≢false, ltb-false}
use Rattle.std.proofs.lemmas.Bool.Decides.{nat_tests}
use Rattle.std.proofs.lemmas.List.Kept.{AllPairs-filter}
use Rattle.std.specs.List.{list_any, find, AllByRecursion}
use Rattle.std.specs.Option.{option_map, IsSomeAnd}
use Rattle.std.specs.Ordering.{nat_cmp}
use Rattle.std.specs.Cmp.{nat_cmp_total}
use Rattle.std.specs.FinMap as map
use Rattle.std.specs.Prelude.{map as each}
use Rattle.cursor.specs.Positions.{Positions, below}
use Rattle.holds.specs.Backlog.{IsOpenAt, attached}
use Rattle.holds.specs.Deliveries.{Deliveries, holder_in, same_key, sent_to, is_held_by, given_back}
use Rattle.holds.specs.declared.consumer.ConsumerKey.{ConsumerKey}
use Rattle.holds.specs.declared.consumer.Consumer.{Consumer as Seat}
use Rattle.holds.specs.declared.delivery.Delivery.{Delivery}
use Rattle.holds.proofs.Kept.{get_inserted, get_mapped, same_entries}
use Rattle.key_shared.specs.Ranges.{AreApart as AreRangesApart, AreDisjoint, are_refused, sticky_refusal}
use Rattle.key_shared.proofs.Apart.{pushed}
use Rattle.subscriptions.specs.declared.consumer.Mode.{Mode}
use Rattle.subscriptions.specs.declared.consumer.Mode.TheVariants.{Exclusive, Failover, Shared, KeyShared}
use Rattle.subscriptions.specs.State.{Consumer}
use Rattle.subscriptions.specs.declared.consumer.Refusal.{Refusal}
use Rattle.subscriptions.specs.declared.consumer.Refusal.TheVariants.{ConsumerAssignError}
use Rattle.holds.specs.declared.consumer.Refusal.TheVariants.{TooManyConsumers, ConsumerAssignError as RangesRefused}
use Rattle.subscriptions.specs.State.{Subscription}
use Rattle.subscriptions.specs.Freeing.{is_among, freed_among}
use Rattle.subscriptions.specs.Dispatching.{keys}
use Rattle.subscriptions.specs.Steps.{first_changed, first_standing, is_consumer, is_on, has_some, is_exclusive, same_mode, refuses_ranges, attach_refusals, attached_to, made, opened_one, granted_to, granted_on, is_past, learnt_to, learnt_on, acked_on, acked_through_on, has_permit, IsLeastIn, AdmitsBy, sent_more, sent_on, is_of, freed, freed_by, left_on, detached_on, is_asked_back, redelivered_on}
use Rattle.subscriptions.specs.Soundness.{IsWithinPermits, IsSoundSubscription}
use Rattle.subscriptions.proofs.Counts.{sends_within}
use Rattle.subscriptions.proofs.Lists.{keys_pushed, keys_kept, keys_changed, keys_length}
use Rattle.subscriptions.proofs.Each.{get_each, apart_changed}
use Rattle.subscriptions.proofs.Settled.{is_in, get_forgotten, get_forgotten_below, apart_acked, apart_through, apart_empty, apart_sent, given_back_apart}
use Rattle.permits.specs.Ends.{Seen, Word}

-- ---- lists

module _ {X : Type 0} (test : X → Bool) (f : X → X) where
  pub length_changed : (xs : List X) → length (first_changed test f xs) ≡ length xs
  length_changed [] = refl
  length_changed (x ∷ xs) = elim (test x) as (λ b. length (cond b (f x ∷ xs) (x ∷ first_changed test f xs)) ≡ length (x ∷ xs)) [
    | true ↦ refl
    | false ↦ omega (arith, length_changed xs)
  ]

  pub any_changed : (q : X → Bool) → ((x : X) → q (f x) ≡ q x) → (xs : List X) → list_any q (first_changed test f xs) ≡ list_any q xs
  any_changed q same [] = refl
  any_changed q same (x ∷ xs) = elim (test x) as (λ b. list_any q (cond b (f x ∷ xs) (x ∷ first_changed test f xs)) ≡ list_any q (x ∷ xs)) [
    | true ↦ ap (λ b. b || list_any q xs) (same x)
    | false ↦ ap (λ b. q x || b) (any_changed q same xs)
  ]

  pub all_changed : (P : X → Type 0) (xs : List X) → ((x : X) → find test xs ≡ Some x → P x → P (f x)) → AllByRecursion P xs → AllByRecursion P (first_changed test f xs)
  all_changed P [] to all = tt
  all_changed P (x ∷ xs) to all =
      elim (test x) as (λ b. ((y : X) → cond b (Some x) (find test xs) ≡ Some y → P y → P (f y)) → AllByRecursion P (cond b (f x ∷ xs) (x ∷ first_changed test f xs))) [
        | true ↦ λ to. (to x refl all.0, all.1)
        | false ↦ λ to. (all.0, all_changed P xs to all.1)
      ] to

module _ {X : Type 0} where
  pub all_pushed : (P : X → Type 0) (xs : List X) (y : X) → AllByRecursion P xs → P y → AllByRecursion P (xs ++ y ∷ [])
  all_pushed P [] y all p = (p, tt)
  all_pushed P (x ∷ xs) y all p = (all.0, all_pushed P xs y all.1 p)

  pub all_kept : (P : X → Type 0) (keep : X → Bool) (xs : List X) → AllByRecursion P xs → AllByRecursion P (filter keep xs)
  all_kept P keep [] all = tt
  all_kept P keep (x ∷ xs) all = elim (keep x) as (λ b. AllByRecursion P (cond b (x ∷ filter keep xs) (filter keep xs))) [
    | true ↦ (all.0, all_kept P keep xs all.1)
    | false ↦ all_kept P keep xs all.1
  ]

  pub length_kept : (keep : X → Bool) (xs : List X) → length (filter keep xs) ≤ length xs
  length_kept keep [] = omega arith
  length_kept keep (x ∷ xs) = elim (keep x) as (λ b. length (cond b (x ∷ filter keep xs) (filter keep xs)) ≤ length (x ∷ xs)) [
    | true ↦ omega (arith, length_kept keep xs)
    | false ↦ omega (arith, length_kept keep xs)
  ]

  pub any_more : (q : X → Bool) (xs ys : List X) → list_any q xs ≡ true → list_any q (xs ++ ys) ≡ true
  any_more q [] ys h = absurd (true≢false (sym h))
  any_more q (x ∷ xs) ys h = elim (q x) as (λ b. (b || list_any q xs) ≡ true → (b || list_any q (xs ++ ys)) ≡ true) [
    | true ↦ λ h. refl
    | false ↦ λ h. any_more q xs ys h
  ] h

  pub any_kept : (q keep : X → Bool) → ((x : X) → q x ≡ true → keep x ≡ true) → (xs : List X) → list_any q xs ≡ true → list_any q (filter keep xs) ≡ true
  any_kept q keep to [] h = h
  any_kept q keep to (x ∷ xs) h =
      elim (q x) as (λ b. q x ≡ b → (b || list_any q xs) ≡ true → list_any q (cond (keep x) (x ∷ filter keep xs) (filter keep xs)) ≡ true) [
        | true ↦ λ here h. ap (λ b. list_any q (cond b (x ∷ filter keep xs) (filter keep xs))) (to x here) ∙ ap (λ b. b || list_any q (filter keep xs)) here
        | false ↦ λ here h. elim (keep x) as (λ b. list_any q (cond b (x ∷ filter keep xs) (filter keep xs)) ≡ true) [
          | true ↦ ap (λ b. b || list_any q (filter keep xs)) here ∙ any_kept q keep to xs h
          | false ↦ any_kept q keep to xs h
        ]
      ] refl h

  pub any_found : (q : X → Bool) (xs : List X) (x : X) → find q xs ≡ Some x → list_any q xs ≡ true
  any_found q [] x h = absurd (cc)
  any_found q (y ∷ xs) x h = elim (q y) as (λ b. cond b (Some y) (find q xs) ≡ Some x → (b || list_any q xs) ≡ true) [
    | true ↦ λ h. refl
    | false ↦ λ h. any_found q xs x h
  ] h

-- ---- the seats of a subscription

abbrev pub seat_keys : List Seat → List ConsumerKey
seat_keys seats = each (λ (seat : Seat). seat.key) seats

none_apart : AreRangesApart []
none_apart i j d low within = absurd (omega arith)

pub as_many : (seats : List Seat) (cs : List Consumer) → seat_keys seats ≡ keys cs → length seats ≡ length cs
as_many seats cs seated =
    sym (keys_length (λ (seat : Seat). seat.key) seats) ∙ ap (λ (ks : List ConsumerKey). length ks) seated ∙ keys_length (λ (c : Consumer). c.key) cs

pub seated_one_more : (seats : List Seat) (cs : List Consumer) (seat : Seat) (c : Consumer) → seat.key ≡ c.key → seat_keys seats ≡ keys cs → seat_keys (seats ++ seat ∷ []) ≡ keys (cs ++ c ∷ [])
seated_one_more seats cs seat c same seated =
    keys_pushed (λ (seat : Seat). seat.key) seats seat
    ∙ ap (λ ks. ks ++ seat.key ∷ []) seated ∙ ap (λ k. keys cs ++ k ∷ []) same
    ∙ sym (keys_pushed (λ (c : Consumer). c.key) cs c)

pub seated_kept : (keep : ConsumerKey → Bool) (seats : List Seat) (cs : List Consumer) → seat_keys seats ≡ keys cs
    → seat_keys (filter (λ seat. keep seat.key) seats) ≡ keys (filter (λ c. keep c.key) cs)
seated_kept keep seats cs seated =
    keys_kept (λ (seat : Seat). seat.key) keep seats ∙ ap (filter keep) seated ∙ sym (keys_kept (λ (c : Consumer). c.key) keep cs)

pub seated_changed : (test : Consumer → Bool) (f : Consumer → Consumer) → ((c : Consumer) → (f c).key ≡ c.key) → (seats : List Seat) (cs : List Consumer) → seat_keys seats ≡ keys cs
    → seat_keys seats ≡ keys (first_changed test f cs)
seated_changed test f same seats cs seated = seated ∙ sym (keys_changed (λ (c : Consumer). c.key) test f same cs)

-- ---- a subscription

none_held : (key : ConsumerKey) → holder_in None ≡ Some key → ⊥
none_held key h = cc

pub sound_made : (name : List ℕ) (mode : Mode) (start : ℕ) → IsSoundSubscription (made name mode start)
sound_made name mode start = record {
  few = omega arith;
  single = λ _. omega arith;
  permits = tt;
  seated = refl;
  ranges_apart = λ _. none_apart;
  unacknowledged = apart_empty (below start);
  held = λ i key h. absurd (none_held key (sym (ap holder_in (map.get-empty {X = Delivery} nat_cmp i)) ∙ h));
}

pub sound_opened : (name : List ℕ) (acked : Positions) → IsSoundSubscription (opened_one (name, acked))
sound_opened name acked = record {
  few = omega arith;
  single = λ _. omega arith;
  permits = tt;
  seated = refl;
  ranges_apart = λ _. none_apart;
  unacknowledged = apart_empty acked;
  held = λ i key h. absurd (none_held key (sym (ap holder_in (map.get-empty {X = Delivery} nat_cmp i)) ∙ h));
}

-- the rows of a table of which none stands
pub three_rows : (a b c : Bool) (x y z : Refusal) → cond a (Some x) (cond b (Some y) (cond c (Some z) None)) ≡ None → (a ≡ false) × (b ≡ false) × (c ≡ false)
three_rows true b c x y z h = absurd (cc)
three_rows false true c x y z h = absurd (cc)
three_rows false false true x y z h = absurd (cc)
three_rows false false false x y z h = (refl, refl, refl)

pub four_rows : (a b c d : Bool) (w x y z : Refusal) → cond a (Some w) (cond b (Some x) (cond c (Some y) (cond d (Some z) None))) ≡ None → (a ≡ false) × (b ≡ false) × (c ≡ false) × (d ≡ false)
four_rows true b c d w x y z h = absurd (cc)
four_rows false b c d w x y z h = let rest = three_rows b c d x y z h in (refl, rest.0, rest.1, rest.2)

no_more : (n : ℕ) → (nat_lt 0 n && true) ≡ false → n + 1 ≤ 1
no_more n h = grind (arith, nat_tests)

alone : {X : Type 0} (mode : Mode) (xs : List X) → (has_some xs && is_exclusive mode) ≡ false → mode ≡ Exclusive → length xs + 1 ≤ 1
alone mode xs h is = no_more (length xs) (sym (ap (λ m. nat_lt 0 (length xs) && is_exclusive m) is) ∙ h)

below_limit : (n : ℕ) → nat_le 64 n ≡ false → n + 1 ≤ 64
below_limit n h = grind (arith, nat_tests)

has_room : (n m : ℕ) → m ≡ n → nat_le 64 n ≡ false → nat_lt m 64 ≡ true
has_room n m same h = grind (arith, nat_tests)

taken_in : (seats : List Seat) (seat : Seat) → nat_lt (length seats) 64 ≡ true → are_refused seats seat.ranges ≡ false → sticky_refusal seats seat ≡ None
taken_in seats seat room fit =
    ap (λ b. cond b (cond (are_refused seats seat.ranges) (Some RangesRefused) None) (Some TooManyConsumers)) room
    ∙ ap (λ b. cond b (Some RangesRefused) None) fit

key_shared_too : (mode : Mode) → same_mode mode KeyShared ≡ true → mode ≡ KeyShared
key_shared_too Exclusive h = absurd (true≢false (sym h))
key_shared_too Failover h = absurd (true≢false (sym h))
key_shared_too Shared h = absurd (true≢false (sym h))
key_shared_too KeyShared h = refl

none_or_same : (b : Bool) → (true && not b) ≡ false → b ≡ true
none_or_same true h = refl
none_or_same false h = absurd (true≢false h)

above_none : (n : ℕ) → nat_lt 0 (suc n) ≡ true
above_none n = grind (arith, nat_tests)

no_seats : (seats : List Seat) → length seats ≡ 0 → AreRangesApart seats
no_seats [] none = none_apart
no_seats (seat ∷ seats) none = absurd (omega (arith, none))

-- where the further consumer is of Key_Shared, those that are attached are, too
apart_before : (s : Subscription) (cs : List Consumer) → s.consumers ≡ cs → (has_some cs && not (same_mode s.mode KeyShared)) ≡ false → IsSoundSubscription s → AreRangesApart s.seats
apart_before s [] is row sound = no_seats s.seats (as_many s.seats s.consumers sound.seated ∙ ap (λ (cs : List Consumer). length cs) is)
apart_before s (c ∷ cs) is row sound = sound.ranges_apart (key_shared_too s.mode (none_or_same (same_mode s.mode KeyShared) (ap (λ b. b && not (same_mode s.mode KeyShared)) (sym (above_none (length cs))) ∙ row)))

ranges_pushed : (mode : Mode) (seat : Seat) (word : Word) (s : Subscription) → (has_some s.consumers && not (same_mode s.mode mode)) ≡ false → nat_le 64 (length s.consumers) ≡ false → refuses_ranges mode s.seats seat.ranges ≡ false
    → IsSoundSubscription s → mode ≡ KeyShared → AreRangesApart (s.seats ++ seat ∷ [])
ranges_pushed mode seat word s same few fit sound is =
    pushed s.seats seat
    (apart_before s s.consumers refl (sym (ap (λ m. has_some s.consumers && not (same_mode s.mode m)) is) ∙ same) sound)
    (taken_in s.seats seat (has_room (length s.consumers) (length s.seats) (as_many s.seats s.consumers sound.seated) few) (sym (ap (λ m. refuses_ranges m s.seats seat.ranges) is) ∙ fit))

pub sound_attached : (mode : Mode) (seat : Seat) (word : Word) (s : Subscription) → first_standing (attach_refusals mode seat.ranges s) ≡ None → IsSoundSubscription s → IsSoundSubscription (attached_to mode seat word s)
sound_attached mode seat word s allowed sound =
    let rows = four_rows (has_some s.consumers && not (same_mode s.mode mode)) (has_some s.consumers && is_exclusive mode) (nat_le 64 (length s.consumers)) (refuses_ranges mode s.seats seat.ranges) _ _ _ _ allowed in record {
      few = rw length-append (below_limit (length s.consumers) rows.2);
      single = λ is. rw length-append (alone mode s.consumers rows.1 is);
      permits = all_pushed IsWithinPermits s.consumers _ sound.permits (record { sent = omega arith; granted = omega arith });
      seated = seated_one_more s.seats s.consumers seat _ refl sound.seated;
      ranges_apart = ranges_pushed mode seat word s rows.0 rows.2 rows.3 sound;
      unacknowledged = sound.unacknowledged;
      held = λ i k h. any_more (is_consumer k) s.consumers _ (sound.held i k h);
    }

-- a new subscription with its first consumer
pub sound_first : (name : List ℕ) (mode : Mode) (seat : Seat) (word : Word) (start : ℕ) → refuses_ranges mode [] seat.ranges ≡ false → IsSoundSubscription (attached_to mode seat word (made name mode start))
sound_first name mode seat word start fit =
    sound_attached mode seat word (made name mode start) (ap (λ b. cond b (Some ConsumerAssignError) None) fit) (sound_made name mode start)

pub sound_granted : (key : ConsumerKey) (n : ℕ) (s : Subscription) → is_past n (find (is_consumer key) s.consumers) ≡ false → IsSoundSubscription s → IsSoundSubscription (granted_on key n s)
sound_granted key n s within sound = record {
  few = rw length_changed sound.few;
  single = λ is. rw length_changed (sound.single is);
  permits = all_changed (is_consumer key) (granted_to n) IsWithinPermits s.consumers
      (λ c found p. record { sent = omega (arith, p.sent); granted = ltb-false (2 ^ 62) (c.granted + n) (ap (is_past n) (sym found) ∙ within) })
      sound.permits;
  seated = seated_changed (is_consumer key) (granted_to n) (λ _. refl) s.seats s.consumers sound.seated;
  ranges_apart = sound.ranges_apart;
  unacknowledged = sound.unacknowledged;
  held = λ i k h. any_changed (is_consumer key) (granted_to n) (is_consumer k) (λ _. refl) s.consumers ∙ sound.held i k h;
}

pub sound_learnt : (key : ConsumerKey) (n : Seen) (s : Subscription) → n.granted ≤ 2 ^ 62 → IsSoundSubscription s → IsSoundSubscription (learnt_on key n s)
sound_learnt key n s within sound = record {
  few = rw length_changed sound.few;
  single = λ is. rw length_changed (sound.single is);
  permits = all_changed (is_consumer key) (learnt_to n) IsWithinPermits s.consumers
      (λ c found p. record { sent = omega (arith, p.sent); granted = omega (arith, p.granted, within) })
      sound.permits;
  seated = seated_changed (is_consumer key) (learnt_to n) (λ _. refl) s.seats s.consumers sound.seated;
  ranges_apart = sound.ranges_apart;
  unacknowledged = sound.unacknowledged;
  held = λ i k h. any_changed (is_consumer key) (learnt_to n) (is_consumer k) (λ _. refl) s.consumers ∙ sound.held i k h;
}

kept_holder : (b : Bool) (x : Option Delivery) (k : ConsumerKey) → holder_in (cond b None x) ≡ Some k → holder_in x ≡ Some k
kept_holder true x k h = absurd (none_held k h)
kept_holder false x k h = h

pub sound_acked : (ps : List ℕ) (s : Subscription) → IsSoundSubscription s → IsSoundSubscription (acked_on ps s)
sound_acked ps s sound = record {
  few = sound.few;
  single = sound.single;
  permits = sound.permits;
  seated = sound.seated;
  ranges_apart = sound.ranges_apart;
  unacknowledged = apart_acked s.acked s.deliveries ps sound.unacknowledged;
  held = λ i k h. sound.held i k (kept_holder (is_in i ps) (map.get s.deliveries i) k (ap holder_in (sym (get_forgotten s.deliveries ps i)) ∙ h));
}

pub sound_acked_through : (position : ℕ) (s : Subscription) → IsSoundSubscription s → IsSoundSubscription (acked_through_on position s)
sound_acked_through position s sound = record {
  few = sound.few;
  single = sound.single;
  permits = sound.permits;
  seated = sound.seated;
  ranges_apart = sound.ranges_apart;
  unacknowledged = apart_through s.acked s.deliveries (position + 1) sound.unacknowledged;
  held = λ i k h. sound.held i k (kept_holder (nat_lt i (position + 1)) (map.get s.deliveries i) k (ap holder_in (sym (get_forgotten_below s.deliveries (position + 1) i)) ∙ h));
}

pub permit_of : (c : Consumer) → has_permit (Some c) ≡ true → c.sent + 1 ≤ c.granted
permit_of c h = grind (arith, nat_tests)

seat_of : (key : ConsumerKey) (s : Subscription) (o : Option Consumer) → find (is_consumer key) s.consumers ≡ o → has_permit o ≡ true → is_on key s ≡ true
seat_of key s None is h = absurd (true≢false (sym h))
seat_of key s (Some c) is h = any_found (is_consumer key) s.consumers c is

-- the consumer is attached
pub on_of : (key : ConsumerKey) (s : Subscription) → has_permit (find (is_consumer key) s.consumers) ≡ true → is_on key s ≡ true
on_of key s h = seat_of key s (find (is_consumer key) s.consumers) refl h

sent_holder : (b : Bool) (key : ConsumerKey) (before x : Option Delivery) (k : ConsumerKey) (s : Subscription) → is_on key s ≡ true → (holder_in x ≡ Some k → is_on k s ≡ true)
    → holder_in (cond b (Some (sent_to key before)) x) ≡ Some k → is_on k s ≡ true
sent_holder true key before x k s on to h = let same : key ≡ k = cc in ap (λ j. is_on j s) (sym same) ∙ on
sent_holder false key before x k s on to h = to h

-- what a mode lets a consumer get is open
pub opens_of : (mode : Mode) (key : ConsumerKey) (s : Subscription) (slots : List ℕ) (Opens : ℕ → Type 0) (i : ℕ) → AdmitsBy mode key s slots Opens i → Opens i
opens_of Exclusive key s slots Opens i a = a.0
opens_of Failover key s slots Opens i a = a.1.0
opens_of Shared key s slots Opens i a = a
opens_of KeyShared key s slots Opens i a = opens_in (attached key s.seats) a
  where
    opens_in : (o : Option Seat) → IsSomeAnd o (λ seat. IsLeastIn seat.ranges slots Opens i) → Opens i
    opens_in None h = absurd h
    opens_in (Some seat) h = h.0.0

pub sound_sent : (key : ConsumerKey) (committed n i : ℕ) (s : Subscription) → n ≤ 1048576 → has_permit (find (is_consumer key) s.consumers) ≡ true → IsOpenAt committed s.acked s.deliveries i → IsSoundSubscription s → IsSoundSubscription (sent_on key n i s)
sound_sent key committed n i s few permit at sound = record {
  few = rw length_changed sound.few;
  single = λ is. rw length_changed (sound.single is);
  permits = all_changed (is_consumer key) (sent_more n) IsWithinPermits s.consumers
      (λ c found p. record { sent = sends_within c.sent c.granted n few (permit_of c (ap has_permit (sym found) ∙ permit)); granted = p.granted })
      sound.permits;
  seated = seated_changed (is_consumer key) (sent_more n) (λ _. refl) s.seats s.consumers sound.seated;
  ranges_apart = sound.ranges_apart;
  unacknowledged = apart_sent s.acked s.deliveries i (sent_to key (map.get s.deliveries i)) at.is_unacked sound.unacknowledged;
  held = λ j k h. any_changed (is_consumer key) (sent_more n) (is_consumer k) (λ _. refl) s.consumers
      ∙ sent_holder (nat_eq j i) key (map.get s.deliveries i) (map.get s.deliveries j) k s (on_of key s permit) (sound.held j k)
      (ap holder_in (sym (get_inserted s.deliveries i (sent_to key (map.get s.deliveries i)) j)) ∙ h);
}

-- ---- a session leaves

pub get_freed : (who : ℕ) (d : Deliveries) (q : ℕ) → map.get (freed_by who d) q ≡ option_map (freed who) (map.get d q)
get_freed who d q =
    get_mapped (freed who) (map.entries d) (each (λ e. (e.0, freed who e.1)) (map.entries d)) refl q
    ∙ ap (option_map (freed who)) (map.get-from_entries nat_cmp_total (map.entries d) q ∙ sym (map.get-entries d q))

freed_holder : (b : Bool) (h : Option ConsumerKey) (k : ConsumerKey) → cond b None h ≡ Some k → (b ≡ false) × (h ≡ Some k)
freed_holder true h k e = absurd (cc)
freed_holder false h k e = (refl, e)

still_held : (who : ℕ) (x : Option Delivery) (k : ConsumerKey) → holder_in (option_map (freed who) x) ≡ Some k → (holder_in x ≡ Some k) × (nat_eq k.session who ≡ false)
still_held who None k h = absurd (none_held k h)
still_held who (Some d) k h =
    let parts = freed_holder (is_of who d.holder) d.holder k h in (parts.1, sym (ap (is_of who) parts.1) ∙ parts.0)

stays : (who : ℕ) (a k : ConsumerKey) → nat_eq k.session who ≡ false → same_key a k ≡ true → not (nat_eq a.session who) ≡ true
stays who a k other same = grind (arith, nat_tests)

pub sound_left : (who : ℕ) (s : Subscription) → IsSoundSubscription s → IsSoundSubscription (left_on who s)
sound_left who s sound = record {
  few = omega (arith, sound.few, length_kept (λ (c : Consumer). not (nat_eq c.key.session who)) s.consumers);
  single = λ is. omega (arith, sound.single is, length_kept (λ (c : Consumer). not (nat_eq c.key.session who)) s.consumers);
  permits = all_kept IsWithinPermits (λ (c : Consumer). not (nat_eq c.key.session who)) s.consumers sound.permits;
  seated = seated_kept (λ k. not (nat_eq k.session who)) s.seats s.consumers sound.seated;
  ranges_apart = λ is. AllPairs-filter AreDisjoint (λ (seat : Seat). not (nat_eq seat.key.session who)) s.seats (sound.ranges_apart is);
  unacknowledged = given_back_apart s.acked s.deliveries (freed_by who s.deliveries) (freed who) sound.unacknowledged (get_freed who s.deliveries);
  held = λ i k h.
      let was = still_held who (map.get s.deliveries i) k (ap holder_in (sym (get_freed who s.deliveries i)) ∙ h) in
      any_kept (is_consumer k) (λ (c : Consumer). not (nat_eq c.key.session who)) (λ c same. stays who c.key k was.1 same) s.consumers (sound.held i k was.0);
}

-- ---- a consumer goes, or gives back what it holds

held_by_other : (key : ConsumerKey) (x : Option Delivery) (k : ConsumerKey) → holder_in (option_map (given_back key) x) ≡ Some k → (holder_in x ≡ Some k) × (same_key k key ≡ false)
held_by_other key None k h = absurd (none_held k h)
held_by_other key (Some d) k h =
    let parts = freed_holder (is_held_by key d.holder) d.holder k h in (parts.1, sym (ap (is_held_by key) parts.1) ∙ parts.0)

stays_beside : (key a k : ConsumerKey) → same_key k key ≡ false → same_key a k ≡ true → not (same_key a key) ≡ true
stays_beside key a k other same = grind (arith, nat_tests)

pub sound_detached : (key : ConsumerKey) (s : Subscription) → IsSoundSubscription s → IsSoundSubscription (detached_on key s)
sound_detached key s sound = record {
  few = omega (arith, sound.few, length_kept (λ (c : Consumer). not (is_consumer key c)) s.consumers);
  single = λ is. omega (arith, sound.single is, length_kept (λ (c : Consumer). not (is_consumer key c)) s.consumers);
  permits = all_kept IsWithinPermits (λ (c : Consumer). not (is_consumer key c)) s.consumers sound.permits;
  seated = seated_kept (λ k. not (same_key k key)) s.seats s.consumers sound.seated;
  ranges_apart = λ is. AllPairs-filter AreDisjoint (λ (seat : Seat). not (same_key seat.key key)) s.seats (sound.ranges_apart is);
  unacknowledged = apart_changed (λ i d. given_back key d) s.acked s.deliveries sound.unacknowledged;
  held = λ i k h.
      let was = held_by_other key (map.get s.deliveries i) k (ap holder_in (sym (get_each (λ i d. given_back key d) s.deliveries i)) ∙ h) in
      any_kept (is_consumer k) (λ (c : Consumer). not (is_consumer key c)) (λ c same. stays_beside key c.key k was.1 same) s.consumers (sound.held i k was.0);
}

held_before : (b : Bool) (key : ConsumerKey) (x : Option Delivery) (k : ConsumerKey) → holder_in (option_map (λ d. cond b (given_back key d) d) x) ≡ Some k → holder_in x ≡ Some k
held_before true key x k h = (held_by_other key x k h).0
held_before false key None k h = h
held_before false key (Some d) k h = h

pub sound_redelivered : (key : ConsumerKey) (asked : Option (List ℕ)) (s : Subscription) → IsSoundSubscription s → IsSoundSubscription (redelivered_on key asked s)
sound_redelivered key asked s sound = record {
  few = sound.few;
  single = sound.single;
  permits = sound.permits;
  seated = sound.seated;
  ranges_apart = sound.ranges_apart;
  unacknowledged = apart_changed (λ i d. cond (is_asked_back s.mode asked i) (given_back key d) d) s.acked s.deliveries sound.unacknowledged;
  held = λ i k h. sound.held i k (held_before (is_asked_back s.mode asked i) key (map.get s.deliveries i) k
      (ap holder_in (sym (get_each (λ j d. cond (is_asked_back s.mode asked j) (given_back key d) d) s.deliveries i)) ∙ h));
}

both : (a w b c : Bool) → ((a && w) || (b && w)) ≡ ((a || b) && w)
both true true b c = refl
both true false true c = refl
both true false false c = refl
both false w b c = refl

one_of : (who : ℕ) (a k : ConsumerKey) → (nat_eq a.session who && same_key k a) ≡ (same_key a k && nat_eq k.session who)
one_of who a k = grind (arith, nat_tests)

-- whether the holder is one of the session's consumers
pub among : (who : ℕ) (k : ConsumerKey) (cs : List Consumer) → is_among who cs (Some k) ≡ (list_any (is_consumer k) cs && nat_eq k.session who)
among who k [] = refl
among who k (c ∷ cs) =
    ap (λ b. b || is_among who cs (Some k)) (one_of who c.key k)
    ∙ ap (λ b. (same_key c.key k && nat_eq k.session who) || b) (among who k cs)
    ∙ both (same_key c.key k) (nat_eq k.session who) (list_any (is_consumer k) cs) false

pub among_attached : (who : ℕ) (cs : List Consumer) (h : Option ConsumerKey) → ((k : ConsumerKey) → h ≡ Some k → list_any (is_consumer k) cs ≡ true) → is_among who cs h ≡ is_of who h
among_attached who cs None to = refl
among_attached who cs (Some k) to = among who k cs ∙ ap (λ b. b && nat_eq k.session who) (to k refl)

same_freed : (who : ℕ) (s : Subscription) (x : Option Delivery) → ((k : ConsumerKey) → holder_in x ≡ Some k → is_on k s ≡ true) → option_map (freed_among who s.consumers) x ≡ option_map (freed who) x
same_freed who s None to = refl
same_freed who s (Some d) to = ap (λ b. let e : Delivery = record { holder = cond b None d.holder; times = d.times } in Some e) (among_attached who s.consumers d.holder to)

-- from what is known of each position
pub freed_by_all : (who : ℕ) (s : Subscription) (d' : Deliveries) → IsSoundSubscription s → ((q : ℕ) → map.get d' q ≡ option_map (freed_among who s.consumers) (map.get s.deliveries q)) → d' ≡ freed_by who s.deliveries
freed_by_all who s d' sound says = same_entries _ _ (λ q. says q ∙ same_freed who s (map.get s.deliveries q) (sound.held q) ∙ sym (get_freed who s.deliveries q))
