-- Hints that stay hints as a topic's subscriptions change.
use Rattle.std.proofs.Common.{◌≡◌, ℕ, zero, suc, ◌+◌, ◌<◌, ◌≤◌, Bool, true, false, not, nat_eq, nat_lt, cond, ◌||◌, List, [], ◌∷◌, ◌++◌, length, get_or, set, filter, ◌∙◌, ap, sym, subst, refl, arith, Option, Some, None, length-append}
use Rattle.std.proofs.lemmas.Bool.{true≢false}
use Rattle.std.proofs.lemmas.Bool.Decides.{nat_tests}
use Rattle.std.proofs.lemmas.List.{get_or_append_left, set-get_or}
use Rattle.std.specs.Prelude.{IsTrue, IsSomeAnd, IfSome, IfNone, slice_index}
use Rattle.std.specs.List.{AllByRecursion, find, remove}
use Rattle.std.specs.Option.{unwrap_or}
use Rattle.std.specs.FinMap as map
use Rattle.cursor.specs.Positions.{Positions, Lacks}
use Rattle.holds.specs.Backlog.{IsOpenAt, IsLeast, in_ranges, attached}
use Rattle.holds.specs.Deliveries.{Deliveries, holder, holder_in, same_key, sent_to}
use Rattle.holds.specs.declared.consumer.ConsumerKey.{ConsumerKey}
use Rattle.holds.specs.declared.consumer.Consumer.{Consumer as Seat}
use Rattle.holds.specs.declared.delivery.Delivery.{Delivery}
use Rattle.holds.proofs.Kept.{get_inserted}
use Rattle.subscriptions.specs.declared.consumer.Mode.{Mode}
use Rattle.subscriptions.specs.declared.consumer.Mode.TheVariants.{Exclusive, Failover, Shared, KeyShared}
use Rattle.subscriptions.specs.declared.hint.Hint.{Hint}
use Rattle.subscriptions.specs.Hints.{IsPassed, IsHint, AreHintsOn, AreHintsOf, AreHints, hinted, is_hint_of}
use Rattle.records.specs.declared.record.Record.{Record}
use Rattle.subscriptions.specs.State.{Subscription, Subscriptions}
use Rattle.subscriptions.specs.Steps.{first_changed, is_on, granted, granted_on, learnt, learnt_on, acknowledged, acked_on, acknowledged_through, acked_through_on, sent, sent_on, marked, attached_to, AdmitsBy, IsLeastIn, is_key_shared}
use Rattle.subscriptions.proofs.Sound.{all_kept, all_pushed}
use Rattle.subscriptions.proofs.Settled.{is_in, has_joined, get_forgotten, has_through, get_forgotten_below}
use Rattle.permits.specs.Ends.{Seen, Word}

-- ---- hints as a list

abbrev pub below_of : Option Hint → ℕ
below_of None = 0
below_of (Some hint) = hint.below

pub hinted_is : (key : ConsumerKey) (hints : List Hint) → hinted key hints ≡ below_of (find (is_hint_of key) hints)
hinted_is key [] = refl
hinted_is key (hint ∷ hints) = elim (is_hint_of key hint) as (λ b. cond b hint.below (hinted key hints) ≡ below_of (cond b (Some hint) (find (is_hint_of key) hints))) [
  | true ↦ refl
  | false ↦ hinted_is key hints
]

-- ---- a consumer's search begins where nothing is passed over

same_keys : (a b : ConsumerKey) → same_key a b ≡ true → (a.session ≡ b.session) × (a.id ≡ b.id)
same_keys a b h = grind (arith, nat_tests)

pub key_is : (a b : ConsumerKey) → same_key a b ≡ true → a ≡ b
key_is a b h = let same = same_keys a b h in λ i. record { session = same.0 i; id = same.1 i }

nothing_passed : (o : Option Seat) (acked : Positions) (d : Deliveries) (slots : List ℕ) → IsPassed o acked d slots 0
nothing_passed None acked d slots = tt
nothing_passed (Some seat) acked d slots = λ i low _ _ _. absurd (omega (arith, low))

passed_here : (slots : List ℕ) (key : ConsumerKey) (s : Subscription) (hint : Hint) → hint.key ≡ key → IsHint slots s hint → IsPassed (attached key s.seats) s.acked s.deliveries slots hint.below
passed_here slots key s hint same ok = subst (λ (k : ConsumerKey). IsPassed (attached k s.seats) s.acked s.deliveries slots hint.below) same ok.passed

pub passed_from : (slots : List ℕ) (key : ConsumerKey) (s : Subscription) (hints : List Hint) → AreHintsOn slots s hints
    → IsPassed (attached key s.seats) s.acked s.deliveries slots (hinted key hints)
passed_from slots key s [] all = nothing_passed (attached key s.seats) s.acked s.deliveries slots
passed_from slots key s (hint ∷ hints) all =
    elim (is_hint_of key hint) as (λ b. is_hint_of key hint ≡ b → IsPassed (attached key s.seats) s.acked s.deliveries slots (cond b hint.below (hinted key hints))) [
      | true ↦ λ same. passed_here slots key s hint (key_is hint.key key same) all.0
      | false ↦ λ _. passed_from slots key s hints all.1
    ] refl

-- ---- what a search passes over

at_least : (k j : ℕ) → nat_lt k j ≡ false → j ≤ k
at_least k j h = grind (arith, nat_tests)

is_less : (k j : ℕ) → nat_lt k j ≡ true → k < j
is_less k j h = grind (arith, nat_tests)

-- where none is the least, there is none
none_below : (P : ℕ → Type 0) → ((i : ℕ) → IsLeast P i → ⊥) → (n j : ℕ) → j < n → P j → ⊥
none_below P none zero j low p = absurd (omega (arith, low))
none_below P none (suc n) j low p =
    none j (
      p,
      λ k q. elim (nat_lt k j) as (λ b. nat_lt k j ≡ b → j ≤ k) [
        | true ↦ λ less. absurd (none_below P none n k (omega (arith, is_less k j less, low)) q)
        | false ↦ λ more. at_least k j more
      ] refl,
    )

-- below the least open position of a consumer's slots nothing is left for it
passed_least : (o : Option Seat) (acked : Positions) (d : Deliveries) (slots : List ℕ) (committed i : ℕ) → IsSomeAnd o (λ seat. IsLeastIn seat.ranges slots (IsOpenAt committed acked d) i) → IsPassed o acked d slots i
passed_least None acked d slots committed i is = tt
passed_least (Some seat) acked d slots committed i is = λ j low lacks free here.
    let open_at : IsOpenAt committed acked d j = record { is_committed = omega (arith, low, is.0.0.is_committed); is_unacked = lacks; is_free = free } in
    omega (arith, low, is.1 j (open_at, here))

-- and without one nothing is left for it at all
passed_none : (o : Option Seat) (acked : Positions) (d : Deliveries) (slots : List ℕ) (committed : ℕ) → ((i : ℕ) → IsSomeAnd o (λ seat. IsLeastIn seat.ranges slots (IsOpenAt committed acked d) i) → ⊥) → IsPassed o acked d slots committed
passed_none None acked d slots committed none = tt
passed_none (Some seat) acked d slots committed none = λ j low lacks free here.
    let open_at : IsOpenAt committed acked d j = record { is_committed = low; is_unacked = lacks; is_free = free } in
    none_below (λ i. IsOpenAt committed acked d i × IsTrue (in_ranges seat.ranges (slice_index slots i))) none (j + 1) j (omega arith) (open_at, here)

committed_least : (o : Option Seat) (acked : Positions) (d : Deliveries) (slots : List ℕ) (committed i : ℕ) → IsSomeAnd o (λ seat. IsLeastIn seat.ranges slots (IsOpenAt committed acked d) i) → i < committed
committed_least None acked d slots committed i is = absurd is
committed_least (Some seat) acked d slots committed i is = is.0.0.is_committed

is_mode : (mode : Mode) → is_key_shared mode ≡ true → mode ≡ KeyShared
is_mode Exclusive h = absurd (true≢false (sym h))
is_mode Failover h = absurd (true≢false (sym h))
is_mode Shared h = absurd (true≢false (sym h))
is_mode KeyShared h = refl

hint_by : (slots : List ℕ) (key : ConsumerKey) (s : Subscription) (committed : ℕ) (r : Option ℕ) → committed ≤ length slots
    → IfSome r (AdmitsBy KeyShared key s slots (IsOpenAt committed s.acked s.deliveries)) → IfNone r ((i : ℕ) → AdmitsBy KeyShared key s slots (IsOpenAt committed s.acked s.deliveries) i → ⊥)
    → IsHint slots s (record { key = key; below = unwrap_or r committed })
hint_by slots key s committed (Some i) fits some none = record {
  known = omega (arith, fits, committed_least (attached key s.seats) s.acked s.deliveries slots committed i some);
  passed = passed_least (attached key s.seats) s.acked s.deliveries slots committed i some;
}
hint_by slots key s committed None fits some none = record {
  known = fits;
  passed = passed_none (attached key s.seats) s.acked s.deliveries slots committed none;
}

-- what a mode by slots answers is a hint
pub hint_picked : (slots : List ℕ) (key : ConsumerKey) (s : Subscription) (committed : ℕ) (r : Option ℕ) → committed ≤ length slots → is_key_shared s.mode ≡ true
    → IfSome r (AdmitsBy s.mode key s slots (IsOpenAt committed s.acked s.deliveries)) → IfNone r ((i : ℕ) → AdmitsBy s.mode key s slots (IsOpenAt committed s.acked s.deliveries) i → ⊥)
    → IsHint slots s (record { key = key; below = unwrap_or r committed })
hint_picked slots key s committed r fits by_slots some none =
    let mode = is_mode s.mode by_slots in
    hint_by slots key s committed r fits
    (subst (λ (m : Mode). IfSome r (AdmitsBy m key s slots (IsOpenAt committed s.acked s.deliveries))) mode some)
    (subst (λ (m : Mode). IfNone r ((i : ℕ) → AdmitsBy m key s slots (IsOpenAt committed s.acked s.deliveries) i → ⊥)) mode none)

-- ---- the hints stay where each consumer's open positions stay or are fewer

-- a change of a subscription that frees no position
pub record FreesNone (f : Subscription → Subscription) : Type 0 where
  pub seats : (s : Subscription) → (f s).seats ≡ s.seats
  pub opens : (s : Subscription) (i : ℕ) → Lacks (f s).acked i → holder (f s).deliveries i ≡ None → Lacks s.acked i × (holder s.deliveries i ≡ None)

stays_passed : (o : Option Seat) (acked acked' : Positions) (d d' : Deliveries) (slots : List ℕ) (n : ℕ) → ((i : ℕ) → Lacks acked' i → holder d' i ≡ None → Lacks acked i × (holder d i ≡ None))
    → IsPassed o acked d slots n → IsPassed o acked' d' slots n
stays_passed None acked acked' d d' slots n opens passed = tt
stays_passed (Some seat) acked acked' d d' slots n opens passed = λ i low lacks free here. let was = opens i lacks free in passed i low was.0 was.1 here

hint_kept : (f : Subscription → Subscription) → FreesNone f → (slots : List ℕ) (s : Subscription) (hint : Hint) → IsHint slots s hint → IsHint slots (f s) hint
hint_kept f frees slots s hint ok = record {
  known = ok.known;
  passed = subst (λ (seats : List Seat). IsPassed (attached hint.key seats) (f s).acked (f s).deliveries slots hint.below) (sym (frees.seats s))
      (stays_passed (attached hint.key s.seats) s.acked (f s).acked s.deliveries (f s).deliveries slots hint.below (frees.opens s) ok.passed);
}

all_hints : (P Q : Hint → Type 0) → ((hint : Hint) → P hint → Q hint) → (hints : List Hint) → AllByRecursion P hints → AllByRecursion Q hints
all_hints P Q to [] all = tt
all_hints P Q to (hint ∷ hints) all = (to hint all.0, all_hints P Q to hints all.1)

-- one subscription changes
hints_changed : (slots : List ℕ) (test : Subscription → Bool) (f : Subscription → Subscription) → FreesNone f → (subs : List Subscription) (hints : List (List Hint))
    → AreHintsOf slots subs hints → AreHintsOf slots (first_changed test f subs) hints
hints_changed slots test f frees [] hints all = all
hints_changed slots test f frees (s ∷ subs) [] all = absurd all
hints_changed slots test f frees (s ∷ subs) (h ∷ hints) all = elim (test s) as (λ b. AreHintsOf slots (cond b (f s ∷ subs) (s ∷ first_changed test f subs)) (h ∷ hints)) [
  | true ↦ (all_hints (IsHint slots s) (IsHint slots (f s)) (λ hint ok. hint_kept f frees slots s hint ok) h all.0, all.1)
  | false ↦ (all.0, hints_changed slots test f frees subs hints all.1)
]

-- ---- the hints of each subscription

hints_length : (slots : List ℕ) (subs : List Subscription) (hints : List (List Hint)) → AreHintsOf slots subs hints → length hints ≡ length subs
hints_length slots [] [] all = refl
hints_length slots [] (h ∷ hints) all = absurd all
hints_length slots (s ∷ subs) [] all = absurd all
hints_length slots (s ∷ subs) (h ∷ hints) all = omega (arith, hints_length slots subs hints all.1)

pub are_hints : (t : Subscriptions) (hints : List (List Hint)) → AreHintsOf t.slots t.subs hints → AreHints t hints
are_hints t hints all = record { places = hints_length t.slots t.subs hints all; each_one = all }

-- ---- further slots

passed_longer : (o : Option Seat) (acked : Positions) (d : Deliveries) (slots more : List ℕ) (n : ℕ) → n ≤ length slots → IsPassed o acked d slots n → IsPassed o acked d (slots ++ more) n
passed_longer None acked d slots more n known passed = tt
passed_longer (Some seat) acked d slots more n known passed = λ i low lacks free here.
    passed i low lacks free (subst (λ slot. IsTrue (in_ranges seat.ranges slot)) (get_or_append_left slots more 0 i (omega (arith, low, known))) here)

hint_longer : (slots more : List ℕ) (s : Subscription) (hint : Hint) → IsHint slots s hint → IsHint (slots ++ more) s hint
hint_longer slots more s hint ok = record {
  known = rw length-append (omega (arith, ok.known));
  passed = passed_longer (attached hint.key s.seats) s.acked s.deliveries slots more hint.below ok.known ok.passed;
}

hints_longer : (slots more : List ℕ) (subs : List Subscription) (hints : List (List Hint)) → AreHintsOf slots subs hints → AreHintsOf (slots ++ more) subs hints
hints_longer slots more [] [] all = tt
hints_longer slots more [] (h ∷ hints) all = absurd all
hints_longer slots more (s ∷ subs) [] all = absurd all
hints_longer slots more (s ∷ subs) (h ∷ hints) all = (
  all_hints (IsHint slots s) (IsHint (slots ++ more) s) (λ hint ok. hint_longer slots more s hint ok) h all.0,
  hints_longer slots more subs hints all.1,
)

pub hints_marked : (t : Subscriptions) (more messages : List ℕ) (hints : List (List Hint)) → AreHints t hints → AreHints (marked t more messages) hints
hints_marked t more messages hints all = are_hints (marked t more messages) hints (hints_longer t.slots more t.subs hints all.each_one)

-- ---- the calls that free no position

pub grants : (key : ConsumerKey) (permits : ℕ) → FreesNone (granted_on key permits)
grants key permits = record {
  seats = λ _. refl;
  opens = λ s i lacks free. (lacks, free);
}

pub hints_granted : (t : Subscriptions) (key : ConsumerKey) (permits : ℕ) (hints : List (List Hint)) → AreHints t hints → AreHints (granted t key permits) hints
hints_granted t key permits hints all =
    are_hints (granted t key permits) hints (hints_changed t.slots (is_on key) (granted_on key permits) (grants key permits) t.subs hints all.each_one)

pub learns : (key : ConsumerKey) (n : Seen) → FreesNone (learnt_on key n)
learns key n = record {
  seats = λ _. refl;
  opens = λ s i lacks free. (lacks, free);
}

pub hints_learnt : (t : Subscriptions) (key : ConsumerKey) (n : Seen) (hints : List (List Hint)) → AreHints t hints → AreHints (learnt t key n) hints
hints_learnt t key n hints all =
    are_hints (learnt t key n) hints (hints_changed t.slots (is_on key) (learnt_on key n) (learns key n) t.subs hints all.each_one)

or_first : (a b : Bool) → (a || b) ≡ false → a ≡ false
or_first true b h = h
or_first false b h = refl

or_second : (a b : Bool) → (a || b) ≡ false → b ≡ false
or_second true b h = absurd (true≢false h)
or_second false b h = h

was_free : (b : Bool) (x y : Option Delivery) → b ≡ false → y ≡ cond b None x → holder_in y ≡ None → holder_in x ≡ None
was_free b x y other is free = sym (ap (λ c. holder_in (cond c None x)) other) ∙ sym (ap (λ o. holder_in o) is) ∙ free

pub acks : (ps : List ℕ) → FreesNone (acked_on ps)
acks ps = record {
  seats = λ _. refl;
  opens = λ s i lacks free. let none = sym (has_joined s.acked ps i) ∙ lacks in
      (or_first _ _ none, was_free (is_in i ps) (map.get s.deliveries i) _ (or_second _ _ none) (get_forgotten s.deliveries ps i) free);
}

pub hints_acknowledged : (t : Subscriptions) (key : ConsumerKey) (ps : List ℕ) (hints : List (List Hint)) → AreHints t hints → AreHints (acknowledged t key ps) hints
hints_acknowledged t key ps hints all =
    are_hints (acknowledged t key ps) hints (hints_changed t.slots (is_on key) (acked_on ps) (acks ps) t.subs hints all.each_one)

pub acks_through : (p : ℕ) → FreesNone (acked_through_on p)
acks_through p = record {
  seats = λ _. refl;
  opens = λ s i lacks free. let none = sym (has_through s.acked (p + 1) i) ∙ lacks in
      (or_first _ _ none, was_free (nat_lt i (p + 1)) (map.get s.deliveries i) _ (or_second _ _ none) (get_forgotten_below s.deliveries (p + 1) i) free);
}

pub hints_through : (t : Subscriptions) (key : ConsumerKey) (p : ℕ) (hints : List (List Hint)) → AreHints t hints → AreHints (acknowledged_through t key p) hints
hints_through t key p hints all =
    are_hints (acknowledged_through t key p) hints (hints_changed t.slots (is_on key) (acked_through_on p) (acks_through p) t.subs hints all.each_one)

free_before : (b : Bool) (key : ConsumerKey) (before x y : Option Delivery) → y ≡ cond b (Some (sent_to key before)) x → holder_in y ≡ None → holder_in x ≡ None
free_before true key before x y is free = let taken : Some key ≡ None = sym (ap (λ o. holder_in o) is) ∙ free in absurd (cc)
free_before false key before x y is free = sym (ap (λ o. holder_in o) is) ∙ free

pub sends : (key : ConsumerKey) (n p : ℕ) → FreesNone (sent_on key n p)
sends key n p = record {
  seats = λ _. refl;
  opens = λ s i lacks free. (lacks, free_before (nat_eq i p) key (map.get s.deliveries p) (map.get s.deliveries i) _ (get_inserted s.deliveries p (sent_to key (map.get s.deliveries p)) i) free);
}

pub hints_sent : (t : Subscriptions) (key : ConsumerKey) (p : ℕ) (hints : List (List Hint)) → AreHints t hints → AreHints (sent t key p) hints
hints_sent t key p hints all =
    are_hints (sent t key p) hints (hints_changed t.slots (is_on key) (sent_on key (slice_index t.messages p) p) (sends key (slice_index t.messages p) p) t.subs hints all.each_one)

-- ---- a hint is noted

pushed_or_not : (slots : List ℕ) (s : Subscription) (b : Bool) (hints : List Hint) (hint : Hint) → AreHintsOn slots s hints → IsHint slots s hint → AreHintsOn slots s (cond b (hints ++ hint ∷ []) hints)
pushed_or_not slots s true hints hint all is = all_pushed (IsHint slots s) hints hint all is
pushed_or_not slots s false hints hint all is = all

pub noted : (slots : List ℕ) (s : Subscription) (key : ConsumerKey) (hints others new : List Hint) (hint : Hint) (b : Bool) → others ≡ filter (λ h. not (is_hint_of key h)) hints → new ≡ cond b (others ++ hint ∷ []) others
    → AreHintsOn slots s hints → IsHint slots s hint → AreHintsOn slots s new
noted slots s key hints others new hint b kept pushed all is =
    subst (AreHintsOn slots s) (sym pushed)
    (pushed_or_not slots s b others hint (subst (AreHintsOn slots s) (sym kept) (all_kept (IsHint slots s) (λ h. not (is_hint_of key h)) hints all)) is)

-- ---- a consumer is attached behind the others

apart_keys : (a b : ConsumerKey) → same_key a b ≡ false → same_key b a ≡ false
apart_keys a b h = grind (arith, nat_tests)

found_before : (key : ConsumerKey) (seats : List Seat) (seat : Seat) → same_key seat.key key ≡ false → attached key (seats ++ seat ∷ []) ≡ attached key seats
found_before key [] seat other = ap (λ b. cond b (Some seat) None) other
found_before key (x ∷ seats) seat other = ap (λ o. cond (same_key x.key key) (Some x) o) (found_before key seats seat other)

hint_beside : (slots : List ℕ) (mode : Mode) (seat : Seat) (word : Word) (s : Subscription) (hint : Hint) → is_hint_of seat.key hint ≡ false → IsHint slots s hint → IsHint slots (attached_to mode seat word s) hint
hint_beside slots mode seat word s hint other ok = record {
  known = ok.known;
  passed = subst (λ (o : Option Seat). IsPassed o s.acked s.deliveries slots hint.below) (sym (found_before hint.key s.seats seat (apart_keys hint.key seat.key other))) ok.passed;
}

-- the others keep their hints
hints_beside : (slots : List ℕ) (mode : Mode) (seat : Seat) (word : Word) (s : Subscription) (hints : List Hint) → AreHintsOn slots s hints
    → AreHintsOn slots (attached_to mode seat word s) (filter (λ h. not (is_hint_of seat.key h)) hints)
hints_beside slots mode seat word s [] all = tt
hints_beside slots mode seat word s (hint ∷ hints) all =
    elim (is_hint_of seat.key hint) as (λ b. is_hint_of seat.key hint ≡ b → AreHintsOn slots (attached_to mode seat word s) (cond (not b) (hint ∷ filter (λ h. not (is_hint_of seat.key h)) hints) (filter (λ h. not (is_hint_of seat.key h)) hints))) [
      | true ↦ λ _. hints_beside slots mode seat word s hints all.1
      | false ↦ λ other. (hint_beside slots mode seat word s hint other all.0, hints_beside slots mode seat word s hints all.1)
    ] refl

-- ---- the hints of the subscription at a place

pub hints_at : (slots : List ℕ) (subs : List Subscription) (hints : List (List Hint)) (i : ℕ) (s : Subscription) (h : List Hint) → AreHintsOf slots subs hints → i < length subs
    → s ≡ get_or subs i s → h ≡ get_or hints i h → AreHintsOn slots s h
hints_at slots [] [] i s h all low is its = absurd (omega (arith, low))
hints_at slots [] (y ∷ hints) i s h all low is its = absurd all
hints_at slots (x ∷ subs) [] i s h all low is its = absurd all
hints_at slots (x ∷ subs) (y ∷ hints) zero s h all low is its =
    subst (λ (a : Subscription). AreHintsOn slots a h) (sym is) (subst (AreHintsOn slots x) (sym its) all.0)
hints_at slots (x ∷ subs) (y ∷ hints) (suc i) s h all low is its = hints_at slots subs hints i s h all.1 (omega (arith, low)) is its

pub hints_set : (slots : List ℕ) (subs : List Subscription) (hints : List (List Hint)) (i : ℕ) (s : Subscription) (h : List Hint) → AreHintsOf slots subs hints → AreHintsOn slots s h
    → AreHintsOf slots (set subs i s) (set hints i h)
hints_set slots [] [] zero s h all is = tt
hints_set slots [] [] (suc i) s h all is = tt
hints_set slots [] (y ∷ hints) i s h all is = absurd all
hints_set slots (x ∷ subs) [] i s h all is = absurd all
hints_set slots (x ∷ subs) (y ∷ hints) zero s h all is = (is, all.1)
hints_set slots (x ∷ subs) (y ∷ hints) (suc i) s h all is = (all.0, hints_set slots subs hints i s h all.1 is)

hints_pushed : (slots : List ℕ) (subs : List Subscription) (hints : List (List Hint)) (s : Subscription) → AreHintsOf slots subs hints → AreHintsOf slots (subs ++ s ∷ []) (hints ++ [] ∷ [])
hints_pushed slots [] [] s all = (tt, tt)
hints_pushed slots [] (h ∷ hints) s all = absurd all
hints_pushed slots (x ∷ subs) [] s all = absurd all
hints_pushed slots (x ∷ subs) (h ∷ hints) s all = (all.0, hints_pushed slots subs hints s all.1)

hints_removed : (slots : List ℕ) (subs : List Subscription) (hints : List (List Hint)) (i : ℕ) → AreHintsOf slots subs hints → AreHintsOf slots (remove subs i) (remove hints i)
hints_removed slots [] [] zero all = tt
hints_removed slots [] [] (suc i) all = tt
hints_removed slots [] (h ∷ hints) i all = absurd all
hints_removed slots (x ∷ subs) [] i all = absurd all
hints_removed slots (x ∷ subs) (h ∷ hints) zero all = all.1
hints_removed slots (x ∷ subs) (h ∷ hints) (suc i) all = (all.0, hints_removed slots subs hints i all.1)

-- so many subscriptions without hints
hints_none : (slots : List ℕ) (subs : List Subscription) (hints : List (List Hint)) → length hints ≡ length subs → AllByRecursion (λ h. h ≡ []) hints → AreHintsOf slots subs hints
hints_none slots [] [] same empty = tt
hints_none slots [] (h ∷ hints) same empty = absurd (omega (arith, same))
hints_none slots (s ∷ subs) [] same empty = absurd (omega (arith, same))
hints_none slots (s ∷ subs) (h ∷ hints) same empty = (subst (AreHintsOn slots s) (sym empty.0) tt, hints_none slots subs hints (omega (arith, same)) empty.1)

-- ---- what the calls do to them

-- a consumer is attached
pub hints_joined : (t : Subscriptions) (hints : List (List Hint)) (mode : Mode) (seat : Seat) (word : Word) (i : ℕ) (s s' : Subscription) (h h' : List Hint) → AreHints t hints → i < length t.subs
    → s ≡ get_or t.subs i s → h ≡ get_or hints i h → s' ≡ attached_to mode seat word s → h' ≡ filter (λ x. not (is_hint_of seat.key x)) h
    → AreHints (record t { subs = set t.subs i s' }) (set hints i h')
hints_joined t hints mode seat word i s s' h h' are low is its new kept =
    are_hints (record t { subs = set t.subs i s' }) (set hints i h')
    (hints_set t.slots t.subs hints i s' h' are.each_one
    (subst (λ (x : Subscription). AreHintsOn t.slots x h') (sym new)
    (subst (AreHintsOn t.slots (attached_to mode seat word s)) (sym kept) (hints_beside t.slots mode seat word s h (hints_at t.slots t.subs hints i s h are.each_one low is its)))))

-- positions are given back
pub hints_cleared : (t : Subscriptions) (hints : List (List Hint)) (i : ℕ) (s' : Subscription) (h' : List Hint) → AreHints t hints → h' ≡ []
    → AreHints (record t { subs = set t.subs i s' }) (set hints i h')
hints_cleared t hints i s' h' are none =
    are_hints (record t { subs = set t.subs i s' }) (set hints i h')
    (hints_set t.slots t.subs hints i s' h' are.each_one (subst (AreHintsOn t.slots s') (sym none) tt))

pub hints_noted : (t : Subscriptions) (hints : List (List Hint)) (i : ℕ) (s : Subscription) (h h' : List Hint) → AreHints t hints → i < length t.subs → s ≡ get_or t.subs i s → h ≡ get_or hints i h
    → (AreHintsOn t.slots s h → AreHintsOn t.slots s h') → AreHints t (set hints i h')
hints_noted t hints i s h h' are low is its to =
    are_hints t (set hints i h')
    (subst (λ (xs : List Subscription). AreHintsOf t.slots xs (set hints i h')) (ap (set t.subs i) is ∙ set-get_or t.subs i s)
    (hints_set t.slots t.subs hints i s h' are.each_one (to (hints_at t.slots t.subs hints i s h are.each_one low is its))))

-- a subscription is made
pub hints_made : (t : Subscriptions) (hints : List (List Hint)) (s : Subscription) (h : List Hint) (changes : List Record) → AreHints t hints → h ≡ []
    → AreHints (record { subs = t.subs ++ s ∷ []; changes = changes; slots = t.slots; messages = t.messages }) (hints ++ h ∷ [])
hints_made t hints s h changes are none =
    subst (λ (x : List Hint). AreHints (record { subs = t.subs ++ s ∷ []; changes = changes; slots = t.slots; messages = t.messages }) (hints ++ x ∷ [])) (sym none)
    (are_hints (record { subs = t.subs ++ s ∷ []; changes = changes; slots = t.slots; messages = t.messages }) (hints ++ [] ∷ []) (hints_pushed t.slots t.subs hints s are.each_one))

-- a subscription goes
pub hints_gone : (t : Subscriptions) (hints : List (List Hint)) (i : ℕ) (changes : List Record) → AreHints t hints
    → AreHints (record { subs = remove t.subs i; changes = changes; slots = t.slots; messages = t.messages }) (remove hints i)
hints_gone t hints i changes are =
    are_hints (record { subs = remove t.subs i; changes = changes; slots = t.slots; messages = t.messages }) (remove hints i) (hints_removed t.slots t.subs hints i are.each_one)

-- none is known so far
pub hints_opened : (t : Subscriptions) (hints : List (List Hint)) → length hints ≡ length t.subs → AllByRecursion (λ h. h ≡ []) hints → AreHints t hints
hints_opened t hints same empty = are_hints t hints (hints_none t.slots t.subs hints same empty)
