-- A consumer to which nothing is admitted stays so while others get messages.
use Rattle.std.proofs.Common.{◌≡◌, ◌≢◌, ◌∙◌, ⊎_elim, ◌<◌, ◌≤◌, ℕ, ◌+◌, cond, Bool, true, false, nat_eq, List, [], ◌∷◌, find, refl, sym, ap, subst, Option, Some, None, arith}
use Rattle.std.specs.Prelude.{IsSomeAnd, slice_index}
use Rattle.std.specs.FinMap as map
use Rattle.std.proofs.lemmas.Bool.{cases_eq, cases_lt, true≢false, ltb-true, lt-ltb, ne_eqb}
use Rattle.holds.specs.Backlog.{IsOpenAt, in_ranges, attached as seat_of}
use Rattle.holds.specs.Deliveries.{holder_in, sent_to}
use Rattle.holds.specs.declared.consumer.Consumer.{Consumer as Seat}
use Rattle.holds.specs.declared.consumer.ConsumerKey.{ConsumerKey}
use Rattle.holds.specs.declared.consumer.SlotRange.{SlotRange}
use Rattle.holds.specs.declared.delivery.Delivery.{Delivery}
use Rattle.holds.proofs.Kept.{get_inserted}
use Rattle.subscriptions.specs.declared.consumer.Mode.{Mode}
use Rattle.subscriptions.specs.declared.consumer.Mode.TheVariants.{Exclusive, Failover, Shared, KeyShared}
use Rattle.subscriptions.specs.State.{Consumer, Subscription, Subscriptions}
use Rattle.subscriptions.specs.Steps.{first_changed, is_consumer, is_on, is_first, has_permit, sent, sent_on, sent_more, IsLeastIn, AdmitsBy, AdmitsOn, AdmitsAt, Admits}
use Rattle.subscriptions.proofs.Sound.{any_changed}

-- ---- positions

module _ (committed : ℕ) (s : Subscription) (other : ConsumerKey) (i : ℕ) where
  abbrev Opens : ℕ → Type 0
  Opens = IsOpenAt committed s.acked s.deliveries

  abbrev Opens' : ℕ → Type 0
  Opens' = IsOpenAt committed s.acked (map.insert s.deliveries i (sent_to other (map.get s.deliveries i)))

  free_before : (b : Bool) (y : Option Delivery) (x : Option Delivery) → y ≡ cond b (Some (sent_to other (map.get s.deliveries i))) x → holder_in y ≡ None → holder_in x ≡ None
  free_before true y x is free = let taken : Some other ≡ None = sym (ap (λ o. holder_in o) is) ∙ free in absurd (let no : ⊥ = cc in no)
  free_before false y x is free = sym (ap (λ o. holder_in o) is) ∙ free

  free_after : (b : Bool) (y : Option Delivery) (x : Option Delivery) → b ≡ false → y ≡ cond b (Some (sent_to other (map.get s.deliveries i))) x → holder_in x ≡ None → holder_in y ≡ None
  free_after true y x apart is free = absurd (true≢false apart)
  free_after false y x apart is free = ap (λ o. holder_in o) is ∙ free

  -- what is open was so
  opens_before : (j : ℕ) → Opens' j → Opens j
  opens_before j o = record { is_committed = o.is_committed; is_unacked = o.is_unacked; is_free = free_before (nat_eq j i) _ (map.get s.deliveries j) (get_inserted s.deliveries i (sent_to other (map.get s.deliveries i)) j) o.is_free }

  not_same : (j : ℕ) → j ≢ i → nat_eq j i ≡ false
  not_same j apart = ne_eqb j i apart

  -- all but the position that is sent stay so
  opens_after : (j : ℕ) → j ≢ i → Opens j → Opens' j
  opens_after j apart o = record { is_committed = o.is_committed; is_unacked = o.is_unacked; is_free = free_after (nat_eq j i) _ (map.get s.deliveries j) (not_same j apart) (get_inserted s.deliveries i (sent_to other (map.get s.deliveries i)) j) o.is_free }

  module _ (slots : List ℕ) where
    -- the least one now, or the one that is sent, was the least
    least_at : (ranges : List SlotRange) (j : ℕ) (b : Bool) → in_ranges ranges (slice_index slots i) ≡ b → i < j → Opens i → IsLeastIn ranges slots Opens' j → (k : ℕ) × IsLeastIn ranges slots Opens k
    least_at ranges j true lies low may h =
        (i, ((may, lies), λ x p. ⊎_elim (λ (below : x < i). let late = h.1 x (opens_after x (λ same. omega (arith, same, below)) p.0, p.1) in omega (arith, late, below, low)) (λ past. past) (cases_lt x i)))
    least_at ranges j false lies low may h = (
      j,
      (
        (opens_before j h.0.0, h.0.1),
        λ x p. ⊎_elim (λ (same : x ≡ i). absurd (true≢false (sym (subst (λ n. in_ranges ranges (slice_index slots n) ≡ true) same p.1) ∙ lies))) (λ apart. h.1 x (opens_after x apart p.0, p.1)) (cases_eq x i),
      ),
    )

    least_before : (ranges : List SlotRange) (j : ℕ) → Opens i → IsLeastIn ranges slots Opens' j → (k : ℕ) × IsLeastIn ranges slots Opens k
    least_before ranges j may h =
        ⊎_elim (λ (low : i < j). least_at ranges j (in_ranges ranges (slice_index slots i)) refl low may h)
        (λ (past : j ≤ i). (j, ((opens_before j h.0.0, h.0.1), λ x p. ⊎_elim (λ (same : x ≡ i). omega (arith, same, past)) (λ apart. h.1 x (opens_after x apart p.0, p.1)) (cases_eq x i))))
        (cases_lt i j)

    some_before : (o : Option Seat) (j : ℕ) → Opens i → IsSomeAnd o (λ seat. IsLeastIn seat.ranges slots Opens' j) → (k : ℕ) × IsSomeAnd o (λ seat. IsLeastIn seat.ranges slots Opens k)
    some_before None j may h = absurd h
    some_before (Some seat) j may h = least_before seat.ranges j may h

    some_opens : (o : Option Seat) → IsSomeAnd o (λ seat. IsLeastIn seat.ranges slots Opens i) → Opens i
    some_opens None h = absurd h
    some_opens (Some seat) h = h.0.0

-- ---- one subscription

first_same : (n : ℕ) (other key : ConsumerKey) (cs : List Consumer) → is_first key (first_changed (is_consumer other) (sent_more n) cs) ≡ is_first key cs
first_same n other key [] = refl
first_same n other key (c ∷ cs) = elim (is_consumer other c) as (λ b. is_first key (cond b (sent_more n c ∷ cs) (c ∷ first_changed (is_consumer other) (sent_more n) cs)) ≡ is_first key (c ∷ cs)) [
  | true ↦ refl
  | false ↦ refl
]

permit_first : (n : ℕ) (b : Bool) (c : Consumer) (o : Option Consumer) → has_permit (cond b (Some (sent_more n c)) o) ≡ true → has_permit (cond b (Some c) o) ≡ true
permit_first n true c o h = lt-ltb c.sent c.granted (let low = ltb-true (c.sent + n) c.granted h in omega (arith, low))
permit_first n false c o h = h

permit_rest : (b : Bool) (c : Consumer) (o o' : Option Consumer) → (has_permit o' ≡ true → has_permit o ≡ true) → has_permit (cond b (Some c) o') ≡ true → has_permit (cond b (Some c) o) ≡ true
permit_rest true c o o' to h = h
permit_rest false c o o' to h = to h

-- a permit now was one before
permit_before : (n : ℕ) (other key : ConsumerKey) (cs : List Consumer) → has_permit (find (is_consumer key) (first_changed (is_consumer other) (sent_more n) cs)) ≡ true → has_permit (find (is_consumer key) cs) ≡ true
permit_before n other key [] h = h
permit_before n other key (c ∷ cs) h =
    elim (is_consumer other c) as (λ b. has_permit (find (is_consumer key) (cond b (sent_more n c ∷ cs) (c ∷ first_changed (is_consumer other) (sent_more n) cs))) ≡ true → has_permit (find (is_consumer key) (c ∷ cs)) ≡ true) [
      | true ↦ λ h. permit_first n (is_consumer key c) c (find (is_consumer key) cs) h
      | false ↦ λ h. permit_rest (is_consumer key c) c (find (is_consumer key) cs) (find (is_consumer key) (first_changed (is_consumer other) (sent_more n) cs)) (permit_before n other key cs) h
    ] h

-- whoever may get a position now might have got one before
served_before : (mode : Mode) (s : Subscription) (n : ℕ) (other key : ConsumerKey) (slots : List ℕ) (committed i j : ℕ) → AdmitsBy mode other s slots (IsOpenAt committed s.acked s.deliveries) i →
    AdmitsBy mode key (sent_on other n i s) slots (IsOpenAt committed s.acked (sent_on other n i s).deliveries) j → (k : ℕ) × AdmitsBy mode key s slots (IsOpenAt committed s.acked s.deliveries) k
served_before Exclusive s n other key slots committed i j may h = (i, may)
served_before Failover s n other key slots committed i j may h = (i, (sym (first_same n other key s.consumers) ∙ h.0, may.1))
served_before Shared s n other key slots committed i j may h = (j, opens_before committed s other i j h)
served_before KeyShared s n other key slots committed i j may h =
    some_before committed s other i slots (seat_of key s.seats) j (some_opens committed s other i slots (seat_of other s.seats) may) h

-- ---- all subscriptions

module _ (n : ℕ) (other key : ConsumerKey) (slots : List ℕ) (committed i : ℕ) where
  abbrev None_at : Option Subscription → Type 0
  None_at o = (j : ℕ) → AdmitsAt o key slots committed j → ⊥

  none_on : (s : Subscription) → AdmitsOn s other slots committed i → None_at (Some s) → None_at (Some (sent_on other n i s))
  none_on s may none = λ j h.
      let k = served_before s.mode s n other key slots committed i j may.served h.served in
      none k.0 (record { permit = permit_before n other key s.consumers h.permit; served = k.1 })

  none_first : (b : Bool) (s : Subscription) (o : Option Subscription) → AdmitsOn s other slots committed i → None_at (cond b (Some s) o) → None_at (cond b (Some (sent_on other n i s)) o)
  none_first true s o may none = none_on s may none
  none_first false s o may none = none

  none_rest : (b : Bool) (s : Subscription) (o o' : Option Subscription) → (None_at o → None_at o') → None_at (cond b (Some s) o) → None_at (cond b (Some s) o')
  none_rest true s o o' to none = none
  none_rest false s o o' to none = to none

  on_same : (s : Subscription) → is_on key (sent_on other n i s) ≡ is_on key s
  on_same s = any_changed (is_consumer other) (sent_more n) (is_consumer key) (λ _. refl) s.consumers

  none_among : (subs : List Subscription) → AdmitsAt (find (is_on other) subs) other slots committed i → None_at (find (is_on key) subs) → None_at (find (is_on key) (first_changed (is_on other) (sent_on other n i) subs))
  none_among [] may none = none
  none_among (s ∷ subs) may none =
      elim (is_on other s) as (λ b. AdmitsAt (cond b (Some s) (find (is_on other) subs)) other slots committed i → None_at (find (is_on key) (cond b (sent_on other n i s ∷ subs) (s ∷ first_changed (is_on other) (sent_on other n i) subs)))) [
        | true ↦ λ may. subst (λ (b : Bool). None_at (cond b (Some (sent_on other n i s)) (find (is_on key) subs))) (sym (on_same s)) (none_first (is_on key s) s (find (is_on key) subs) may none)
        | false ↦ λ may. none_rest (is_on key s) s (find (is_on key) subs) (find (is_on key) (first_changed (is_on other) (sent_on other n i) subs)) (none_among subs may) none
      ] may

pub none_sent : (t : Subscriptions) (other key : ConsumerKey) (committed i : ℕ) → Admits t other committed i → ((j : ℕ) → Admits t key committed j → ⊥) → (j : ℕ) → Admits (sent t other i) key committed j → ⊥
none_sent t other key committed i may none = none_among (slice_index t.messages i) other key t.slots committed i t.subs may none
