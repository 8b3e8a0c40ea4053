-- Counts of acknowledged positions change no answer.
use Rattle.std.proofs.Common.{◌≡◌, ℕ, ◌+◌, Bool, true, false, not, nat_eq, nat_lt, nat_le, cond, ◌||◌, List, [], ◌∷◌, ◌++◌, length, ◌∙◌, ap, sym, refl, subst, Option, Some, None, arith}
use Rattle.std.proofs.lemmas.Bool.Decides.{nat_tests}
use Rattle.std.proofs.lemmas.List.{map-append, length-map}
use Rattle.std.specs.Prelude.{map as each, slice_index, IsTrue, IsSomeAnd}
use Rattle.std.specs.List.{AllZip, find}
use Rattle.std.specs.Option.{option_map}
use Rattle.std.specs.FinSet as set
use Rattle.std.specs.FinMap as map
use Rattle.cursor.specs.Positions.{Positions, Lacks}
use Rattle.holds.specs.Backlog.{IsOpenAt, IsLeast, in_ranges, attached as seat_of}
use Rattle.holds.specs.Deliveries.{Deliveries, holder_in, times_in, sent_to, given_back}
use Rattle.holds.specs.declared.consumer.ConsumerKey.{ConsumerKey}
use Rattle.holds.specs.declared.consumer.Consumer.{Consumer as Seat}
use Rattle.holds.specs.declared.consumer.SlotRange.{SlotRange}
use Rattle.holds.specs.declared.delivery.Delivery.{Delivery}
use Rattle.holds.proofs.Kept.{get_inserted, get_retained, same_entries}
use Rattle.records.specs.declared.record.Record.{Record}
use Rattle.subscriptions.specs.declared.consumer.Mode.{Mode}
use Rattle.subscriptions.specs.declared.consumer.Mode.TheVariants.{Exclusive, Failover, Shared, KeyShared}
use Rattle.subscriptions.specs.declared.consumer.Refusal.{Refusal}
use Rattle.subscriptions.specs.declared.consumer.Refusal.TheVariants.{ConsumerBusy, TooManyRequests, ConsumerAssignError}
use Rattle.subscriptions.specs.Forgetting.{unacknowledged, forgetting, forgetful, AnswersTheSame, GoesOnTheSame, CountsAreForgotten}
use Rattle.subscriptions.specs.Laws.{IsOpenFor}
use Rattle.subscriptions.specs.State.{Subscription, Subscriptions}
use Rattle.subscriptions.specs.Steps.{first_changed, first_removed, each_delivery, is_on, is_named, refuses_ranges, refusals_at, attached_to, attached_at, granted_on, is_past_on, learnt_on, HasLearntOn, acked_on, acknowledgements, acked_through_on, acknowledgement_through, is_shared, removal, made, is_first, AdmitsBy, AdmitsAt, IsLeastIn, sent_on, times_at, freed, left_on, detached_on, is_asked_back, redelivered_on, settled, marked, forgotten}
use Rattle.subscriptions.proofs.Each.{get_each}
use Rattle.subscriptions.proofs.Limits.{picked}
use Rattle.subscriptions.proofs.Settled.{is_in, has_joined, has_through, get_forgotten, get_forgotten_below}
use Rattle.permits.specs.Ends.{Seen, Word}

-- ---- deliveries

either-left : (a b : Bool) → (a || b) ≡ false → a ≡ false
either-left true b is = is
either-left false b is = refl

same_position : (q k : ℕ) → nat_eq q k ≡ true → q ≡ k
same_position q k is = grind (arith, nat_tests)

get_unacked : (acked : Positions) (d : Deliveries) (q : ℕ) → Lacks acked q → map.get (unacknowledged acked d) q ≡ map.get d q
get_unacked acked d q lacks = get_retained d (λ i. not (set.contains acked i)) q ∙ ap (λ b. cond (not b) (map.get d q) None) lacks

-- deliveries that are the same for each position that isn't acknowledged
same_unacked : (acked : Positions) (d e : Deliveries) → ((q : ℕ) → Lacks acked q → map.get d q ≡ map.get e q) → unacknowledged acked d ≡ unacknowledged acked e
same_unacked acked d e same =
    let of : ℕ → Bool = λ i. not (set.contains acked i) in
    let at : (q : ℕ) → cond (of q) (map.get d q) None ≡ cond (of q) (map.get e q) None = λ q.
    elim (set.contains acked q) as (λ b. set.contains acked q ≡ b → cond (not b) (map.get d q) None ≡ cond (not b) (map.get e q) None) [
      | true ↦ λ is. refl
      | false ↦ λ is. same q is
    ] refl
    in same_entries _ _ (λ q. get_retained d of q ∙ at q ∙ sym (get_retained e of q))

twice : (acked : Positions) (d : Deliveries) → unacknowledged acked (unacknowledged acked d) ≡ unacknowledged acked d
twice acked d = same_unacked acked (unacknowledged acked d) d (λ q lacks. get_unacked acked d q lacks)

each_unacked : (f : ℕ → Delivery → Delivery) (acked : Positions) (d : Deliveries) → unacknowledged acked (each_delivery f (unacknowledged acked d)) ≡ unacknowledged acked (each_delivery f d)
each_unacked f acked d =
    same_unacked acked (each_delivery f (unacknowledged acked d)) (each_delivery f d)
    (λ q lacks. get_each f (unacknowledged acked d) q ∙ ap (option_map (f q)) (get_unacked acked d q lacks) ∙ sym (get_each f d q))

-- ---- what is done to one subscription

forgetting_twice : (s : Subscription) → forgetting (forgetting s) ≡ forgetting s
forgetting_twice s = ap (λ ds. let x : Subscription = record s { deliveries = ds } in x) (twice s.acked s.deliveries)

alike_attached : (mode : Mode) (seat : Seat) (word : Word) (s : Subscription) → forgetting (attached_to mode seat word (forgetting s)) ≡ forgetting (attached_to mode seat word s)
alike_attached mode seat word s = ap (λ ds. let x : Subscription = record (attached_to mode seat word s) { deliveries = ds } in x) (twice s.acked s.deliveries)

alike_granted : (key : ConsumerKey) (permits : ℕ) (s : Subscription) → forgetting (granted_on key permits (forgetting s)) ≡ forgetting (granted_on key permits s)
alike_granted key permits s = ap (λ ds. let x : Subscription = record (granted_on key permits s) { deliveries = ds } in x) (twice s.acked s.deliveries)

alike_learnt : (key : ConsumerKey) (n : Seen) (s : Subscription) → forgetting (learnt_on key n (forgetting s)) ≡ forgetting (learnt_on key n s)
alike_learnt key n s = ap (λ ds. let x : Subscription = record (learnt_on key n s) { deliveries = ds } in x) (twice s.acked s.deliveries)

alike_acked : (positions : List ℕ) (s : Subscription) → forgetting (acked_on positions (forgetting s)) ≡ forgetting (acked_on positions s)
alike_acked positions s =
    let d = s.deliveries in
    let u = unacknowledged s.acked d in
    let now = acked_on positions s in
    let was = acked_on positions (forgetting s) in
    let lacked : (q : ℕ) → Lacks now.acked q → Lacks s.acked q = λ q lacks. either-left _ _ (sym (has_joined s.acked positions q) ∙ lacks) in
    ap (λ ds. let x : Subscription = record now { deliveries = ds } in x)
    (same_unacked now.acked was.deliveries now.deliveries
    (λ q lacks. get_forgotten u positions q ∙ ap (λ o. cond (is_in q positions) None o) (get_unacked s.acked d q (lacked q lacks)) ∙ sym (get_forgotten d positions q)))

alike_acked_through : (position : ℕ) (s : Subscription) → forgetting (acked_through_on position (forgetting s)) ≡ forgetting (acked_through_on position s)
alike_acked_through position s =
    let d = s.deliveries in
    let u = unacknowledged s.acked d in
    let end = position + 1 in
    let now = acked_through_on position s in
    let was = acked_through_on position (forgetting s) in
    let lacked : (q : ℕ) → Lacks now.acked q → Lacks s.acked q = λ q lacks. either-left _ _ (sym (has_through s.acked end q) ∙ lacks) in
    ap (λ ds. let x : Subscription = record now { deliveries = ds } in x)
    (same_unacked now.acked was.deliveries now.deliveries
    (λ q lacks. get_forgotten_below u end q ∙ ap (λ o. cond (nat_lt q end) None o) (get_unacked s.acked d q (lacked q lacks)) ∙ sym (get_forgotten_below d end q)))

alike_sent : (key : ConsumerKey) (n i : ℕ) (s : Subscription) → forgetting (sent_on key n i (forgetting s)) ≡ forgetting (sent_on key n i s)
alike_sent key n i s =
    let d = s.deliveries in
    let u = unacknowledged s.acked d in
    let now = sent_on key n i s in
    let was = sent_on key n i (forgetting s) in
    let at : (q : ℕ) → Lacks s.acked q → cond (nat_eq q i) (Some (sent_to key (map.get u i))) (map.get u q) ≡ cond (nat_eq q i) (Some (sent_to key (map.get d i))) (map.get d q) = λ q lacks.
    elim (nat_eq q i) as (λ b. nat_eq q i ≡ b → cond b (Some (sent_to key (map.get u i))) (map.get u q) ≡ cond b (Some (sent_to key (map.get d i))) (map.get d q)) [
      | true ↦ λ is. ap (λ o. Some (sent_to key o)) (get_unacked s.acked d i (subst (λ (k : ℕ). Lacks s.acked k) (same_position q i is) lacks))
      | false ↦ λ is. get_unacked s.acked d q lacks
    ] refl
    in ap (λ ds. let x : Subscription = record now { deliveries = ds } in x)
    (same_unacked s.acked was.deliveries now.deliveries
    (λ q lacks. get_inserted u i (sent_to key (map.get u i)) q ∙ at q lacks ∙ sym (get_inserted d i (sent_to key (map.get d i)) q)))

alike_left : (who : ℕ) (s : Subscription) → forgetting (left_on who (forgetting s)) ≡ forgetting (left_on who s)
alike_left who s = ap (λ ds. let x : Subscription = record (left_on who s) { deliveries = ds } in x) (each_unacked (λ i d. freed who d) s.acked s.deliveries)

alike_detached : (key : ConsumerKey) (s : Subscription) → forgetting (detached_on key (forgetting s)) ≡ forgetting (detached_on key s)
alike_detached key s = ap (λ ds. let x : Subscription = record (detached_on key s) { deliveries = ds } in x) (each_unacked (λ i d. given_back key d) s.acked s.deliveries)

alike_redelivered : (key : ConsumerKey) (asked : Option (List ℕ)) (s : Subscription) → forgetting (redelivered_on key asked (forgetting s)) ≡ forgetting (redelivered_on key asked s)
alike_redelivered key asked s =
    ap (λ ds. let x : Subscription = record (redelivered_on key asked s) { deliveries = ds } in x)
    (each_unacked (λ i d. cond (is_asked_back s.mode asked i) (given_back key d) d) s.acked s.deliveries)

-- ---- lists of them

abbrev all : List Subscription → List Subscription
all subs = each (λ s. forgetting s) subs

all_twice : (subs : List Subscription) → all (all subs) ≡ all subs
all_twice [] = refl
all_twice (s ∷ subs) = λ i. forgetting_twice s i ∷ all_twice subs i

each_alike : (f : Subscription → Subscription) → ((s : Subscription) → forgetting (f (forgetting s)) ≡ forgetting (f s)) → (subs : List Subscription) → all (each (λ s. f s) (all subs)) ≡ all (each (λ s. f s) subs)
each_alike f alike [] = refl
each_alike f alike (s ∷ subs) = λ i. alike s i ∷ each_alike f alike subs i

module _ (test : Subscription → Bool) (same : (s : Subscription) → test (forgetting s) ≡ test s) where
  changed_alike : (f : Subscription → Subscription) → ((s : Subscription) → forgetting (f (forgetting s)) ≡ forgetting (f s)) → (subs : List Subscription)
      → all (first_changed test f (all subs)) ≡ all (first_changed test f subs)
  changed_alike f alike [] = refl
  changed_alike f alike (s ∷ subs) =
      let later = first_changed test f (all subs) in
      ap (λ b. all (cond b (f (forgetting s) ∷ all subs) (forgetting s ∷ later))) (same s)
      ∙ elim (test s) as (λ b. all (cond b (f (forgetting s) ∷ all subs) (forgetting s ∷ later)) ≡ all (cond b (f s ∷ subs) (s ∷ first_changed test f subs))) [
        | true ↦ (λ i. alike s i ∷ all_twice subs i)
        | false ↦ (λ i. forgetting_twice s i ∷ changed_alike f alike subs i)
      ]

  removed_alike : (subs : List Subscription) → all (first_removed test (all subs)) ≡ all (first_removed test subs)
  removed_alike [] = refl
  removed_alike (s ∷ subs) =
      let later = first_removed test (all subs) in
      ap (λ b. all (cond b (all subs) (forgetting s ∷ later))) (same s)
      ∙ elim (test s) as (λ b. all (cond b (all subs) (forgetting s ∷ later)) ≡ all (cond b subs (s ∷ first_removed test subs))) [
        | true ↦ all_twice subs
        | false ↦ (λ i. forgetting_twice s i ∷ removed_alike subs i)
      ]

  found : (subs : List Subscription) → find test (all subs) ≡ option_map (λ s. forgetting s) (find test subs)
  found [] = refl
  found (s ∷ subs) =
      ap (λ b. cond b (Some (forgetting s)) (find test (all subs))) (same s)
      ∙ elim (test s) as (λ b. cond b (Some (forgetting s)) (find test (all subs)) ≡ option_map (λ s. forgetting s) (cond b (Some s) (find test subs))) [
        | true ↦ refl
        | false ↦ found subs
      ]

found_on : (key : ConsumerKey) (t : Subscriptions) → find (is_on key) (all t.subs) ≡ option_map (λ s. forgetting s) (find (is_on key) t.subs)
found_on key t = found (is_on key) (λ s. refl) t.subs

-- ---- answers

refusals_same : (o : Option Subscription) (t : Subscriptions) (mode : Mode) (ranges : List SlotRange) → refusals_at (option_map (λ s. forgetting s) o) (forgetful t) mode ranges ≡ refusals_at o t mode ranges
refusals_same None t mode ranges =
    let behind : List (Bool × Refusal) = (refuses_ranges mode [] ranges, ConsumerAssignError) ∷ (nat_le 65536 (length t.changes), TooManyRequests) ∷ [] in
    ap (λ (n : ℕ). (nat_le 64 n, TooManyRequests) ∷ behind) (length-map t.subs (λ s. forgetting s))
refusals_same (Some s) t mode ranges = refl

past_same : (o : Option Subscription) (key : ConsumerKey) (permits : ℕ) → is_past_on key permits (option_map (λ s. forgetting s) o) ≡ is_past_on key permits o
past_same None key permits = refl
past_same (Some s) key permits = refl

shared_same : (o : Option Subscription) → is_shared (option_map (λ s. forgetting s) o) ≡ is_shared o
shared_same None = refl
shared_same (Some s) = refl

module _ (P Q : ℕ → Type 0) (to : (i : ℕ) → P i → Q i) (back : (i : ℕ) → Q i → P i) where
  least : (i : ℕ) → IsLeast P i → IsLeast Q i
  least i l = (to i l.0, λ j q. l.1 j (back j q))

least_in : (ranges : List SlotRange) (slots : List ℕ) (P Q : ℕ → Type 0) → ((i : ℕ) → P i → Q i) → ((i : ℕ) → Q i → P i) → (i : ℕ) → IsLeastIn ranges slots P i → IsLeastIn ranges slots Q i
least_in ranges slots P Q to back i l =
    let within : ℕ → Type 0 = λ j. IsTrue (in_ranges ranges (slice_index slots j)) in
    least (λ j. P j × within j) (λ j. Q j × within j) (λ j p. (to j p.0, p.1)) (λ j q. (back j q.0, q.1)) i l

in_some : (o : Option Seat) (slots : List ℕ) (P Q : ℕ → Type 0) → ((i : ℕ) → P i → Q i) → ((i : ℕ) → Q i → P i) → (i : ℕ)
    → IsSomeAnd o (λ seat. IsLeastIn seat.ranges slots P i) → IsSomeAnd o (λ seat. IsLeastIn seat.ranges slots Q i)
in_some None slots P Q to back i h = h
in_some (Some seat) slots P Q to back i h = least_in seat.ranges slots P Q to back i h

admits_by : (mode : Mode) (key : ConsumerKey) (s s' : Subscription) (slots : List ℕ) (P Q : ℕ → Type 0) → ((i : ℕ) → P i → Q i) → ((i : ℕ) → Q i → P i)
    → s'.consumers ≡ s.consumers → s'.seats ≡ s.seats → (i : ℕ) → AdmitsBy mode key s slots P i → AdmitsBy mode key s' slots Q i
admits_by Exclusive key s s' slots P Q to back consumers seats i h = least P Q to back i h
admits_by Failover key s s' slots P Q to back consumers seats i h = (ap (λ cs. is_first key cs) consumers ∙ h.0, least P Q to back i h.1)
admits_by Shared key s s' slots P Q to back consumers seats i h = to i h
admits_by KeyShared key s s' slots P Q to back consumers seats i h =
    subst (λ (ss : List Seat). IsSomeAnd (seat_of key ss) (λ seat. IsLeastIn seat.ranges slots Q i)) (sym seats) (in_some (seat_of key s.seats) slots P Q to back i h)

open_still : (s : Subscription) (committed i : ℕ) → IsOpenAt committed s.acked s.deliveries i → IsOpenAt committed s.acked (unacknowledged s.acked s.deliveries) i
open_still s committed i o = record { is_committed = o.is_committed; is_unacked = o.is_unacked; is_free = ap holder_in (get_unacked s.acked s.deliveries i o.is_unacked) ∙ o.is_free }

open_before : (s : Subscription) (committed i : ℕ) → IsOpenAt committed s.acked (unacknowledged s.acked s.deliveries) i → IsOpenAt committed s.acked s.deliveries i
open_before s committed i o =
    record { is_committed = o.is_committed; is_unacked = o.is_unacked; is_free = ap holder_in (sym (get_unacked s.acked s.deliveries i o.is_unacked)) ∙ o.is_free }

module _ (key : ConsumerKey) (slots : List ℕ) (committed i : ℕ) where
  admits_at : (o : Option Subscription) → AdmitsAt o key slots committed i → AdmitsAt (option_map (λ s. forgetting s) o) key slots committed i
  admits_at None a = a
  admits_at (Some s) a = record { permit = a.permit; served = admits_by s.mode key s (forgetting s) slots _ _ (open_still s committed) (open_before s committed) refl refl i a.served }

  admits_before : (o : Option Subscription) → AdmitsAt (option_map (λ s. forgetting s) o) key slots committed i → AdmitsAt o key slots committed i
  admits_before None a = a
  admits_before (Some s) a = record { permit = a.permit; served = admits_by s.mode key (forgetting s) s slots _ _ (open_before s committed) (open_still s committed) refl refl i a.served }

times_same : (o : Option Subscription) (committed i : ℕ) → IsOpenFor o committed i → times_at (option_map (λ s. forgetting s) o) i ≡ times_at o i
times_same None committed i h = absurd h
times_same (Some s) committed i h = ap times_in (get_unacked s.acked s.deliveries i h.is_unacked)

answers : (t : Subscriptions) → AnswersTheSame t
answers t = record {
  subscribe = λ name mode ranges. ap (λ o. refusals_at o (forgetful t) mode ranges) (found (is_named name) (λ s. refl) t.subs) ∙ refusals_same (find (is_named name) t.subs) t mode ranges;
  grant = λ key permits. ap (is_past_on key permits) (found_on key t) ∙ past_same (find (is_on key) t.subs) key permits;
  unsubscribe = λ key. ap (λ b. (b, ConsumerBusy) ∷ (nat_le 65536 (length t.changes), TooManyRequests) ∷ []) (ap is_shared (found_on key t) ∙ shared_same (find (is_on key) t.subs));
  admits = λ key committed i a. subst (λ (o : Option Subscription). AdmitsAt o key t.slots committed i) (sym (found_on key t)) (admits_at key t.slots committed i (find (is_on key) t.subs) a);
  admits_no_more = λ key committed i a. admits_before key t.slots committed i (find (is_on key) t.subs) (subst (λ (o : Option Subscription). AdmitsAt o key t.slots committed i) (found_on key t) a);
  times = λ key committed i a. ap (λ o. times_at o i) (found_on key t) ∙ times_same (find (is_on key) t.subs) committed i (picked t key committed i a);
}

-- ---- calls

with_subs : (t : Subscriptions) (subs subs' : List Subscription) → subs ≡ subs' → (let x : Subscriptions = record t { subs = subs } in x) ≡ record t { subs = subs' }
with_subs t subs subs' same = ap (λ ss. let x : Subscriptions = record t { subs = ss } in x) same

with_both : (t : Subscriptions) (subs subs' : List Subscription) (changes changes' : List Record) → subs ≡ subs' → changes ≡ changes'
    → (let x : Subscriptions = record t { subs = subs; changes = t.changes ++ changes } in x) ≡ record t { subs = subs'; changes = t.changes ++ changes' }
with_both t subs subs' changes changes' same told = λ i. record t { subs = same i; changes = t.changes ++ told i }

attach_at : (o : Option Subscription) (t : Subscriptions) (name : List ℕ) (mode : Mode) (seat : Seat) (word : Word) (start : ℕ)
    → forgetful (attached_at (option_map (λ s. forgetting s) o) (forgetful t) name mode seat word start) ≡ forgetful (attached_at o t name mode seat word start)
attach_at None t name mode seat word start =
    let new = attached_to mode seat word (made name mode start) ∷ [] in
    ap (λ ss. let x : Subscriptions = record (attached_at None t name mode seat word start) { subs = ss } in x)
    (map-append (λ s. forgetting s) (all t.subs) new ∙ ap (λ ss. ss ++ all new) (all_twice t.subs) ∙ sym (map-append (λ s. forgetting s) t.subs new))
attach_at (Some s) t name mode seat word start = with_subs t _ _ (changed_alike (is_named name) (λ s. refl) (attached_to mode seat word) (λ s. alike_attached mode seat word s) t.subs)

looked : (who : ℕ) (xs ys : List Subscription) → AllZip (HasLearntOn who) xs ys → AllZip (HasLearntOn who) (all xs) (all ys)
looked who [] [] h = tt
looked who [] (y ∷ ys) h = absurd h
looked who (x ∷ xs) [] h = absurd h
looked who (x ∷ xs) (y ∷ ys) h = (record { consumers = h.0.consumers; same = ap (λ s. forgetting s) h.0.same }, looked who xs ys h.1)

acks_same : (o : Option Subscription) (positions : List ℕ) → acknowledgements (option_map (λ s. forgetting s) o) positions ≡ acknowledgements o positions
acks_same None positions = refl
acks_same (Some s) positions = refl

through_same : (o : Option Subscription) (position : ℕ) → acknowledgement_through (option_map (λ s. forgetting s) o) position ≡ acknowledgement_through o position
through_same None position = refl
through_same (Some s) position = refl

removal_same : (o : Option Subscription) → removal (option_map (λ s. forgetting s) o) ≡ removal o
removal_same None = refl
removal_same (Some s) = refl

goes_on : (t : Subscriptions) → GoesOnTheSame t
goes_on t =
    let on : (key : ConsumerKey) (f : Subscription → Subscription) → ((s : Subscription) → forgetting (f (forgetting s)) ≡ forgetting (f s)) → all (first_changed (is_on key) f (all t.subs)) ≡ all (first_changed (is_on key) f t.subs)
    = λ key f alike. changed_alike (is_on key) (λ s. refl) f alike t.subs in
    record {
      attach = λ name mode seat word start. ap (λ o. forgetful (attached_at o (forgetful t) name mode seat word start)) (found (is_named name) (λ s. refl) t.subs) ∙ attach_at (find (is_named name) t.subs) t name mode seat word start;
      grant = λ key permits. with_subs t _ _ (on key (granted_on key permits) (λ s. alike_granted key permits s));
      learn = λ key n. with_subs t _ _ (on key (learnt_on key n) (λ s. alike_learnt key n s));
      look = λ who new h. record { subs = looked who t.subs new.subs h.subs; same = ap (λ x. forgetful x) h.same };
      acknowledge = λ key positions.
          with_both t _ _ _ _ (on key (acked_on positions) (λ s. alike_acked positions s)) (ap (λ o. acknowledgements o positions) (found_on key t) ∙ acks_same (find (is_on key) t.subs) positions);
      acknowledge_through = λ key position.
          with_both t _ _ _ _ (on key (acked_through_on position) (λ s. alike_acked_through position s)) (ap (λ o. acknowledgement_through o position) (found_on key t) ∙ through_same (find (is_on key) t.subs) position);
      unsubscribe = λ key. with_both t _ _ _ _ (removed_alike (is_on key) (λ s. refl) t.subs) (ap removal (found_on key t) ∙ removal_same (find (is_on key) t.subs));
      send = λ key i. with_subs t _ _ (on key (sent_on key (slice_index t.messages i) i) (λ s. alike_sent key (slice_index t.messages i) i s));
      leave = λ who. with_subs t _ _ (each_alike (left_on who) (λ s. alike_left who s) t.subs);
      detach = λ key. with_subs t _ _ (on key (detached_on key) (λ s. alike_detached key s));
      redeliver = λ key asked. with_subs t _ _ (on key (redelivered_on key asked) (λ s. alike_redelivered key asked s));
      settle = λ count. with_subs (settled t count) _ _ (all_twice t.subs);
      mark = λ slots messages. with_subs (marked t slots messages) _ _ (all_twice t.subs);
      forget = λ position. with_subs (forgotten t position) _ _ (all_twice t.subs);
    }

pub counts_are_forgotten : CountsAreForgotten
counts_are_forgotten t = (answers t, goes_on t)
