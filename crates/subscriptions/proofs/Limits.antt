-- Each step keeps the limits of a topic's subscriptions, and each of them sound.
use Rattle.std.proofs.Common.{◌≡◌, ℕ, ◌+◌, ◌<◌, ◌≤◌, Bool, false, true, nat_eq, nat_lt, nat_le, cond, ◌||◌, List, [], ◌∷◌, ◌++◌, length, ◌∙◌, ap, sym, subst, refl, arith, Some, None, Option, length-append, length-drop}
use Rattle.std.proofs.lemmas.Bool.Decides.{nat_tests}
use Rattle.std.proofs.lemmas.Map.Keys.{IsDistinct-push, IsDistinct-head, IsDistinct-tail, IsDistinct-cons}
use Rattle.std.specs.List.{list_any, find, AllByRecursion, IsDistinct}
use Rattle.std.specs.Cmp.Lexicographic.{nat_list_eq_equiv}
use Rattle.std.specs.Str.{bytes_eq}
use Rattle.std.specs.Prelude.{map as each, slice_index}
use Rattle.std.specs.Option.{option_map}
use Rattle.std.specs.Ordering.{nat_cmp}
use Rattle.std.specs.FinMap as map
use Rattle.holds.specs.Backlog.{IsOpenAt}
use Rattle.holds.specs.Deliveries.{sent_to, given_back}
use Rattle.holds.specs.declared.consumer.ConsumerKey.{ConsumerKey}
use Rattle.holds.specs.declared.consumer.Consumer.{Consumer as Seat}
use Rattle.holds.specs.declared.delivery.Delivery.{Delivery}
use Rattle.holds.proofs.Kept.{get_inserted}
use Rattle.subscriptions.specs.declared.consumer.Mode.{Mode}
use Rattle.subscriptions.specs.declared.consumer.Refusal.{Refusal}
use Rattle.records.specs.declared.record.Record.{Record}
use Rattle.records.specs.declared.record.Record.TheVariants.{Acknowledged}
use Rattle.subscriptions.specs.State.{Subscription, Subscriptions}
use Rattle.subscriptions.specs.Steps.{first_changed, first_standing, is_named, is_on, refuses_ranges, refusals_at, making_refusals, attach_refusals, attached_to, attached_at, made, granted_on, grants_too_many, is_past_on, learnt_on, HasLearntOn, acknowledged, acknowledgements, acked_on, acknowledged_through, acknowledgement_through, acked_through_on, first_removed, is_shared, unsubscribe_refusals, unsubscribed, removal, Admits, AdmitsAt, AdmitsOn, sent_on, left, left_on, freed, detached_on, is_asked_back, redelivered_on, settled, marked, forgotten}
use Rattle.subscriptions.specs.Soundness.{IsSoundSubscription, HasLimits, IsSound, IsCommittedOn, IsCommitted}
use Rattle.subscriptions.specs.Laws.{StaysSound, DeliveriesAreCommitted, PickedIsOpen, IsOpenFor}
use Rattle.subscriptions.proofs.Looking.{zip_all, limits_looked, sound_looked}
use Rattle.subscriptions.proofs.Sound.{length_changed, all_changed, all_pushed, any_found, three_rows, sound_attached, sound_first, sound_granted, sound_learnt, sound_acked, sound_acked_through, sound_sent, sound_left, get_freed, opens_of, sound_detached, sound_redelivered}
use Rattle.subscriptions.proofs.Counts.{few_at, counts_joined, counts_forgotten}
use Rattle.subscriptions.proofs.Each.{none_changed}
use Rattle.subscriptions.proofs.Kept.{names, turned}
use Rattle.subscriptions.proofs.Durable.{opened_sound, opened_committed}
use Rattle.subscriptions.proofs.Settled.{is_in, get_forgotten, get_forgotten_below}
use Rattle.subscriptions.proofs.Places.{all_removed, length_fewer}
use Rattle.permits.specs.Ends.{Word}

pub names_changed : (test : Subscription → Bool) (f : Subscription → Subscription) → ((s : Subscription) → (f s).name ≡ s.name) → (subs : List Subscription) → names (first_changed test f subs) ≡ names subs
names_changed test f same [] = refl
names_changed test f same (x ∷ xs) = elim (test x) as (λ b. names (cond b (f x ∷ xs) (x ∷ first_changed test f xs)) ≡ names (x ∷ xs)) [
  | true ↦ ap (λ n. n ∷ names xs) (same x)
  | false ↦ ap (λ ns. x.name ∷ ns) (names_changed test f same xs)
]

pub names_each : (f : Subscription → Subscription) → ((s : Subscription) → (f s).name ≡ s.name) → (subs : List Subscription) → names (each (λ s. f s) subs) ≡ names subs
names_each f same [] = refl
names_each f same (x ∷ xs) = ap (λ n. n ∷ names (each (λ s. f s) xs)) (same x) ∙ ap (λ ns. x.name ∷ ns) (names_each f same xs)

-- the limits, where one subscription changes and keeps its name
pub limits_changed : (t : Subscriptions) (test : Subscription → Bool) (f : Subscription → Subscription) → ((s : Subscription) → (f s).name ≡ s.name) → HasLimits t → HasLimits (record t { subs = first_changed test f t.subs })
limits_changed t test f same l = record {
  names = subst (IsDistinct bytes_eq) (sym (names_changed test f same t.subs)) l.names;
  subscriptions = rw length_changed l.subscriptions;
  changes = l.changes;
}

length_each : (f : Subscription → Subscription) (subs : List Subscription) → length (each (λ s. f s) subs) ≡ length subs
length_each f [] = refl
length_each f (x ∷ xs) = omega (arith, length_each f xs)

pub limits_left : (t : Subscriptions) (who : ℕ) → HasLimits t → HasLimits (left t who)
limits_left t who l = record {
  names = subst (IsDistinct bytes_eq) (sym (names_each (left_on who) (λ _. refl) t.subs)) l.names;
  subscriptions = omega (arith, length_each (left_on who) t.subs, l.subscriptions);
  changes = l.changes;
}

pub limits_settled : (t : Subscriptions) (count : ℕ) → HasLimits t → HasLimits (settled t count)
limits_settled t count l = record { names = l.names; subscriptions = l.subscriptions; changes = omega (arith, length-drop count t.changes, l.changes) }

pub limits_marked : (t : Subscriptions) (slots messages : List ℕ) → HasLimits t → HasLimits (marked t slots messages)
limits_marked t slots messages l = record { names = l.names; subscriptions = l.subscriptions; changes = l.changes }

pub limits_forgotten : (t : Subscriptions) (position : ℕ) → HasLimits t → HasLimits (forgotten t position)
limits_forgotten t position l = record { names = l.names; subscriptions = l.subscriptions; changes = l.changes }

two_rows : (a b : Bool) (x y : Refusal) → cond a (Some x) (cond b (Some y) None) ≡ None → (a ≡ false) × (b ≡ false)
two_rows true b x y h = absurd (cc)
two_rows false true x y h = absurd (cc)
two_rows false false x y h = (refl, refl)

below_64 : (n : ℕ) → nat_le 64 n ≡ false → n + 1 ≤ 64
below_64 n h = grind (arith, nat_tests)

below_65536 : (n : ℕ) → nat_le 65536 n ≡ false → n + 1 ≤ 65536
below_65536 n h = grind (arith, nat_tests)

making_rows : (t : Subscriptions) (mode : Mode) (seat : Seat) (word : Word) → first_standing (making_refusals mode seat.ranges t) ≡ None
    → (nat_le 64 (length t.subs) ≡ false) × (refuses_ranges mode [] seat.ranges ≡ false) × (nat_le 65536 (length t.changes) ≡ false)
making_rows t mode seat word allowed = three_rows (nat_le 64 (length t.subs)) (refuses_ranges mode [] seat.ranges) (nat_le 65536 (length t.changes)) _ _ _ allowed

no_such_name : (name : List ℕ) (subs : List Subscription) → find (is_named name) subs ≡ None → list_any (bytes_eq name) (names subs) ≡ false
no_such_name name [] none = refl
no_such_name name (x ∷ xs) none = elim (bytes_eq x.name name) as (λ b. bytes_eq x.name name ≡ b → cond b (Some x) (find (is_named name) xs) ≡ None → (bytes_eq name x.name || list_any (bytes_eq name) (names xs)) ≡ false) [
  | true ↦ λ here none. absurd (cc)
  | false ↦ λ here none. ap (λ b. b || list_any (bytes_eq name) (names xs)) (turned name x.name ∙ here) ∙ no_such_name name xs none
] refl none

names_pushed : (subs : List Subscription) (s : Subscription) → names (subs ++ s ∷ []) ≡ names subs ++ s.name ∷ []
names_pushed [] s = refl
names_pushed (x ∷ xs) s = ap (λ ns. x.name ∷ ns) (names_pushed xs s)

pub limits_made : (t : Subscriptions) (name : List ℕ) (mode : Mode) (seat : Seat) (word : Word) (start : ℕ) → find (is_named name) t.subs ≡ None → first_standing (making_refusals mode seat.ranges t) ≡ None
    → HasLimits t → HasLimits (attached_at None t name mode seat word start)
limits_made t name mode seat word start none allowed l =
    let rows = making_rows t mode seat word allowed in record {
      names = subst (IsDistinct bytes_eq) (sym (names_pushed t.subs (attached_to mode seat word (made name mode start)))) (IsDistinct-push nat_list_eq_equiv (names t.subs) name l.names (no_such_name name t.subs none));
      subscriptions = rw length-append (below_64 (length t.subs) rows.0);
      changes = rw length-append (below_65536 (length t.changes) rows.2);
    }

length_made : (name : List ℕ) (ps : List ℕ) → length (each (λ p. Acknowledged name p) ps) ≡ length ps
length_made name [] = refl
length_made name (p ∷ ps) = omega (arith, length_made name ps)

length_acks : (o : Option Subscription) (ps : List ℕ) → length (acknowledgements o ps) ≤ length ps
length_acks None ps = omega arith
length_acks (Some s) ps = omega (arith, length_made s.name ps)

pub limits_acknowledged : (t : Subscriptions) (key : ConsumerKey) (ps : List ℕ) → length t.changes + length ps ≤ 65536 → HasLimits t → HasLimits (acknowledged t key ps)
limits_acknowledged t key ps room l = record {
  names = subst (IsDistinct bytes_eq) (sym (names_changed (is_on key) (acked_on ps) (λ _. refl) t.subs)) l.names;
  subscriptions = rw length_changed l.subscriptions;
  changes = rw length-append (omega (arith, length_acks (find (is_on key) t.subs) ps));
}

length_through : (o : Option Subscription) (p : ℕ) → length (acknowledgement_through o p) ≤ 1
length_through None p = omega arith
length_through (Some s) p = omega arith

pub limits_through : (t : Subscriptions) (key : ConsumerKey) (p : ℕ) → length t.changes + 1 ≤ 65536 → HasLimits t → HasLimits (acknowledged_through t key p)
limits_through t key p room l = record {
  names = subst (IsDistinct bytes_eq) (sym (names_changed (is_on key) (acked_through_on p) (λ _. refl) t.subs)) l.names;
  subscriptions = rw length_changed l.subscriptions;
  changes = rw length-append (omega (arith, length_through (find (is_on key) t.subs) p));
}

apart_removed : (n : List ℕ) (test : Subscription → Bool) (subs : List Subscription) → AllByRecursion (λ y. bytes_eq n y ≡ false) (names subs) → AllByRecursion (λ y. bytes_eq n y ≡ false) (names (first_removed test subs))
apart_removed n test [] apart = tt
apart_removed n test (x ∷ xs) apart = elim (test x) as (λ b. AllByRecursion (λ y. bytes_eq n y ≡ false) (names (cond b xs (x ∷ first_removed test xs)))) [
  | true ↦ apart.1
  | false ↦ (apart.0, apart_removed n test xs apart.1)
]

distinct_removed : (test : Subscription → Bool) (subs : List Subscription) → IsDistinct bytes_eq (names subs) → IsDistinct bytes_eq (names (first_removed test subs))
distinct_removed test [] d = d
distinct_removed test (x ∷ xs) d = elim (test x) as (λ b. IsDistinct bytes_eq (names (cond b xs (x ∷ first_removed test xs)))) [
  | true ↦ IsDistinct-tail bytes_eq x.name (names xs) d
  | false ↦ IsDistinct-cons bytes_eq x.name (names (first_removed test xs)) (apart_removed x.name test xs (IsDistinct-head bytes_eq x.name (names xs) d))
      (distinct_removed test xs (IsDistinct-tail bytes_eq x.name (names xs) d))
]

length_removal : (o : Option Subscription) → length (removal o) ≤ 1
length_removal None = omega arith
length_removal (Some s) = omega arith

pub limits_unsubscribed : (t : Subscriptions) (key : ConsumerKey) → first_standing (unsubscribe_refusals t key) ≡ None → HasLimits t → HasLimits (unsubscribed t key)
limits_unsubscribed t key allowed l =
    let rows = two_rows (is_shared (find (is_on key) t.subs)) (nat_le 65536 (length t.changes)) _ _ allowed in record {
      names = distinct_removed (is_on key) t.subs l.names;
      subscriptions = omega (arith, l.subscriptions, length_fewer (is_on key) t.subs);
      changes = rw length-append (omega (arith, length_removal (find (is_on key) t.subs), below_65536 (length t.changes) rows.1));
    }

all_each : (f : Subscription → Subscription) → ((s : Subscription) → IsSoundSubscription s → IsSoundSubscription (f s)) → (subs : List Subscription) → AllByRecursion IsSoundSubscription subs → AllByRecursion IsSoundSubscription (each (λ s. f s) subs)
all_each f to [] all = tt
all_each f to (x ∷ xs) all = (to x all.0, all_each f to xs all.1)

sound_attach : (t : Subscriptions) (name : List ℕ) (mode : Mode) (seat : Seat) (word : Word) (start : ℕ) (o : Option Subscription) → find (is_named name) t.subs ≡ o → first_standing (refusals_at o t mode seat.ranges) ≡ None → IsSound t → IsSound (attached_at o t name mode seat word start)
sound_attach t name mode seat word start None none allowed sound = record {
  limits = limits_made t name mode seat word start none allowed sound.limits;
  each_one = all_pushed IsSoundSubscription t.subs (attached_to mode seat word (made name mode start)) sound.each_one
      (sound_first name mode seat word start (making_rows t mode seat word allowed).1);
  messages = sound.messages;
}
sound_attach t name mode seat word start (Some s) found allowed sound = record {
  limits = limits_changed t (is_named name) (attached_to mode seat word) (λ _. refl) sound.limits;
  each_one = all_changed (is_named name) (attached_to mode seat word) IsSoundSubscription t.subs
      (λ x is ok. sound_attached mode seat word x (let same : x ≡ s = cc in ap (λ (y : Subscription). first_standing (attach_refusals mode seat.ranges y)) same ∙ allowed) ok) sound.each_one;
  messages = sound.messages;
}

granted_at : (key : ConsumerKey) (permits : ℕ) (t : Subscriptions) (x : Subscription) → find (is_on key) t.subs ≡ Some x → grants_too_many t key permits ≡ false → is_past_on key permits (Some x) ≡ false
granted_at key permits t x is h = ap (is_past_on key permits) (sym is) ∙ h

admitted_at : (key : ConsumerKey) (committed i : ℕ) (t : Subscriptions) (x : Subscription) → find (is_on key) t.subs ≡ Some x → Admits t key committed i → AdmitsOn x key t.slots committed i
admitted_at key committed i t x is a = subst (λ (o : Option Subscription). AdmitsAt o key t.slots committed i) is a

-- what a mode lets a consumer get is open
open_for : (key : ConsumerKey) (slots : List ℕ) (committed i : ℕ) (s : Subscription) → AdmitsOn s key slots committed i → IsOpenAt committed s.acked s.deliveries i
open_for key slots committed i s a = opens_of s.mode key s slots (IsOpenAt committed s.acked s.deliveries) i a.served

sent_sound : (key : ConsumerKey) (slots : List ℕ) (committed n i : ℕ) (s : Subscription) → n ≤ 1048576 → AdmitsOn s key slots committed i → IsSoundSubscription s → IsSoundSubscription (sent_on key n i s)
sent_sound key slots committed n i s few a sound = sound_sent key committed n i s few a.permit (open_for key slots committed i s a) sound

no_names : IsDistinct bytes_eq []
unfolding IsDistinct
no_names = tt

pub each_sound : StaysSound
each_sound = record {
  opened = opened_sound;
  made = record { limits = record { names = no_names; subscriptions = omega arith; changes = omega arith }; each_one = tt; messages = tt };
  attach = λ t name mode seat word start allowed sound. sound_attach t name mode seat word start (find (is_named name) t.subs) refl allowed sound;
  grant = λ t key permits within sound. record {
    limits = limits_changed t (is_on key) (granted_on key permits) (λ _. refl) sound.limits;
    each_one = all_changed (is_on key) (granted_on key permits) IsSoundSubscription t.subs (λ x is ok. sound_granted key permits x (granted_at key permits t x is within) ok) sound.each_one;
    messages = sound.messages;
  };
  learn = λ t key n within sound. record {
    limits = limits_changed t (is_on key) (learnt_on key n) (λ _. refl) sound.limits;
    each_one = all_changed (is_on key) (learnt_on key n) IsSoundSubscription t.subs (λ x is ok. sound_learnt key n x (within (any_found (is_on key) t.subs x is)) ok) sound.each_one;
    messages = sound.messages;
  };
  look = λ t new who h sound. subst IsSound (sym h.same) (record {
    limits = limits_looked who t new.subs h.subs sound.limits;
    each_one = zip_all (HasLearntOn who) IsSoundSubscription IsSoundSubscription (sound_looked who) t.subs new.subs h.subs sound.each_one;
    messages = sound.messages;
  });
  acknowledge = λ t key ps room sound. record {
    limits = limits_acknowledged t key ps room sound.limits;
    each_one = all_changed (is_on key) (acked_on ps) IsSoundSubscription t.subs (λ x is ok. sound_acked ps x ok) sound.each_one;
    messages = sound.messages;
  };
  acknowledge_through = λ t key p room sound. record {
    limits = limits_through t key p room sound.limits;
    each_one = all_changed (is_on key) (acked_through_on p) IsSoundSubscription t.subs (λ x is ok. sound_acked_through p x ok) sound.each_one;
    messages = sound.messages;
  };
  unsubscribe = λ t key allowed sound. record {
    limits = limits_unsubscribed t key allowed sound.limits;
    each_one = all_removed (is_on key) IsSoundSubscription t.subs sound.each_one;
    messages = sound.messages;
  };
  send = λ t key committed i a sound. record {
    limits = limits_changed t (is_on key) (sent_on key (slice_index t.messages i) i) (λ _. refl) sound.limits;
    each_one = all_changed (is_on key) (sent_on key (slice_index t.messages i) i) IsSoundSubscription t.subs (λ x is ok. sent_sound key t.slots committed (slice_index t.messages i) i x (few_at t.messages i sound.messages) (admitted_at key committed i t x is a) ok) sound.each_one;
    messages = sound.messages;
  };
  leave = λ t who sound. record { limits = limits_left t who sound.limits; each_one = all_each (left_on who) (sound_left who) t.subs sound.each_one; messages = sound.messages };
  detach = λ t key sound. record {
    limits = limits_changed t (is_on key) (detached_on key) (λ _. refl) sound.limits;
    each_one = all_changed (is_on key) (detached_on key) IsSoundSubscription t.subs (λ x is ok. sound_detached key x ok) sound.each_one;
    messages = sound.messages;
  };
  redeliver = λ t key asked sound. record {
    limits = limits_changed t (is_on key) (redelivered_on key asked) (λ _. refl) sound.limits;
    each_one = all_changed (is_on key) (redelivered_on key asked) IsSoundSubscription t.subs (λ x is ok. sound_redelivered key asked x ok) sound.each_one;
    messages = sound.messages;
  };
  settle = λ t count sound. record { limits = limits_settled t count sound.limits; each_one = sound.each_one; messages = sound.messages };
  mark = λ t slots messages counts sound. record { limits = limits_marked t slots messages sound.limits; each_one = sound.each_one; messages = counts_joined t.messages messages sound.messages counts };
  forget = λ t position sound. record { limits = limits_forgotten t position sound.limits; each_one = sound.each_one; messages = counts_forgotten position t.messages sound.messages };
}

-- ---- deliveries are of committed positions

differs : (j i committed : ℕ) → committed ≤ j → i < committed → nat_eq j i ≡ false
differs j i committed h k = grind (arith, nat_tests)

either_none : {X : Type 0} (b : Bool) (x : Option X) → x ≡ None → cond b None x ≡ None
either_none true x h = refl
either_none false x h = h

not_here : {X : Type 0} (b : Bool) (v x : Option X) → b ≡ false → x ≡ None → cond b v x ≡ None
not_here b v x e none = ap (λ c. cond c v x) e ∙ none

committed_sent : (committed n i : ℕ) (key : ConsumerKey) (slots : List ℕ) (s : Subscription) → AdmitsOn s key slots committed i → IsCommittedOn committed s → IsCommittedOn committed (sent_on key n i s)
committed_sent committed n i key slots s a c j h =
    get_inserted s.deliveries i (sent_to key (map.get s.deliveries i)) j
    ∙ not_here (nat_eq j i) (Some (sent_to key (map.get s.deliveries i))) (map.get s.deliveries j) (differs j i committed h (open_for key slots committed i s a).is_committed) (c j h)

committed_acked : (committed : ℕ) (ps : List ℕ) (s : Subscription) → IsCommittedOn committed s → IsCommittedOn committed (acked_on ps s)
committed_acked committed ps s c j h = get_forgotten s.deliveries ps j ∙ either_none (is_in j ps) (map.get s.deliveries j) (c j h)

committed_through : (committed : ℕ) (p : ℕ) (s : Subscription) → IsCommittedOn committed s → IsCommittedOn committed (acked_through_on p s)
committed_through committed p s c j h = get_forgotten_below s.deliveries (p + 1) j ∙ either_none (nat_lt j (p + 1)) (map.get s.deliveries j) (c j h)

committed_left : (committed who : ℕ) (s : Subscription) → IsCommittedOn committed s → IsCommittedOn committed (left_on who s)
committed_left committed who s c j h = get_freed who s.deliveries j ∙ ap (option_map (freed who)) (c j h)

each_left : (committed who : ℕ) (subs : List Subscription) → AllByRecursion (IsCommittedOn committed) subs → AllByRecursion (IsCommittedOn committed) (each (λ s. left_on who s) subs)
each_left committed who [] all = tt
each_left committed who (x ∷ xs) all = (committed_left committed who x all.0, each_left committed who xs all.1)

committed_attach : (committed : ℕ) (t : Subscriptions) (name : List ℕ) (mode : Mode) (seat : Seat) (word : Word) (start : ℕ) (o : Option Subscription) → IsCommitted committed t → IsCommitted committed (attached_at o t name mode seat word start)
committed_attach committed t name mode seat word start None all =
    all_pushed (IsCommittedOn committed) t.subs (attached_to mode seat word (made name mode start)) all (λ i h. map.get-empty {X = Delivery} nat_cmp i)
committed_attach committed t name mode seat word start (Some s) all =
    all_changed (is_named name) (attached_to mode seat word) (IsCommittedOn committed) t.subs (λ x is c. c) all

pub each_committed : DeliveriesAreCommitted
each_committed = record {
  opened = opened_committed;
  made = λ committed. tt;
  attach = λ committed t name mode seat word start all. committed_attach committed t name mode seat word start (find (is_named name) t.subs) all;
  grant = λ committed t key permits all. all_changed (is_on key) (granted_on key permits) (IsCommittedOn committed) t.subs (λ x is c. c) all;
  learn = λ committed t key n all. all_changed (is_on key) (learnt_on key n) (IsCommittedOn committed) t.subs (λ x is c. c) all;
  look = λ committed t new who h all. zip_all (HasLearntOn who) (IsCommittedOn committed) (IsCommittedOn committed) (λ x y on c j low. ap (λ (s : Subscription). map.get s.deliveries j) on.same ∙ c j low) t.subs new.subs h.subs all;
  acknowledge = λ committed t key ps all. all_changed (is_on key) (acked_on ps) (IsCommittedOn committed) t.subs (λ x is c. committed_acked committed ps x c) all;
  acknowledge_through = λ committed t key p all. all_changed (is_on key) (acked_through_on p) (IsCommittedOn committed) t.subs (λ x is c. committed_through committed p x c) all;
  unsubscribe = λ committed t key all. all_removed (is_on key) (IsCommittedOn committed) t.subs all;
  send = λ committed t key i a all. all_changed (is_on key) (sent_on key (slice_index t.messages i) i) (IsCommittedOn committed) t.subs (λ x is c. committed_sent committed (slice_index t.messages i) i key t.slots x (admitted_at key committed i t x is a) c) all;
  leave = λ committed t who all. each_left committed who t.subs all;
  detach = λ committed t key all. all_changed (is_on key) (detached_on key) (IsCommittedOn committed) t.subs (λ x is c j h. none_changed (λ i d. given_back key d) x.deliveries j (c j h)) all;
  redeliver = λ committed t key asked all. all_changed (is_on key) (redelivered_on key asked) (IsCommittedOn committed) t.subs
      (λ x is c j h. none_changed (λ i d. cond (is_asked_back x.mode asked i) (given_back key d) d) x.deliveries j (c j h)) all;
  settle = λ committed t count all. all;
  mark = λ committed t slots messages all. all;
  forget = λ committed t position all. all;
}

picked_at : (o : Option Subscription) (key : ConsumerKey) (slots : List ℕ) (committed i : ℕ) → AdmitsAt o key slots committed i → IsOpenFor o committed i
picked_at None key slots committed i a = a
picked_at (Some s) key slots committed i a = open_for key slots committed i s a

low_at : (o : Option Subscription) (key : ConsumerKey) (slots : List ℕ) (committed i : ℕ) → AdmitsAt o key slots committed i → i < committed
low_at None key slots committed i a = absurd a
low_at (Some s) key slots committed i a = (open_for key slots committed i s a).is_committed

-- who is admitted is to a committed position
pub admitted_low : (t : Subscriptions) (key : ConsumerKey) (committed i : ℕ) → Admits t key committed i → i < committed
admitted_low t key committed i a = low_at (find (is_on key) t.subs) key t.slots committed i a

pub picked : PickedIsOpen
picked t key committed i a = picked_at (find (is_on key) t.subs) key t.slots committed i a

pub limits_none : (subs : List Subscription) (changes : List Record) (slots messages : List ℕ) → subs ≡ [] → changes ≡ [] → HasLimits (record { subs = subs; changes = changes; slots = slots; messages = messages })
limits_none subs changes slots messages first second = rw (first, second) (record { names = no_names; subscriptions = omega arith; changes = omega arith })
