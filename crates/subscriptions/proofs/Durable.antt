-- The subscriptions are what their changes make of the durable ones, after each step, and the changes have their form.
use Rattle.std.proofs.Common.{◌≡◌, ℕ, zero, suc, ◌+◌, ◌-◌, ◌<◌, ◌≤◌, Bool, false, true, nat_le, cond, T, ◌&&◌, List, [], ◌∷◌, ◌++◌, length, take, drop, ◌∙◌, ap, sym, subst, refl, arith, Some, None, Option, length-append}
use Rattle.std.proofs.lemmas.List.Elements.{length_all_zip}
use Rattle.std.proofs.lemmas.Bool.{false≢true}
use Rattle.std.proofs.lemmas.Bool.Decides.{nat_tests}
use Rattle.std.proofs.lemmas.Map.Text.{is_eq-slice_cmp}
use Rattle.std.proofs.lemmas.Map.Keys.{IsDistinct-cons}
use Rattle.std.specs.List.{find, AllByRecursion, IsDistinct}
use Rattle.std.specs.Option.{option_map, is_some}
use Rattle.std.specs.Ordering.{nat_cmp, is_lt, is_eq}
use Rattle.std.specs.declared.cmp.Ordering.TheVariants.{Less, Equal, Greater}
use Rattle.std.specs.Cmp.Lexicographic.{slice_cmp, nat_list_cmp_total}
use Rattle.std.specs.Str.{bytes_eq}
use Rattle.std.specs.FinSet as set
use Rattle.std.specs.FinMap as map
use Rattle.std.specs.FinMap.Entries as entries
use Rattle.std.specs.Prelude.{map as each, slice_index}
use Rattle.cursor.specs.Positions.{Positions, below}
use Rattle.holds.specs.declared.consumer.ConsumerKey.{ConsumerKey}
use Rattle.holds.specs.declared.consumer.Consumer.{Consumer as Seat}
use Rattle.holds.specs.declared.delivery.Delivery.{Delivery}
use Rattle.records.specs.declared.kept_cursor.KeptCursor.{KeptCursor}
use Rattle.records.specs.declared.record.Record.{Record}
use Rattle.records.specs.declared.record.Record.TheVariants.{Made, Removed, Acknowledged, AcknowledgedThrough, AcknowledgedRange}
use Rattle.records.specs.Names.{is_subscription_name}
use Rattle.records.specs.Maps.{Kept}
use Rattle.records.specs.Records.{after, after_all, changed, changed_at, acknowledged as acknowledged_by, IsThere, IsFormed, AreFormed}
use Rattle.subscriptions.specs.declared.consumer.Mode.{Mode}
use Rattle.subscriptions.specs.declared.consumer.Refusal.{Refusal}
use Rattle.subscriptions.specs.State.{Subscription, Subscriptions}
use Rattle.subscriptions.specs.Steps.{opened, opened_one, first_changed, first_standing, is_named, is_on, refusals_at, attached_at, attached_to, made, acked_on, acknowledgements, acked_through_on, acknowledgement_through, first_removed, removal, granted_on, learnt_on, HasLearntOn, sent_on, left_on, settled, detached_on, redelivered_on}
use Rattle.subscriptions.specs.Soundness.{IsSoundSubscription, HasLimits, IsSound, IsCommittedOn, IsCommitted}
use Rattle.subscriptions.specs.Laws.{acked_as, AreDurable, IsKept, AreKept}
use Rattle.subscriptions.proofs.Looking.{zip_found, named_looked, acked_looked}
use Rattle.subscriptions.proofs.Sound.{length_changed, sound_opened}
use Rattle.subscriptions.proofs.Kept.{names, turned, get_insert, after_append, after_parts, after_ack, there_after_ack, same_name, acked_found, acked_spared, acked_each, attached_same, acknowledged_same, through_same, after_through, removed_same}
use Rattle.subscriptions.proofs.Places.{removed-none, none_found, length_removed}
use Rattle.permits.specs.Ends.{Word}

-- ---- durable subscriptions

some-there : (o : Option Positions) (s : Positions) → o ≡ Some s → is_some o ≡ true
some-there o s is = ap (λ x. is_some x) is

-- a name of its form is put in, new or not
durable_insert : (kept : Kept) (n : List ℕ) (s : Positions) → AreDurable kept → is_subscription_name n ≡ true → map.len (map.insert kept n s) ≤ 64 → AreDurable (map.insert kept n s)
durable_insert kept n s durable named few = record {
  few = few;
  named = λ q there. elim (bytes_eq q n) as (λ b. bytes_eq q n ≡ b → is_some (cond b (Some s) (map.get kept q)) ≡ true → is_subscription_name q ≡ true) [
    | true ↦ λ is _. ap is_subscription_name (same_name q n is) ∙ named
    | false ↦ λ is was. durable.named q was
  ] refl (ap (λ o. is_some o) (sym (get_insert kept n s q)) ∙ there);
}

len-there : (kept : Kept) (n : List ℕ) (s : Positions) → IsThere kept n → map.len (map.insert kept n s) ≡ map.len kept
len-there kept n s there = map.len-insert nat_list_cmp_total kept n s ∙ ap (λ b. cond b (map.len kept) (map.len kept + 1)) there

len-new : (kept : Kept) (n : List ℕ) (s : Positions) → map.get kept n ≡ None → map.len (map.insert kept n s) ≡ map.len kept + 1
len-new kept n s none = map.len-insert nat_list_cmp_total kept n s ∙ ap (λ o. cond (is_some o) (map.len kept) (map.len kept + 1)) none

durable_changed : (kept : Kept) (n : List ℕ) (f : Positions → Positions) → AreDurable kept → is_subscription_name n ≡ true → AreDurable (changed kept n f)
durable_changed kept n f durable named = elim (map.get kept n) as (λ o. map.get kept n ≡ o → AreDurable (changed_at o kept n f)) [
  | None ↦ λ none. durable
  | Some s ↦ λ there. durable_insert kept n (f s) durable named (omega (arith, len-there kept n (f s) (some-there _ s there), durable.few))
] refl

fewer : (b : Bool) (n : ℕ) → n ≤ 64 → cond b (n - 1) n ≤ 64
fewer true n h = omega (arith, h)
fewer false n h = h

gone : (b : Bool) (o : Option Positions) → is_some (cond b None o) ≡ true → is_some o ≡ true
gone true o h = absurd (false≢true h)
gone false o h = h

pub durable_after : (e : ℕ) (kept : Kept) (r : Record) → IsFormed e kept r → AreDurable kept → AreDurable (after r kept)
durable_after e kept (Made n start) formed durable = durable_insert kept n (below start) durable formed.name_is (omega (arith, len-new kept n (below start) formed.placed.0.not_there, formed.placed.0.few))
durable_after e kept (Removed n) formed durable = record {
  few = subst (λ k. k ≤ 64) (sym (map.len-remove nat_list_cmp_total kept n)) (fewer (map.contains_key kept n) (map.len kept) durable.few);
  named = λ q there. durable.named q (gone _ _ (ap (λ o. is_some o) (sym (map.get-remove nat_list_cmp_total kept n q)) ∙ there));
}
durable_after e kept (Acknowledged n p) formed durable = durable_changed kept n (acknowledged_by (Acknowledged n p)) durable formed.name_is
durable_after e kept (AcknowledgedThrough n p) formed durable = durable_changed kept n (acknowledged_by (AcknowledgedThrough n p)) durable formed.name_is
durable_after e kept (AcknowledgedRange n a b) formed durable = durable_changed kept n (acknowledged_by (AcknowledgedRange n a b)) durable formed.name_is

pub durable_all : (e : ℕ) (cs : List Record) (kept : Kept) → AreFormed e kept cs → AreDurable kept → AreDurable (after_all cs kept)
durable_all e [] kept formed durable = durable
durable_all e (c ∷ cs) kept formed durable = durable_all e cs (after c kept) formed.1 (durable_after e kept c formed.0 durable)

-- ---- changes of their form

pub formed_append : (e : ℕ) (cs ds : List Record) (kept : Kept) → AreFormed e kept cs → AreFormed e (after_all cs kept) ds → AreFormed e kept (cs ++ ds)
formed_append e [] ds kept first second = second
formed_append e (c ∷ cs) ds kept first second = (first.0, formed_append e cs ds (after c kept) first.1 second)

pub formed_take : (e n : ℕ) (cs : List Record) (kept : Kept) → AreFormed e kept cs → AreFormed e kept (take n cs)
formed_take e zero cs kept formed = tt
formed_take e (suc n) [] kept formed = tt
formed_take e (suc n) (c ∷ cs) kept formed = (formed.0, formed_take e n cs (after c kept) formed.1)

pub formed_drop : (e n : ℕ) (cs : List Record) (kept : Kept) → AreFormed e kept cs → AreFormed e (after_all (take n cs) kept) (drop n cs)
formed_drop e zero cs kept formed = formed
formed_drop e (suc n) [] kept formed = tt
formed_drop e (suc n) (c ∷ cs) kept formed = formed_drop e n cs (after c kept) formed.1

formed_one : (e m : ℕ) (kept : Kept) (r : Record) → e ≤ m → IsFormed e kept r → IsFormed m kept r
formed_one e m kept (Made n start) low f = record { name_is = f.name_is; placed = (f.placed.0, omega (arith, low, f.placed.1)) }
formed_one e m kept (Removed n) low f = record { name_is = f.name_is; placed = f.placed }
formed_one e m kept (Acknowledged n p) low f = record { name_is = f.name_is; placed = (f.placed.0, omega (arith, low, f.placed.1)) }
formed_one e m kept (AcknowledgedThrough n p) low f = record { name_is = f.name_is; placed = (f.placed.0, omega (arith, low, f.placed.1)) }
formed_one e m kept (AcknowledgedRange n a b) low f = record { name_is = f.name_is; placed = (f.placed.0, f.placed.1, omega (arith, low, f.placed.2)) }

-- beside a longer ledger
pub formed_longer : (e m : ℕ) (cs : List Record) (kept : Kept) → e ≤ m → AreFormed e kept cs → AreFormed m kept cs
formed_longer e m [] kept low f = tt
formed_longer e m (c ∷ cs) kept low f = (formed_one e m kept c low f.0, formed_longer e m cs (after c kept) low f.1)

-- the acknowledgements of one subscription that is there
formed_acks : (e : ℕ) (n : List ℕ) (ps : List ℕ) (kept : Kept) (s : Positions) → map.get kept n ≡ Some s → is_subscription_name n ≡ true → AllByRecursion (λ p. p < e) ps → AreFormed e kept (each (λ p. Acknowledged n p) ps)
formed_acks e n [] kept s there named all = tt
formed_acks e n (p ∷ ps) kept s there named all = (
  record { name_is = named; placed = (some-there _ s there, all.0) },
  formed_acks e n ps (after (Acknowledged n p) kept) (set.insert s p) (there_after_ack kept n p s there) named all.1,
)

len_acks : (n : List ℕ) (ps : List ℕ) (kept : Kept) (s : Positions) → map.get kept n ≡ Some s → map.len (after_all (each (λ p. Acknowledged n p) ps) kept) ≡ map.len kept
len_acks n [] kept s there = refl
len_acks n (p ∷ ps) kept s there =
    len_acks n ps (after (Acknowledged n p) kept) (set.insert s p) (there_after_ack kept n p s there)
    ∙ ap (λ m. map.len m) (after_ack kept n p s there)
    ∙ len-there kept n (set.insert s p) (some-there _ s there)

-- ---- the laws

first_row : (b : Bool) (x : Refusal) (o : Option Refusal) → cond b (Some x) o ≡ None → b ≡ false
first_row true x o h = absurd (cc)
first_row false x o h = refl

below_64 : (n : ℕ) → nat_le 64 n ≡ false → n < 64
below_64 n h = grind (arith, nat_tests)

-- a new name
new_name : (e : ℕ) (kept : Kept) (t : Subscriptions) (name : List ℕ) (start : ℕ) → find (is_named name) t.subs ≡ None → nat_le 64 (length t.subs) ≡ false
    → is_subscription_name name ≡ true → start ≤ e → IsKept e kept t → IsFormed e (after_all t.changes kept) (Made name start)
new_name e kept t name start none few named low is = record {
  name_is = named;
  placed = (
    record {
      not_there = is.same name ∙ ap (λ o. option_map (λ (s : Subscription). s.acked) o) none;
      few = subst (λ n. n < 64) (sym is.count) (below_64 (length t.subs) few);
    },
    low,
  );
}

attach_kept : (e : ℕ) (kept : Kept) (t : Subscriptions) (name : List ℕ) (mode : Mode) (seat : Seat) (word : Word) (start : ℕ) (o : Option Subscription) → find (is_named name) t.subs ≡ o
    → first_standing (refusals_at o t mode seat.ranges) ≡ None → is_subscription_name name ≡ true → start ≤ e → IsKept e kept t → IsKept e kept (attached_at o t name mode seat word start)
attach_kept e kept t name mode seat word start None none allowed named low is =
    let new = new_name e kept t name start none (first_row _ _ _ allowed) named low is in
    let all = after_append t.changes (Made name start ∷ []) kept in
    record {
      same = attached_same kept t name mode seat word start None none is.same;
      count = ap (λ m. map.len m) all ∙ len-new (after_all t.changes kept) name (below start) new.placed.0.not_there
          ∙ omega (arith, is.count, length-append t.subs (attached_to mode seat word (made name mode start) ∷ []));
      durable = is.durable;
      formed = formed_append e t.changes (Made name start ∷ []) kept is.formed (new, tt);
    }
attach_kept e kept t name mode seat word start (Some s) found allowed named low is = record {
  same = attached_same kept t name mode seat word start (Some s) found is.same;
  count = is.count ∙ sym (length_changed (is_named name) (attached_to mode seat word) t.subs);
  durable = is.durable;
  formed = is.formed;
}

ack_kept : (e : ℕ) (kept : Kept) (t : Subscriptions) (key : ConsumerKey) (ps : List ℕ) (o : Option Subscription) → find (is_on key) t.subs ≡ o → HasLimits t → AllByRecursion (λ p. p < e) ps → IsKept e kept t
    → (let n : Subscriptions = record t { subs = first_changed (is_on key) (acked_on ps) t.subs; changes = t.changes ++ acknowledgements o ps } in IsKept e kept n)
ack_kept e kept t key ps None none limits all is = record {
  same = acknowledged_same kept t key ps None none limits.names is.same;
  count = ap (λ m. map.len m) (after_append t.changes [] kept) ∙ is.count ∙ sym (length_changed (is_on key) (acked_on ps) t.subs);
  durable = is.durable;
  formed = formed_append e t.changes [] kept is.formed tt;
}
ack_kept e kept t key ps (Some s) found limits all is =
    let there = is.same s.name ∙ acked_found (is_on key) t.subs s limits.names found in
    let named = (durable_all e t.changes kept is.formed is.durable).named s.name (some-there _ s.acked there) in
    record {
      same = acknowledged_same kept t key ps (Some s) found limits.names is.same;
      count = ap (λ m. map.len m) (after_append t.changes (each (λ p. Acknowledged s.name p) ps) kept) ∙ len_acks s.name ps (after_all t.changes kept) s.acked there
          ∙ is.count ∙ sym (length_changed (is_on key) (acked_on ps) t.subs);
      durable = is.durable;
      formed = formed_append e t.changes (each (λ p. Acknowledged s.name p) ps) kept is.formed (formed_acks e s.name ps (after_all t.changes kept) s.acked there named all);
    }

through_kept : (e : ℕ) (kept : Kept) (t : Subscriptions) (key : ConsumerKey) (p : ℕ) (o : Option Subscription) → find (is_on key) t.subs ≡ o → HasLimits t → p < e → IsKept e kept t
    → (let n : Subscriptions = record t { subs = first_changed (is_on key) (acked_through_on p) t.subs; changes = t.changes ++ acknowledgement_through o p } in IsKept e kept n)
through_kept e kept t key p None none limits low is = record {
  same = through_same kept t key p None none limits.names is.same;
  count = ap (λ m. map.len m) (after_append t.changes [] kept) ∙ is.count ∙ sym (length_changed (is_on key) (acked_through_on p) t.subs);
  durable = is.durable;
  formed = formed_append e t.changes [] kept is.formed tt;
}
through_kept e kept t key p (Some s) found limits low is =
    let there = is.same s.name ∙ acked_found (is_on key) t.subs s limits.names found in
    let named = (durable_all e t.changes kept is.formed is.durable).named s.name (some-there _ s.acked there) in
    record {
      same = through_same kept t key p (Some s) found limits.names is.same;
      count = ap (λ m. map.len m) (after_append t.changes (AcknowledgedThrough s.name p ∷ []) kept ∙ after_through (after_all t.changes kept) s.name p s.acked there)
          ∙ len-there (after_all t.changes kept) s.name (set.union s.acked (below (p + 1))) (some-there _ s.acked there)
          ∙ is.count ∙ sym (length_changed (is_on key) (acked_through_on p) t.subs);
      durable = is.durable;
      formed = formed_append e t.changes (AcknowledgedThrough s.name p ∷ []) kept is.formed (record { name_is = named; placed = (some-there _ s.acked there, low) }, tt);
    }

len-gone : (kept : Kept) (n : List ℕ) → IsThere kept n → map.len (map.remove kept n) ≡ map.len kept - 1
len-gone kept n there = map.len-remove nat_list_cmp_total kept n ∙ ap (λ b. cond b (map.len kept - 1) (map.len kept)) there

one_fewer : (n m : ℕ) → m + 1 ≡ n → n - 1 ≡ m
one_fewer n m h = omega (arith, h)

removed_kept : (e : ℕ) (kept : Kept) (t : Subscriptions) (key : ConsumerKey) (o : Option Subscription) → find (is_on key) t.subs ≡ o → HasLimits t → IsKept e kept t
    → (let n : Subscriptions = record t { subs = first_removed (is_on key) t.subs; changes = t.changes ++ removal o } in IsKept e kept n)
removed_kept e kept t key None none limits is = record {
  same = removed_same kept t key None none limits.names is.same;
  count = ap (λ m. map.len m) (after_append t.changes [] kept) ∙ is.count ∙ sym (ap (λ (xs : List Subscription). length xs) (removed-none (is_on key) t.subs (none_found (is_on key) t.subs none)));
  durable = is.durable;
  formed = formed_append e t.changes [] kept is.formed tt;
}
removed_kept e kept t key (Some s) found limits is =
    let there = is.same s.name ∙ acked_found (is_on key) t.subs s limits.names found in
    let named = (durable_all e t.changes kept is.formed is.durable).named s.name (some-there _ s.acked there) in
    record {
      same = removed_same kept t key (Some s) found limits.names is.same;
      count = ap (λ m. map.len m) (after_append t.changes (Removed s.name ∷ []) kept) ∙ len-gone (after_all t.changes kept) s.name (some-there _ s.acked there)
          ∙ ap (λ n. n - 1) is.count ∙ one_fewer (length t.subs) (length (first_removed (is_on key) t.subs)) (length_removed (is_on key) t.subs s found);
      durable = is.durable;
      formed = formed_append e t.changes (Removed s.name ∷ []) kept is.formed (record { name_is = named; placed = some-there _ s.acked there }, tt);
    }

length_each : {X : Type 0} {Y : Type 0} (f : X → Y) (xs : List X) → length (each (λ x. f x) xs) ≡ length xs
length_each f [] = refl
length_each f (x ∷ xs) = omega (arith, length_each f xs)

-- one subscription changes, or each does, and keeps its name and its positions
kept_spared : (e : ℕ) (kept : Kept) (t : Subscriptions) (subs : List Subscription) → ((q : List ℕ) → acked_as q subs ≡ acked_as q t.subs) → length subs ≡ length t.subs
    → IsKept e kept t → IsKept e kept (record t { subs = subs })
kept_spared e kept t subs same count is = record { same = λ q. is.same q ∙ sym (same q); count = is.count ∙ sym count; durable = is.durable; formed = is.formed }

settle_kept : (e : ℕ) (kept : Kept) (t : Subscriptions) (count : ℕ) → IsKept e kept t → IsKept e (after_all (take count t.changes) kept) (settled t count)
settle_kept e kept t count is = record {
  same = λ q. ap (λ m. map.get m q) (after_parts count t.changes kept) ∙ is.same q;
  count = ap (λ m. map.len m) (after_parts count t.changes kept) ∙ is.count;
  durable = durable_all e (take count t.changes) kept (formed_take e count t.changes kept is.formed) is.durable;
  formed = formed_drop e count t.changes kept is.formed;
}

-- ---- what was opened

found_opened : (q : List ℕ) (es : List (List ℕ × Positions)) → entries.find (slice_cmp nat_cmp) q es ≡ acked_as q (each opened_one es)
found_opened q [] = refl
found_opened q (x ∷ es) =
    ap (λ b. cond b (Some x.1) (entries.find (slice_cmp nat_cmp) q es)) (is_eq-slice_cmp q x.0 ∙ turned q x.0)
    ∙ elim (bytes_eq x.0 q) as (λ b. cond b (Some x.1) (entries.find (slice_cmp nat_cmp) q es) ≡ option_map (λ (s : Subscription). s.acked) (cond b (Some (opened_one x)) (find (is_named q) (each opened_one es)))) [
      | true ↦ refl
      | false ↦ found_opened q es
    ]

opened_kept : (e : ℕ) (kept : Kept) → AreDurable kept → IsKept e kept (opened kept)
opened_kept e kept durable = record {
  same = λ q. map.get-entries kept q ∙ found_opened q (map.entries kept);
  count = map.len-entries kept ∙ sym (length_each opened_one (map.entries kept));
  durable = durable;
  formed = tt;
}

both-first : (a b : Bool) → T (a && b) → T a
both-first true b h = tt
both-first false b h = h

both-second : (a b : Bool) → T (a && b) → T b
both-second true b h = h
both-second false b h = absurd h

not-tied : (a b : List ℕ) → T (is_lt (slice_cmp nat_cmp a b)) → bytes_eq a b ≡ false
not-tied a b h = sym (is_eq-slice_cmp a b) ∙ elim (slice_cmp nat_cmp a b) as (λ o. T (is_lt o) → is_eq o ≡ false) [ Less ↦ λ _. refl | Equal ↦ λ h. absurd h | Greater ↦ λ h. absurd h ] h

apart_opened : (a : List ℕ) (es : List (List ℕ × Positions)) → T (entries.below_all (slice_cmp nat_cmp) a es) → AllByRecursion (λ y. bytes_eq a y ≡ false) (names (each opened_one es))
apart_opened a [] h = tt
apart_opened a (x ∷ es) h = (not-tied a x.0 (both-first _ _ h), apart_opened a es (both-second _ _ h))

no_names : IsDistinct bytes_eq []
unfolding IsDistinct
no_names = tt

distinct_sorted : (es : List (List ℕ × Positions)) → T (entries.is_sorted (slice_cmp nat_cmp) es) → IsDistinct bytes_eq (names (each opened_one es))
distinct_sorted [] h = no_names
distinct_sorted (x ∷ es) h = IsDistinct-cons bytes_eq x.0 (names (each opened_one es)) (apart_opened x.0 es (both-first _ _ h)) (distinct_sorted es (both-second _ _ h))

pub distinct_opened : (kept : Kept) → IsDistinct bytes_eq (names (opened kept).subs)
distinct_opened kept = distinct_sorted (map.entries kept) (map.entries_sorted kept)

each_opened : (es : List (List ℕ × Positions)) → AllByRecursion IsSoundSubscription (each opened_one es)
each_opened [] = tt
each_opened (x ∷ es) = (sound_opened x.0 x.1, each_opened es)

pub opened_sound : (kept : Kept) → AreDurable kept → IsSound (opened kept)
opened_sound kept durable = record {
  limits = record {
    names = distinct_opened kept;
    subscriptions = omega (arith, length_each opened_one (map.entries kept), map.len-entries kept, durable.few);
    changes = omega arith;
  };
  each_one = each_opened (map.entries kept);
  messages = tt;
}

abbrev pub pairs : List KeptCursor → List (List ℕ × Positions)
pairs cursors = each (λ (c : KeptCursor). (c.name, c.acked)) cursors

names_of : (cursors : List KeptCursor) → names (each opened_one (pairs cursors)) ≡ each (λ (c : KeptCursor). c.name) cursors
names_of [] = refl
names_of (c ∷ cs) = ap (λ ns. c.name ∷ ns) (names_of cs)

pub limits_opened : (cursors : List KeptCursor) (subs : List Subscription) (changes : List Record) (slots messages : List ℕ) → length cursors ≤ 64 → IsDistinct bytes_eq (each (λ (c : KeptCursor). c.name) cursors)
    → subs ≡ each opened_one (pairs cursors) → changes ≡ [] → HasLimits (record { subs = subs; changes = changes; slots = slots; messages = messages })
limits_opened cursors subs changes slots messages few distinct first second = rw (first, second) (record {
  names = subst (IsDistinct bytes_eq) (sym (names_of cursors)) distinct;
  subscriptions = omega (arith, length_each opened_one (pairs cursors), length_each {Y = List ℕ × Positions} (λ (c : KeptCursor). (c.name, c.acked)) cursors);
  changes = omega arith;
})

each_fresh : (committed : ℕ) (es : List (List ℕ × Positions)) → AllByRecursion (IsCommittedOn committed) (each opened_one es)
each_fresh committed [] = tt
each_fresh committed (x ∷ es) = (λ i h. map.get-empty {X = Delivery} nat_cmp i, each_fresh committed es)

pub opened_committed : (committed : ℕ) (kept : Kept) → IsCommitted committed (opened kept)
opened_committed committed kept = each_fresh committed (map.entries kept)

pub are_kept : AreKept
are_kept = record {
  opened = opened_kept;
  attach = λ e kept t name mode seat word start allowed named low is. attach_kept e kept t name mode seat word start (find (is_named name) t.subs) refl allowed named low is;
  grant = λ e kept t key permits is. kept_spared e kept t _ (λ q. acked_spared (is_on key) (granted_on key permits) (record { name = λ _. refl; acked = λ _. refl }) q t.subs) (length_changed (is_on key) (granted_on key permits) t.subs) is;
  learn = λ e kept t key n is. kept_spared e kept t _ (λ q. acked_spared (is_on key) (learnt_on key n) (record { name = λ _. refl; acked = λ _. refl }) q t.subs) (length_changed (is_on key) (learnt_on key n) t.subs) is;
  look = λ e kept t new who h is. subst (IsKept e kept) (sym h.same) (kept_spared e kept t new.subs (λ q. zip_found (HasLearntOn who) (λ s. s.acked) (is_named q) (named_looked who q) (acked_looked who) t.subs new.subs h.subs) (sym (length_all_zip (HasLearntOn who) t.subs new.subs h.subs)) is);
  acknowledge = λ e kept t key ps limits all is. ack_kept e kept t key ps (find (is_on key) t.subs) refl limits all is;
  acknowledge_through = λ e kept t key p limits low is. through_kept e kept t key p (find (is_on key) t.subs) refl limits low is;
  unsubscribe = λ e kept t key limits is. removed_kept e kept t key (find (is_on key) t.subs) refl limits is;
  send = λ e kept t key i is. kept_spared e kept t _ (λ q. acked_spared (is_on key) (sent_on key (slice_index t.messages i) i) (record { name = λ _. refl; acked = λ _. refl }) q t.subs) (length_changed (is_on key) (sent_on key (slice_index t.messages i) i) t.subs) is;
  leave = λ e kept t who is. kept_spared e kept t _ (λ q. acked_each (left_on who) (record { name = λ _. refl; acked = λ _. refl }) q t.subs) (length_each (left_on who) t.subs) is;
  detach = λ e kept t key is. kept_spared e kept t _ (λ q. acked_spared (is_on key) (detached_on key) (record { name = λ _. refl; acked = λ _. refl }) q t.subs) (length_changed (is_on key) (detached_on key) t.subs) is;
  redeliver = λ e kept t key asked is. kept_spared e kept t _ (λ q. acked_spared (is_on key) (redelivered_on key asked) (record { name = λ _. refl; acked = λ _. refl }) q t.subs) (length_changed (is_on key) (redelivered_on key asked) t.subs) is;
  settle = settle_kept;
  mark = λ e kept t slots messages is. record { same = is.same; count = is.count; durable = is.durable; formed = is.formed };
  forget = λ e kept t position is. record { same = is.same; count = is.count; durable = is.durable; formed = is.formed };
  longer = λ e m kept t low is. record { same = is.same; count = is.count; durable = is.durable; formed = formed_longer e m t.changes kept low is.formed };
}
