-- What one subscription does, of all: by where the one of a name or of a consumer stands.
use Rattle.std.proofs.Common.{Result, Ok, Err, ◌≡◌, ℕ, Bool, true, false, List, [], ◌∷◌, ◌++◌, get_or, set, refl, ap, sym, subst, ◌∙◌, Some, None, Option}
use Rattle.std.specs.Prelude.{map as each, IfSome, IfNone, OnErr}
use Rattle.std.proofs.lemmas.Bool.{true≢false}
use Rattle.std.specs.List.{find, position, remove}
use Rattle.holds.specs.declared.consumer.ConsumerKey.{ConsumerKey}
use Rattle.holds.specs.declared.consumer.Consumer.{Consumer as Seat}
use Rattle.holds.specs.declared.consumer.SlotRange.{SlotRange}
use Rattle.subscriptions.specs.declared.consumer.Mode.{Mode}
use Rattle.subscriptions.specs.declared.consumer.Refusal.{Refusal}
use Rattle.records.specs.declared.record.Record.{Record}
use Rattle.records.specs.declared.record.Record.TheVariants.{Made, Acknowledged, Removed, AcknowledgedThrough}
use Rattle.subscriptions.specs.State.{Consumer, Subscription, Subscriptions}
use Rattle.subscriptions.specs.Steps.{first_changed, first_standing, is_named, is_on, subscribe_refusals, refusals_at, making_refusals, attach_refusals, attached_to, attached_at, attached, made, granted, granted_on, grants_too_many, is_past, is_past_on, has_permit_at, is_consumer, acknowledged, acknowledgements, acked_on, acknowledged_through, acknowledgement_through, acked_through_on, first_removed, unsubscribed, removal, Admits, AdmitsAt, AdmitsBy, AdmitsOn, has_permit, sent_before, times_at}
use Rattle.holds.specs.Backlog.{IsOpenAt}
use Rattle.holds.specs.Deliveries.{times}
use Rattle.subscriptions.proofs.Places.{changes, finds, is_place, stays, misses, removes, removed-none, none_found}
use Rattle.permits.specs.Ends.{Word}

-- what holds anyhow holds where there is an error
pub on_err : {T E P : Type 0} (r : Result T E) → P → OnErr r P
on_err (Ok x) p = tt
on_err (Err e) p = p

-- ---- by name

pub refusal_none : (t : Subscriptions) (name : List ℕ) (mode : Mode) (ranges : List SlotRange) (r : Option Refusal) → position (is_named name) t.subs ≡ None → r ≡ first_standing (making_refusals mode ranges t) → r ≡ first_standing (subscribe_refusals t name mode ranges)
refusal_none t name mode ranges r at is = is ∙ sym (ap (λ (o : Option Subscription). first_standing (refusals_at o t mode ranges)) (misses (is_named name) t.subs at))

pub refusal_some : (t : Subscriptions) (name : List ℕ) (mode : Mode) (ranges : List SlotRange) (r : Option Refusal) (i : ℕ) (s : Subscription) → position (is_named name) t.subs ≡ Some i → s ≡ get_or t.subs i s → r ≡ first_standing (attach_refusals mode ranges s) → r ≡ first_standing (subscribe_refusals t name mode ranges)
refusal_some t name mode ranges r i s at read is = is ∙ sym (ap (λ (o : Option Subscription). first_standing (refusals_at o t mode ranges)) (finds (is_named name) t.subs i s at read))

pub allowed_none : (t : Subscriptions) (name : List ℕ) (mode : Mode) (ranges : List SlotRange) → position (is_named name) t.subs ≡ None → first_standing (subscribe_refusals t name mode ranges) ≡ None → first_standing (making_refusals mode ranges t) ≡ None
allowed_none t name mode ranges at is = ap (λ (o : Option Subscription). first_standing (refusals_at o t mode ranges)) (sym (misses (is_named name) t.subs at)) ∙ is

pub allowed_some : (t : Subscriptions) (name : List ℕ) (mode : Mode) (ranges : List SlotRange) (i : ℕ) (s : Subscription) → position (is_named name) t.subs ≡ Some i → s ≡ get_or t.subs i s → first_standing (subscribe_refusals t name mode ranges) ≡ None → first_standing (attach_refusals mode ranges s) ≡ None
allowed_some t name mode ranges i s at read is = ap (λ (o : Option Subscription). first_standing (refusals_at o t mode ranges)) (sym (finds (is_named name) t.subs i s at read)) ∙ is

pub attaches_none : (t : Subscriptions) (name : List ℕ) (mode : Mode) (seat : Seat) (word : Word) (start : ℕ) (s : Subscription) → position (is_named name) t.subs ≡ None → s ≡ attached_to mode seat word (made name mode start)
    → (let n : Subscriptions = record t { subs = t.subs ++ s ∷ []; changes = t.changes ++ Made name start ∷ [] } in n ≡ attached t name mode seat word start)
attaches_none t name mode seat word start s at is =
    ap (λ (x : Subscription). let n : Subscriptions = record t { subs = t.subs ++ x ∷ []; changes = t.changes ++ Made name start ∷ [] } in n) is
    ∙ sym (ap (λ (o : Option Subscription). attached_at o t name mode seat word start) (misses (is_named name) t.subs at))

pub attaches_some : (t : Subscriptions) (name : List ℕ) (mode : Mode) (seat : Seat) (word : Word) (start : ℕ) (i : ℕ) (s s' : Subscription) → position (is_named name) t.subs ≡ Some i → s ≡ get_or t.subs i s → s' ≡ attached_to mode seat word s
    → (let n : Subscriptions = record t { subs = set t.subs i s' } in n ≡ attached t name mode seat word start)
attaches_some t name mode seat word start i s s' at read is =
    ap (λ (xs : List Subscription). let n : Subscriptions = record t { subs = xs } in n) (changes (is_named name) (attached_to mode seat word) t.subs i s s' at read is)
    ∙ sym (ap (λ (o : Option Subscription). attached_at o t name mode seat word start) (finds (is_named name) t.subs i s at read))

-- ---- by consumer

nothing_more : {X : Type 0} (xs : List X) → xs ++ [] ≡ xs
nothing_more [] = refl
nothing_more (x ∷ xs) = ap (λ ys. x ∷ ys) (nothing_more xs)

pub none_permitted : (o : Option Consumer) → o ≡ None → has_permit o ≡ true → ⊥
none_permitted None is h = absurd (true≢false (sym h))
none_permitted (Some c) is h = absurd (cc)

module _ (t : Subscriptions) (key : ConsumerKey) where
  abbrev with_subs : List Subscription → Subscriptions
  with_subs xs = record t { subs = xs }

  pub grants_none : (permits : ℕ) → position (is_on key) t.subs ≡ None → (grants_too_many t key permits ≡ false) × (t ≡ granted t key permits)
  grants_none permits at = (
    ap (is_past_on key permits) (misses (is_on key) t.subs at),
    ap with_subs (stays (is_on key) (granted_on key permits) t.subs at),
  )

  pub grants_at : (permits : ℕ) (i : ℕ) (s : Subscription) (b : Bool) → position (is_on key) t.subs ≡ Some i → s ≡ get_or t.subs i s → is_past permits (find (is_consumer key) s.consumers) ≡ b → grants_too_many t key permits ≡ b
  grants_at permits i s b at read is = ap (is_past_on key permits) (finds (is_on key) t.subs i s at read) ∙ is

  -- who is admitted has a permit
  admits_permit : (o : Option Subscription) (slots : List ℕ) (committed i : ℕ) → AdmitsAt o key slots committed i → has_permit_at key o ≡ true
  admits_permit None slots committed i a = absurd a
  admits_permit (Some s) slots committed i a = a.permit

  pub permit_admitted : (committed i : ℕ) → Admits t key committed i → has_permit_at key (find (is_on key) t.subs) ≡ true
  permit_admitted committed i a = admits_permit (find (is_on key) t.subs) t.slots committed i a

  pub permit_found : (i : ℕ) (s : Subscription) → position (is_on key) t.subs ≡ Some i → s ≡ get_or t.subs i s → has_permit_at key (find (is_on key) t.subs) ≡ true → has_permit (find (is_consumer key) s.consumers) ≡ true
  permit_found i s at read is = sym (ap (has_permit_at key) (finds (is_on key) t.subs i s at read)) ∙ is

  -- one subscription changes
  pub changes_at : (f : Subscription → Subscription) (i : ℕ) (s s' : Subscription) → position (is_on key) t.subs ≡ Some i → s ≡ get_or t.subs i s → s' ≡ f s → with_subs (set t.subs i s') ≡ with_subs (first_changed (is_on key) f t.subs)
  changes_at f i s s' at read is = ap with_subs (changes (is_on key) f t.subs i s s' at read is)

  -- and without the consumer nothing does
  pub stays_at : (f : Subscription → Subscription) → position (is_on key) t.subs ≡ None → t ≡ with_subs (first_changed (is_on key) f t.subs)
  stays_at f at = ap with_subs (stays (is_on key) f t.subs at)

  abbrev with_both : List Subscription → List Record → Subscriptions
  with_both xs cs = record t { subs = xs; changes = cs }

  pub acknowledges_none : (ps : List ℕ) → position (is_on key) t.subs ≡ None → t ≡ acknowledged t key ps
  acknowledges_none ps at =
      ap with_subs (stays (is_on key) (acked_on ps) t.subs at)
      ∙ ap (with_both (first_changed (is_on key) (acked_on ps) t.subs)) (sym (nothing_more t.changes) ∙ sym (ap (λ (o : Option Subscription). t.changes ++ acknowledgements o ps) (misses (is_on key) t.subs at)))

  pub acknowledges_at : (ps : List ℕ) (i : ℕ) (s s' : Subscription) → position (is_on key) t.subs ≡ Some i → s ≡ get_or t.subs i s → s' ≡ acked_on ps s
      → with_both (set t.subs i s') (t.changes ++ each (λ p. Acknowledged s.name p) ps) ≡ acknowledged t key ps
  acknowledges_at ps i s s' at read is =
      ap (λ xs. with_both xs (t.changes ++ each (λ p. Acknowledged s.name p) ps)) (changes (is_on key) (acked_on ps) t.subs i s s' at read is)
      ∙ sym (ap (λ (o : Option Subscription). with_both (first_changed (is_on key) (acked_on ps) t.subs) (t.changes ++ acknowledgements o ps)) (finds (is_on key) t.subs i s at read))

  pub through_none : (p : ℕ) → position (is_on key) t.subs ≡ None → t ≡ acknowledged_through t key p
  through_none p at =
      ap with_subs (stays (is_on key) (acked_through_on p) t.subs at)
      ∙ ap (with_both (first_changed (is_on key) (acked_through_on p) t.subs)) (sym (nothing_more t.changes) ∙ sym (ap (λ (o : Option Subscription). t.changes ++ acknowledgement_through o p) (misses (is_on key) t.subs at)))

  pub through_at : (p : ℕ) (i : ℕ) (s s' : Subscription) → position (is_on key) t.subs ≡ Some i → s ≡ get_or t.subs i s → s' ≡ acked_through_on p s
      → with_both (set t.subs i s') (t.changes ++ AcknowledgedThrough s.name p ∷ []) ≡ acknowledged_through t key p
  through_at p i s s' at read is =
      ap (λ xs. with_both xs (t.changes ++ AcknowledgedThrough s.name p ∷ [])) (changes (is_on key) (acked_through_on p) t.subs i s s' at read is)
      ∙ sym (ap (λ (o : Option Subscription). with_both (first_changed (is_on key) (acked_through_on p) t.subs) (t.changes ++ acknowledgement_through o p)) (finds (is_on key) t.subs i s at read))

  pub unsubscribes_none : position (is_on key) t.subs ≡ None → t ≡ unsubscribed t key
  unsubscribes_none at =
      ap with_subs (sym (removed-none (is_on key) t.subs (none_found (is_on key) t.subs (misses (is_on key) t.subs at))))
      ∙ ap (with_both (first_removed (is_on key) t.subs)) (sym (nothing_more t.changes) ∙ sym (ap (λ (o : Option Subscription). t.changes ++ removal o) (misses (is_on key) t.subs at)))

  pub unsubscribes_at : (i : ℕ) (s : Subscription) → position (is_on key) t.subs ≡ Some i → s ≡ get_or t.subs i s
      → with_both (remove t.subs i) (t.changes ++ Removed s.name ∷ []) ≡ unsubscribed t key
  unsubscribes_at i s at read =
      ap (λ xs. with_both xs (t.changes ++ Removed s.name ∷ [])) (removes (is_on key) t.subs i s at)
      ∙ sym (ap (λ (o : Option Subscription). with_both (first_removed (is_on key) t.subs) (t.changes ++ removal o)) (finds (is_on key) t.subs i s at read))

  pub admits_none : (committed i : ℕ) → position (is_on key) t.subs ≡ None → Admits t key committed i → ⊥
  admits_none committed i at a = let none : AdmitsAt None key t.slots committed i = subst (λ (o : Option Subscription). AdmitsAt o key t.slots committed i) (misses (is_on key) t.subs at) a in none

  pub admitted : (committed i : ℕ) (p : ℕ) (s : Subscription) → position (is_on key) t.subs ≡ Some p → s ≡ get_or t.subs p s → Admits t key committed i → AdmitsOn s key t.slots committed i
  admitted committed i p s at read a = subst (λ (o : Option Subscription). AdmitsAt o key t.slots committed i) (finds (is_on key) t.subs p s at read) a

  pub admits : (committed i : ℕ) (p : ℕ) (s : Subscription) → position (is_on key) t.subs ≡ Some p → s ≡ get_or t.subs p s → AdmitsOn s key t.slots committed i → Admits t key committed i
  admits committed i p s at read a = subst (λ (o : Option Subscription). AdmitsAt o key t.slots committed i) (sym (finds (is_on key) t.subs p s at read)) a

  -- a mode's answer to a consumer that has a permit
  pub picks_some : (committed : ℕ) (p : ℕ) (s : Subscription) (r : Option ℕ) → position (is_on key) t.subs ≡ Some p → s ≡ get_or t.subs p s → has_permit (find (is_consumer key) s.consumers) ≡ true
      → IfSome r (AdmitsBy s.mode key s t.slots (IsOpenAt committed s.acked s.deliveries)) → IfSome r (Admits t key committed)
  picks_some committed p s (Some i) at read permit a = admits committed i p s at read (record { permit = permit; served = a })
  picks_some committed p s None at read permit a = tt

  pub picks_none : (committed : ℕ) (p : ℕ) (s : Subscription) (r : Option ℕ) → position (is_on key) t.subs ≡ Some p → s ≡ get_or t.subs p s
      → IfNone r ((i : ℕ) → AdmitsBy s.mode key s t.slots (IsOpenAt committed s.acked s.deliveries) i → ⊥) → IfNone r ((i : ℕ) → Admits t key committed i → ⊥)
  picks_none committed p s (Some i) at read never = tt
  picks_none committed p s None at read never = λ i a. never i (admitted committed i p s at read a).served

  pub permits_none : (committed i : ℕ) (p : ℕ) (s : Subscription) → position (is_on key) t.subs ≡ Some p → s ≡ get_or t.subs p s → has_permit (find (is_consumer key) s.consumers) ≡ false → Admits t key committed i → ⊥
  permits_none committed i p s at read without a = true≢false (sym (admitted committed i p s at read a).permit ∙ without)

  -- the consumer is attached to the one that is found
  pub stands : (p : ℕ) (s : Subscription) → position (is_on key) t.subs ≡ Some p → s ≡ get_or t.subs p s → is_on key s ≡ true
  stands p s at read = ap (is_on key) read ∙ (is_place (is_on key) t.subs p s at).here

  pub before_at : (i : ℕ) (p : ℕ) (s : Subscription) (n : ℕ) → position (is_on key) t.subs ≡ Some p → s ≡ get_or t.subs p s → n ≡ times s.deliveries i → n ≡ sent_before t key i
  before_at i p s n at read is = is ∙ sym (ap (λ (o : Option Subscription). times_at o i) (finds (is_on key) t.subs p s at read))
