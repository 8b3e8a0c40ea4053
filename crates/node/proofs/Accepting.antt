-- What accepted commands promise is kept by what the changes make of the durable subscriptions.
use Rattle.std.proofs.Common.{◌≡◌, ◌∙◌, ℕ, ◌+◌, Bool, true, false, cond, ◌||◌, Option, Some, None, List, [], ◌∷◌, ◌++◌, map, refl, sym, ap, append-nil}
use Rattle.std.specs.List.{AllByRecursion, find}
use Rattle.std.specs.Option.{option_map}
use Rattle.std.specs.FinSet as set
use Rattle.std.specs.FinMap as kept_map
use Rattle.cursor.specs.Positions.{Positions, Has, below, has_empty, has_union}
use Rattle.commands.specs.declared.consuming.AckType.{AckType}
use Rattle.commands.specs.declared.consuming.AckType.TheVariants.{Individual, Cumulative}
use Rattle.holds.specs.declared.consumer.Consumer.{Consumer as Seat}
use Rattle.holds.specs.declared.consumer.ConsumerKey.{ConsumerKey}
use Rattle.records.specs.declared.record.Record.{Record}
use Rattle.records.specs.declared.record.Record.TheVariants.{Made, Removed, Acknowledged}
use Rattle.records.specs.Maps.{Kept}
use Rattle.records.specs.Records.{after_all}
use Rattle.subscriptions.specs.declared.consumer.Mode.{Mode}
use Rattle.subscriptions.specs.State.{Subscription, Subscriptions}
use Rattle.subscriptions.specs.Soundness.{HasLimits}
use Rattle.subscriptions.specs.Progress.{joined, listed}
use Rattle.subscriptions.specs.Steps.{is_named, is_on, attached, attached_at, attached_to, made, acknowledgements, acknowledgement_through, removal}
use Rattle.subscriptions.specs.Laws.{IsKept as AreKept, acked_as}
use Rattle.subscriptions.proofs.Kept.{name_itself, get_remove, after_append, acked_spared, acked_pushed, acked_found, acked_changed}
use Rattle.subscriptions.proofs.Settled.{forgotten, forgotten_below}
use Rattle.topic_core.specs.Steps.{acked}
use Rattle.node.specs.Promising.{Promise, There, Gone, Release, OfGone, OfThere, acked_by, promised}
use Rattle.node.proofs.Lasting.{Spares}
use Rattle.node.proofs.Holding.{Lands, Remains}
use Rattle.permits.specs.Ends.{Word}

-- changes behind others, all of which spare what remains
pub record Adds (changes : List Record) (release : Option Release) (more : List Record) : Type 0 where
  pub added : List Record
  pub behind : more ≡ changes ++ added
  pub spares : (p : Promise) → Remains release p → AllByRecursion (Spares p) added

pub adds_nothing : (changes : List Record) (release : Option Release) → Adds changes release changes
adds_nothing changes release = record { added = []; behind = sym (append-nil changes); spares = λ p remains. tt }

-- a subscription that is there keeps a promise of its positions
lands_there : (e : ℕ) (kept : Kept) (t : Subscriptions) (name : List ℕ) (positions s : Positions) → AreKept e kept t → acked_as name t.subs ≡ Some s → ((i : ℕ) → Has positions i → Has s i)
    → Lands t.changes kept (There name positions)
lands_there e kept t name positions s are there each = record { acked = s; there = are.same name ∙ there; each = each }

nothing_has : (s : Positions) (i : ℕ) → Has set.empty i → Has s i
nothing_has s i has = let none = has_empty i in absurd (cc)

-- ---- SUBSCRIBE

spares_made : (name : List ℕ) (start : ℕ) (p : Promise) → Remains (Some (OfGone name)) p → Spares p (Made name start)
spares_made name start (There promised positions) remains = tt
spares_made name start (Gone promised) remains = remains

pub adds_attached : (t : Subscriptions) (name : List ℕ) (mode : Mode) (seat : Seat) (word : Word) (start : ℕ) → Adds t.changes (Some (OfGone name)) (attached t name mode seat word start).changes
adds_attached t name mode seat word start = elim (find (is_named name) t.subs) as (λ o. Adds t.changes (Some (OfGone name)) (attached_at o t name mode seat word start).changes) [
  | None ↦ record { added = Made name start ∷ []; behind = refl; spares = λ p remains. (spares_made name start p remains, tt) }
  | Some s ↦ adds_nothing t.changes (Some (OfGone name))
]

there_attached : (t : Subscriptions) (name : List ℕ) (mode : Mode) (seat : Seat) (word : Word) (start : ℕ) → (s : Positions) × (acked_as name (attached t name mode seat word start).subs ≡ Some s)
there_attached t name mode seat word start =
    elim (find (is_named name) t.subs) as (λ o. find (is_named name) t.subs ≡ o → (s : Positions) × (acked_as name (attached_at o t name mode seat word start).subs ≡ Some s)) [
      | None ↦ λ none.
          let new = attached_to mode seat word (made name mode start) in
          (new.acked, acked_pushed name t.subs new none ∙ ap (λ b. cond b (Some new.acked) (acked_as name t.subs)) (name_itself name))
      | Some s ↦ λ found. (
        s.acked,
        acked_spared (is_named name) (attached_to mode seat word) (record { name = λ _. refl; acked = λ _. refl }) name t.subs ∙ ap (λ (o : Option Subscription). option_map (λ (x : Subscription). x.acked) o) found,
      )
    ] refl

pub lands_attached : (e : ℕ) (kept : Kept) (t : Subscriptions) (name : List ℕ) (mode : Mode) (seat : Seat) (word : Word) (start : ℕ) → AreKept e kept (attached t name mode seat word start)
    → Lands (attached t name mode seat word start).changes kept (There name set.empty)
lands_attached e kept t name mode seat word start are =
    let there = there_attached t name mode seat word start in
    lands_there e kept (attached t name mode seat word start) name set.empty there.0 are there.1 (λ i has. nothing_has there.0 i has)

-- ---- ACK

spares_ack : (p : Promise) (n : List ℕ) (position : ℕ) → Spares p (Acknowledged n position)
spares_ack (There name positions) n position = tt
spares_ack (Gone name) n position = tt

spares_acks : (p : Promise) (n : List ℕ) (positions : List ℕ) → AllByRecursion (Spares p) (map (λ i. Acknowledged n i) positions)
spares_acks p n [] = tt
spares_acks p n (position ∷ positions) = (spares_ack p n position, spares_acks p n positions)

spares_acknowledgements : (p : Promise) (o : Option Subscription) (positions : List ℕ) → AllByRecursion (Spares p) (acknowledgements o positions)
spares_acknowledgements p None positions = tt
spares_acknowledgements p (Some s) positions = spares_acks p s.name positions

spares_through : (p : Promise) (o : Option Subscription) (position : ℕ) → AllByRecursion (Spares p) (acknowledgement_through o position)
spares_through p None position = tt
spares_through (There name positions) (Some s) position = (tt, tt)
spares_through (Gone name) (Some s) position = (tt, tt)

pub adds_acked : (ack_type : AckType) (t : Subscriptions) (key : ConsumerKey) (ps : List ℕ) → Adds t.changes None (acked ack_type t key ps).changes
adds_acked Individual t key ps = record {
  added = acknowledgements (find (is_on key) t.subs) ps;
  behind = refl;
  spares = λ p remains. spares_acknowledgements p (find (is_on key) t.subs) ps;
}
adds_acked Cumulative t key [] = adds_nothing t.changes None
adds_acked Cumulative t key (position ∷ ps) = record {
  added = acknowledgement_through (find (is_on key) t.subs) position;
  behind = refl;
  spares = λ p remains. spares_through p (find (is_on key) t.subs) position;
}

either_has : (a b : Bool) → b ≡ true → (a || b) ≡ true
either_has true b h = refl
either_has false b h = h

lands_acked_on : (e : ℕ) (kept : Kept) (ack_type : AckType) (t : Subscriptions) (key : ConsumerKey) (ps : List ℕ) (s : Subscription) → HasLimits t → find (is_on key) t.subs ≡ Some s
    → AreKept e kept (acked ack_type t key ps) → Lands (acked ack_type t key ps).changes kept (There s.name (acked_by ack_type ps))
lands_acked_on e kept Individual t key ps s limits found are =
    lands_there e kept (acked Individual t key ps) s.name (listed ps) (joined s.acked ps) are
    (acked_changed (is_on key) (λ a. joined a ps) (λ d. forgotten d ps) s.name t.subs s limits.names found ∙ ap (λ b. cond b (Some (joined s.acked ps)) (acked_as s.name t.subs)) (name_itself s.name))
    (λ i has. has_union s.acked (listed ps) i ∙ either_has (set.contains s.acked i) _ has)
lands_acked_on e kept Cumulative t key [] s limits found are =
    lands_there e kept t s.name set.empty s.acked are (acked_found (is_on key) t.subs s limits.names found) (λ i has. nothing_has s.acked i has)
lands_acked_on e kept Cumulative t key (position ∷ ps) s limits found are =
    let more : Positions → Positions = λ a. set.union a (below (position + 1)) in
    lands_there e kept (acked Cumulative t key (position ∷ ps)) s.name (below (position + 1)) (more s.acked) are
    (acked_changed (is_on key) more (λ d. forgotten_below d (position + 1)) s.name t.subs s limits.names found ∙ ap (λ b. cond b (Some (more s.acked)) (acked_as s.name t.subs)) (name_itself s.name))
    (λ i has. has_union s.acked (below (position + 1)) i ∙ either_has (set.contains s.acked i) _ has)

abbrev pub ack_promise : AckType → List ℕ → Option Subscription → Option Promise
ack_promise ack_type ps o = option_map (λ (s : Subscription). There s.name (acked_by ack_type ps)) o

pub lands_acked : (e : ℕ) (kept : Kept) (ack_type : AckType) (t : Subscriptions) (key : ConsumerKey) (ps : List ℕ) (o : Option Subscription) → HasLimits t → find (is_on key) t.subs ≡ o
    → AreKept e kept (acked ack_type t key ps) → AllByRecursion (Lands (acked ack_type t key ps).changes kept) (promised (ack_promise ack_type ps o))
lands_acked e kept ack_type t key ps None limits found are = tt
lands_acked e kept ack_type t key ps (Some s) limits found are = (lands_acked_on e kept ack_type t key ps s limits found are, tt)

-- ---- UNSUBSCRIBE

spares_removed : (name : List ℕ) (p : Promise) → Remains (Some (OfThere name)) p → Spares p (Removed name)
spares_removed name (There promised positions) remains = remains
spares_removed name (Gone promised) remains = tt

pub adds_removal : (changes : List Record) (o : Option Subscription) → Adds changes (option_map (λ (s : Subscription). OfThere s.name) o) (changes ++ removal o)
adds_removal changes None = record { added = []; behind = refl; spares = λ p remains. tt }
adds_removal changes (Some s) = record { added = Removed s.name ∷ []; behind = refl; spares = λ p remains. (spares_removed s.name p remains, tt) }

-- what is removed is gone
lands_removed : (changes : List Record) (kept : Kept) (name : List ℕ) → Lands (changes ++ Removed name ∷ []) kept (Gone name)
lands_removed changes kept name =
    let before : Kept = after_all changes kept in
    ap (λ (k : Kept). kept_map.get k name) (after_append changes (Removed name ∷ []) kept)
    ∙ get_remove before name name
    ∙ ap (λ b. cond b None (kept_map.get before name)) (name_itself name)

pub lands_removal : (changes : List Record) (kept : Kept) (o : Option Subscription) → AllByRecursion (Lands (changes ++ removal o) kept) (promised (option_map (λ (s : Subscription). Gone s.name) o))
lands_removal changes kept None = tt
lands_removal changes kept (Some s) = (lands_removed changes kept s.name, tt)
