-- Laws over all that the calls do.
use Rattle.std.specs.Prelude.{◌≡◌, ℕ, ◌+◌, ◌<◌, ◌≤◌, ◌^◌, true, false, None, Some, Option, List, length, take}
use Rattle.std.specs.Option.{option_map}
use Rattle.std.specs.List.{AllByRecursion, find}
use Rattle.std.specs.FinMap as map
use Rattle.cursor.specs.Positions.{Positions}
use Rattle.holds.specs.Backlog.{IsOpenAt}
use Rattle.holds.specs.declared.consumer.ConsumerKey.{ConsumerKey}
use Rattle.holds.specs.declared.consumer.Consumer.{Consumer as Seat}
use Rattle.subscriptions.specs.declared.consumer.Mode.{Mode}
use Rattle.records.specs.Names.{is_subscription_name}
use Rattle.records.specs.Maps.{Kept}
use Rattle.records.specs.Records.{IsThere, AreFormed, after_all}
use Rattle.subscriptions.specs.State.{Subscription, Subscriptions}
use Rattle.subscriptions.specs.Steps.{none_yet, opened, first_standing, subscribe_refusals, attached, has_consumer, learnt, HasLearnt, granted, grants_too_many, acknowledged, acknowledged_through, unsubscribe_refusals, unsubscribed, sent, left, detached, redelivered, settled, marked, forgotten, Admits, is_named, is_on}
use Rattle.subscriptions.specs.Soundness.{IsSound, HasLimits, IsCommitted}
use Rattle.subscriptions.specs.Marks.{IsCount}
use Rattle.permits.specs.Ends.{Seen, Word}

-- durable subscriptions that a topic may have: 64 at most, each name of its form
pub record AreDurable (kept : Kept) : Type 0 where
  pub few : map.len kept ≤ 64
  pub named : (name : List ℕ) → IsThere kept name → is_subscription_name name ≡ true

-- the acknowledged positions of the subscription with this name
abbrev pub acked_as : List ℕ → List Subscription → Option Positions
acked_as name subs = option_map (λ s. s.acked) (find (is_named name) subs)

-- the subscriptions are what the changes make of the durable ones, and each change is of its form, beside a ledger of so many entries
pub record IsKept (entries : ℕ) (kept : Kept) (t : Subscriptions) : Type 0 where
  pub same : (name : List ℕ) → map.get (after_all t.changes kept) name ≡ acked_as name t.subs
  pub count : map.len (after_all t.changes kept) ≡ length t.subs
  pub durable : AreDurable kept
  pub formed : AreFormed entries kept t.changes

-- each call keeps the subscriptions sound
pub record StaysSound : Type 0 where
  pub made : IsSound none_yet
  pub opened : (kept : Kept) → AreDurable kept → IsSound (opened kept)
  pub attach : (t : Subscriptions) (name : List ℕ) (mode : Mode) (seat : Seat) (word : Word) (start : ℕ) → first_standing (subscribe_refusals t name mode seat.ranges) ≡ None → IsSound t → IsSound (attached t name mode seat word start)
  pub grant : (t : Subscriptions) (key : ConsumerKey) (permits : ℕ) → grants_too_many t key permits ≡ false → IsSound t → IsSound (granted t key permits)
  pub learn : (t : Subscriptions) (key : ConsumerKey) (seen : Seen) → (has_consumer t key ≡ true → seen.granted ≤ 2 ^ 62) → IsSound t → IsSound (learnt t key seen)
  pub look : (t new : Subscriptions) (who : ℕ) → HasLearnt who t new → IsSound t → IsSound new
  pub acknowledge : (t : Subscriptions) (key : ConsumerKey) (positions : List ℕ) → length t.changes + length positions ≤ 65536 → IsSound t → IsSound (acknowledged t key positions)
  pub acknowledge_through : (t : Subscriptions) (key : ConsumerKey) (position : ℕ) → length t.changes + 1 ≤ 65536 → IsSound t → IsSound (acknowledged_through t key position)
  pub unsubscribe : (t : Subscriptions) (key : ConsumerKey) → first_standing (unsubscribe_refusals t key) ≡ None → IsSound t → IsSound (unsubscribed t key)
  pub send : (t : Subscriptions) (key : ConsumerKey) (committed i : ℕ) → Admits t key committed i → IsSound t → IsSound (sent t key i)
  pub leave : (t : Subscriptions) (who : ℕ) → IsSound t → IsSound (left t who)
  pub detach : (t : Subscriptions) (key : ConsumerKey) → IsSound t → IsSound (detached t key)
  pub redeliver : (t : Subscriptions) (key : ConsumerKey) (asked : Option (List ℕ)) → IsSound t → IsSound (redelivered t key asked)
  pub settle : (t : Subscriptions) (count : ℕ) → IsSound t → IsSound (settled t count)
  pub mark : (t : Subscriptions) (slots messages : List ℕ) → AllByRecursion IsCount messages → IsSound t → IsSound (marked t slots messages)
  pub forget : (t : Subscriptions) (position : ℕ) → IsSound t → IsSound (forgotten t position)

-- The subscriptions stay what the changes make of the durable ones; a change that is settled belongs to these from then on.
-- A longer ledger changes nothing.
pub record AreKept : Type 0 where
  pub opened : (entries : ℕ) (kept : Kept) → AreDurable kept → IsKept entries kept (opened kept)
  pub attach : (entries : ℕ) (kept : Kept) (t : Subscriptions) (name : List ℕ) (mode : Mode) (seat : Seat) (word : Word) (start : ℕ)
      → first_standing (subscribe_refusals t name mode seat.ranges) ≡ None → is_subscription_name name ≡ true → start ≤ entries → IsKept entries kept t → IsKept entries kept (attached t name mode seat word start)
  pub grant : (entries : ℕ) (kept : Kept) (t : Subscriptions) (key : ConsumerKey) (permits : ℕ) → IsKept entries kept t → IsKept entries kept (granted t key permits)
  pub learn : (entries : ℕ) (kept : Kept) (t : Subscriptions) (key : ConsumerKey) (seen : Seen) → IsKept entries kept t → IsKept entries kept (learnt t key seen)
  pub look : (entries : ℕ) (kept : Kept) (t new : Subscriptions) (who : ℕ) → HasLearnt who t new → IsKept entries kept t → IsKept entries kept new
  pub acknowledge : (entries : ℕ) (kept : Kept) (t : Subscriptions) (key : ConsumerKey) (positions : List ℕ)
      → HasLimits t → AllByRecursion (λ p. p < entries) positions → IsKept entries kept t → IsKept entries kept (acknowledged t key positions)
  pub acknowledge_through : (entries : ℕ) (kept : Kept) (t : Subscriptions) (key : ConsumerKey) (position : ℕ)
      → HasLimits t → position < entries → IsKept entries kept t → IsKept entries kept (acknowledged_through t key position)
  pub unsubscribe : (entries : ℕ) (kept : Kept) (t : Subscriptions) (key : ConsumerKey)
      → HasLimits t → IsKept entries kept t → IsKept entries kept (unsubscribed t key)
  pub send : (entries : ℕ) (kept : Kept) (t : Subscriptions) (key : ConsumerKey) (i : ℕ) → IsKept entries kept t → IsKept entries kept (sent t key i)
  pub leave : (entries : ℕ) (kept : Kept) (t : Subscriptions) (who : ℕ) → IsKept entries kept t → IsKept entries kept (left t who)
  pub detach : (entries : ℕ) (kept : Kept) (t : Subscriptions) (key : ConsumerKey) → IsKept entries kept t → IsKept entries kept (detached t key)
  pub redeliver : (entries : ℕ) (kept : Kept) (t : Subscriptions) (key : ConsumerKey) (asked : Option (List ℕ)) → IsKept entries kept t → IsKept entries kept (redelivered t key asked)
  pub settle : (entries : ℕ) (kept : Kept) (t : Subscriptions) (count : ℕ) → IsKept entries kept t → IsKept entries (after_all (take count t.changes) kept) (settled t count)
  pub mark : (entries : ℕ) (kept : Kept) (t : Subscriptions) (slots messages : List ℕ) → IsKept entries kept t → IsKept entries kept (marked t slots messages)
  pub forget : (entries : ℕ) (kept : Kept) (t : Subscriptions) (position : ℕ) → IsKept entries kept t → IsKept entries kept (forgotten t position)
  pub longer : (entries more : ℕ) (kept : Kept) (t : Subscriptions) → entries ≤ more → IsKept entries kept t → IsKept more kept t

-- where all deliveries are of committed positions, they stay so
pub record DeliveriesAreCommitted : Type 0 where
  pub made : (committed : ℕ) → IsCommitted committed none_yet
  pub opened : (committed : ℕ) (kept : Kept) → IsCommitted committed (opened kept)
  pub attach : (committed : ℕ) (t : Subscriptions) (name : List ℕ) (mode : Mode) (seat : Seat) (word : Word) (start : ℕ) → IsCommitted committed t → IsCommitted committed (attached t name mode seat word start)
  pub grant : (committed : ℕ) (t : Subscriptions) (key : ConsumerKey) (permits : ℕ) → IsCommitted committed t → IsCommitted committed (granted t key permits)
  pub learn : (committed : ℕ) (t : Subscriptions) (key : ConsumerKey) (seen : Seen) → IsCommitted committed t → IsCommitted committed (learnt t key seen)
  pub look : (committed : ℕ) (t new : Subscriptions) (who : ℕ) → HasLearnt who t new → IsCommitted committed t → IsCommitted committed new
  pub acknowledge : (committed : ℕ) (t : Subscriptions) (key : ConsumerKey) (positions : List ℕ) → IsCommitted committed t → IsCommitted committed (acknowledged t key positions)
  pub acknowledge_through : (committed : ℕ) (t : Subscriptions) (key : ConsumerKey) (position : ℕ) → IsCommitted committed t → IsCommitted committed (acknowledged_through t key position)
  pub unsubscribe : (committed : ℕ) (t : Subscriptions) (key : ConsumerKey) → IsCommitted committed t → IsCommitted committed (unsubscribed t key)
  pub send : (committed : ℕ) (t : Subscriptions) (key : ConsumerKey) (i : ℕ) → Admits t key committed i → IsCommitted committed t → IsCommitted committed (sent t key i)
  pub leave : (committed : ℕ) (t : Subscriptions) (who : ℕ) → IsCommitted committed t → IsCommitted committed (left t who)
  pub detach : (committed : ℕ) (t : Subscriptions) (key : ConsumerKey) → IsCommitted committed t → IsCommitted committed (detached t key)
  pub redeliver : (committed : ℕ) (t : Subscriptions) (key : ConsumerKey) (asked : Option (List ℕ)) → IsCommitted committed t → IsCommitted committed (redelivered t key asked)
  pub settle : (committed : ℕ) (t : Subscriptions) (count : ℕ) → IsCommitted committed t → IsCommitted committed (settled t count)
  pub mark : (committed : ℕ) (t : Subscriptions) (slots messages : List ℕ) → IsCommitted committed t → IsCommitted committed (marked t slots messages)
  pub forget : (committed : ℕ) (t : Subscriptions) (position : ℕ) → IsCommitted committed t → IsCommitted committed (forgotten t position)

-- what is picked is open on the consumer's subscription: committed, unacknowledged and held by nobody
abbrev pub IsOpenFor : Option Subscription → ℕ → ℕ → Type 0
IsOpenFor None committed i = ⊥
IsOpenFor (Some s) committed i = IsOpenAt committed s.acked s.deliveries i

abbrev pub PickedIsOpen : Type 0
PickedIsOpen = (t : Subscriptions) (key : ConsumerKey) (committed i : ℕ) → Admits t key committed i → IsOpenFor (find (is_on key) t.subs) committed i

-- a consumer that may get a position may get it whatever more is learnt of its permits
abbrev pub LearningAdmits : Type 0
LearningAdmits = (t : Subscriptions) (key : ConsumerKey) (seen : Seen) (committed i : ℕ) → Admits t key committed i → Admits (learnt t key seen) key committed i
