-- What holds of the subscriptions of a topic at any time.
use Rattle.std.specs.Prelude.{◌≡◌, ℕ, ◌+◌, ◌^◌, ◌≤◌, true, Some, None, length, map as each}
use Rattle.std.specs.List.{AllByRecursion, IsDistinct}
use Rattle.std.specs.Str.{bytes_eq}
use Rattle.std.specs.FinMap as map
use Rattle.holds.specs.Deliveries.{holder}
use Rattle.holds.specs.declared.consumer.ConsumerKey.{ConsumerKey}
use Rattle.holds.specs.declared.consumer.Consumer.{Consumer as Seat}
use Rattle.key_shared.specs.Ranges.{AreApart as AreRangesApart}
use Rattle.subscriptions.specs.declared.consumer.Mode.TheVariants.{Exclusive, KeyShared}
use Rattle.subscriptions.specs.State.{Consumer}
use Rattle.subscriptions.specs.State.{Subscription, Subscriptions}
use Rattle.subscriptions.specs.Progress.{AreApart}
use Rattle.subscriptions.specs.Marks.{IsCount}
use Rattle.subscriptions.specs.Steps.{is_on}

-- a consumer got fewer than 1,048,576 messages beyond its permits, and no more permits than there are positions
pub record IsWithinPermits (c : Consumer) : Type 0 where
  pub sent : c.sent ≤ c.granted + 1048575
  pub granted : c.granted ≤ 2 ^ 62

pub record IsSoundSubscription (s : Subscription) : Type 0 where
  pub few : length s.consumers ≤ 64
  pub single : s.mode ≡ Exclusive → length s.consumers ≤ 1
  pub permits : AllByRecursion IsWithinPermits s.consumers
  -- who has permits has a seat, in the same order
  pub seated : each (λ (seat : Seat). seat.key) s.seats ≡ each (λ (c : Consumer). c.key) s.consumers
  -- no slot lies in the ranges of two consumers
  pub ranges_apart : s.mode ≡ KeyShared → AreRangesApart s.seats
  -- a held position is unacknowledged, and its holder is attached
  pub unacknowledged : AreApart s.acked s.deliveries
  pub held : (i : ℕ) (key : ConsumerKey) → holder s.deliveries i ≡ Some key → is_on key s ≡ true

-- the names differ, and the limits hold
pub record HasLimits (t : Subscriptions) : Type 0 where
  pub names : IsDistinct bytes_eq (each (λ s. s.name) t.subs)
  pub subscriptions : length t.subs ≤ 64
  pub changes : length t.changes ≤ 65536

pub record IsSound (t : Subscriptions) : Type 0 where
  pub limits : HasLimits t
  pub each_one : AllByRecursion IsSoundSubscription t.subs
  pub messages : AllByRecursion IsCount t.messages

-- no position from the committed length on is known: all deliveries are of committed positions
abbrev pub IsCommittedOn : ℕ → Subscription → Type 0
IsCommittedOn committed s = (i : ℕ) → committed ≤ i → map.get s.deliveries i ≡ None

abbrev pub IsCommitted : ℕ → Subscriptions → Type 0
IsCommitted committed t = AllByRecursion (IsCommittedOn committed) t.subs
