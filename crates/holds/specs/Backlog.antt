-- What a dispatcher may know of a subscription, and which positions each mode admits.
use Rattle.std.specs.Prelude.{◌≡◌, ℕ, ◌<◌, ◌≤◌, List, Bool, ◌&&◌, nat_le, slice_index, IsTrue, Some, None, nat_lt, length, cond, not, filter, Option}
use Rattle.std.specs.List.{list_any, slice_get, find}
use Rattle.cursor.specs.Positions.{Positions, Lacks}
use Rattle.holds.specs.declared.consumer.ConsumerKey.{ConsumerKey}
use Rattle.holds.specs.Deliveries.{Deliveries, holder, same_key}
use Rattle.holds.specs.declared.consumer.SlotRange.{SlotRange}
use Rattle.holds.specs.declared.consumer.Consumer.{Consumer}
use Rattle.holds.specs.declared.consumer.Refusal.{Refusal}
use Rattle.holds.specs.declared.consumer.Refusal.TheVariants.{TooManyConsumers}

-- the committed length, the acknowledged positions, what was delivered, and the slot of each committed entry
pub record Backlog : Type 0 where
  pub committed : ℕ
  pub acked : Positions
  pub deliveries : Deliveries
  pub slots : List ℕ

-- position i is committed, unacknowledged and held by nobody
pub record IsOpenAt (committed : ℕ) (acked : Positions) (deliveries : Deliveries) (i : ℕ) : Type 0 where
  pub is_committed : i < committed
  pub is_unacked : Lacks acked i
  pub is_free : holder deliveries i ≡ None

abbrev pub IsOpen : Backlog → ℕ → Type 0
IsOpen b i = IsOpenAt b.committed b.acked b.deliveries i

-- i is the least position with P
abbrev pub IsLeast : (ℕ → Type 0) → ℕ → Type 0
IsLeast P i = P i × ((j : ℕ) → P j → i ≤ j)

-- whether a slot lies in one of the ranges, both ends included
abbrev pub in_ranges : List SlotRange → ℕ → Bool
in_ranges ranges slot = list_any (λ r. nat_le r.start slot && nat_le slot r.end) ranges

-- position i is open, and its slot lies in the ranges
abbrev pub IsOpenIn : Backlog → List SlotRange → ℕ → Type 0
IsOpenIn b ranges i = IsOpen b i × IsTrue (in_ranges ranges (slice_index b.slots i))

-- the consumers but this one
abbrev pub without : ConsumerKey → List Consumer → List Consumer
without key consumers = filter (λ c. not (same_key c.key key)) consumers

-- the attached consumer with this key
abbrev pub attached : ConsumerKey → List Consumer → Option Consumer
attached key consumers = find (λ c. same_key c.key key) consumers

-- the consumer with this key was attached first
abbrev pub IsFirst : List Consumer → ConsumerKey → Type 0
IsFirst consumers key = (c : Consumer) × (slice_get consumers 0 ≡ Some c) × (c.key ≡ key)

-- a subscription takes sixty-four consumers
abbrev pub room_refusal : List Consumer → Option Refusal
room_refusal consumers = cond (nat_lt (length consumers) 64) None (Some TooManyConsumers)
