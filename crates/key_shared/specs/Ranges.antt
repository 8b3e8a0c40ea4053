-- Why a consumer's hash ranges are refused, and what a consumer may get.
use Rattle.std.specs.Prelude.{ℕ, ◌≤◌, List, [], ◌∷◌, length, nat_lt, nat_le, nat_eq, Bool, false, ◌&&◌, ◌||◌, cond, Some, None, Option, IsTrue, IsSomeAnd}
use Rattle.std.specs.List.{list_any, position, AllPairs}
use Rattle.holds.specs.Backlog.{Backlog, IsOpenIn, IsLeast, attached, in_ranges}
use Rattle.holds.specs.Deliveries.{same_key}
use Rattle.holds.specs.declared.consumer.Consumer.{Consumer}
use Rattle.holds.specs.declared.consumer.ConsumerKey.{ConsumerKey}
use Rattle.holds.specs.declared.consumer.SlotRange.{SlotRange}
use Rattle.holds.specs.declared.consumer.Refusal.{Refusal}
use Rattle.holds.specs.declared.consumer.Refusal.TheVariants.{TooManyConsumers, ConsumerAssignError}

-- whether a range ends before it starts
abbrev pub is_backward : SlotRange → Bool
is_backward r = nat_lt r.end r.start

-- whether two ranges have a slot in common, both ends included
abbrev pub meets : SlotRange → SlotRange → Bool
meets a b = nat_le a.start b.end && nat_le b.start a.end

-- whether a range of the list meets a later one
abbrev pub meets_own : List SlotRange → Bool
meets_own [] = false
meets_own (r ∷ rs) = list_any (meets r) rs || meets_own rs

-- whether a range of the one list meets one of the other
abbrev pub meet : List SlotRange → List SlotRange → Bool
meet ranges others = list_any (λ r. list_any (meets r) others) ranges

-- whether the ranges are none, or one is backward, or meets another or one of an attached consumer
abbrev pub are_refused : List Consumer → List SlotRange → Bool
are_refused consumers ranges =
    nat_eq (length ranges) 0 || list_any is_backward ranges || meets_own ranges || list_any (λ c. meet ranges c.ranges) consumers

-- a subscription takes sixty-four consumers, and their ranges don't meet
abbrev pub sticky_refusal : List Consumer → Consumer → Option Refusal
sticky_refusal consumers consumer =
    cond (nat_lt (length consumers) 64) (cond (are_refused consumers consumer.ranges) (Some ConsumerAssignError) None) (Some TooManyConsumers)

-- an attached consumer may get the least open position whose slot lies in its ranges
abbrev pub AdmitsSticky : List Consumer → Backlog → ConsumerKey → ℕ → Type 0
AdmitsSticky consumers b key i = IsSomeAnd (attached key consumers) (λ c. IsLeast (IsOpenIn b c.ranges) i)

-- the place of the consumer with this key
abbrev pub place_of : ConsumerKey → List Consumer → Option ℕ
place_of key consumers = position (λ c. same_key c.key key) consumers

-- position i from a place on is open, and its slot lies in the ranges
abbrev pub IsOpenFrom : Backlog → List SlotRange → ℕ → ℕ → Type 0
IsOpenFrom b ranges from i = (from ≤ i) × IsOpenIn b ranges i

-- no slot lies in the ranges of both consumers
abbrev pub AreDisjoint : Consumer → Consumer → Type 0
AreDisjoint c d = (slot : ℕ) → IsTrue (in_ranges c.ranges slot) → IsTrue (in_ranges d.ranges slot) → ⊥

-- no slot lies in the ranges of two consumers
abbrev pub AreApart : List Consumer → Type 0
AreApart consumers = AllPairs AreDisjoint consumers
