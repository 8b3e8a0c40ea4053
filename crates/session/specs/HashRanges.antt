-- The hash ranges that a consumer asks for.
use Rattle.std.specs.Prelude.{ℕ, ℤ, pos, negsuc, nat_lt, cond, Option, Some, None, unwrap_or, List, [], ◌∷◌}
use Rattle.commands.specs.declared.consuming.SubscriptionType.{SubscriptionType}
use Rattle.commands.specs.declared.consuming.SubscriptionType.TheVariants.{Exclusive, Shared, Failover, KeyShared}
use Rattle.commands.specs.declared.key_shared.KeySharedMode.{KeySharedMode}
use Rattle.commands.specs.declared.key_shared.KeySharedMode.TheVariants.{AutoSplit, Sticky}
use Rattle.commands.specs.declared.key_shared.IntRange.{IntRange}
use Rattle.commands.specs.declared.key_shared.KeySharedMeta.{KeySharedMeta}
use Rattle.holds.specs.declared.consumer.SlotRange.{SlotRange}

-- a number from 0 to 65,535 is a slot
abbrev pub slot_at : ℤ → Option ℕ
slot_at (pos n) = cond (nat_lt n 65536) (Some n) None
slot_at (negsuc n) = None

abbrev pub range_between : Option ℕ → Option ℕ → Option SlotRange
range_between (Some start) (Some end) = Some (record { start = start; end = end })
range_between (Some start) None = None
range_between None end = None

-- a range of slots, where both ends are slots
abbrev pub range_at : IntRange → Option SlotRange
range_at range = range_between (slot_at range.start) (slot_at range.end)

abbrev pub put_first : Option SlotRange → Option (List SlotRange) → Option (List SlotRange)
put_first (Some range) (Some ranges) = Some (range ∷ ranges)
put_first (Some range) None = None
put_first None ranges = None

-- all of them, where each is one
abbrev pub all_ranges : List IntRange → Option (List SlotRange)
all_ranges [] = Some []
all_ranges (range ∷ ranges) = put_first (range_at range) (all_ranges ranges)

-- what is asked for of the broker, which splits no ranges: those that the client names, where all are ranges of slots, and else none
abbrev pub named_ranges : KeySharedMode → List IntRange → List SlotRange
named_ranges AutoSplit ranges = []
named_ranges Sticky ranges = unwrap_or (all_ranges ranges) []

abbrev pub asked_ranges : Option KeySharedMeta → List SlotRange
asked_ranges None = []
asked_ranges (Some meta) = named_ranges meta.mode meta.hash_ranges

-- in the other modes they are ignored
abbrev pub ranges_of : SubscriptionType → Option KeySharedMeta → List SlotRange
ranges_of Exclusive meta = []
ranges_of Shared meta = []
ranges_of Failover meta = []
ranges_of KeyShared meta = asked_ranges meta
