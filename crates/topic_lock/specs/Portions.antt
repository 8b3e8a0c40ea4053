-- How much a port hands out in a turn.
use Rattle.std.specs.Prelude.{ℕ, ◌-◌, Bool, nat_eq, nat_lt, if◌then◌else◌}
use Rattle.topic_lock.specs.declared.portion.Portion.{Portion}

-- nothing is left
abbrev pub is_full : Portion → Bool
is_full portion = nat_eq portion.left 0

-- what is left behind an entry of so many bytes; nothing, where one more as long wouldn't fit
abbrev pub left_behind : ℕ → ℕ → ℕ
left_behind left bytes = if nat_lt (left - bytes) bytes then 0 else left - bytes
