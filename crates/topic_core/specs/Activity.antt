-- What a topic counts of what it has done.
use Rattle.std.specs.Prelude.{ℕ, ◌+◌, ◌-◌, ◌^◌, min, Bool, true, false}
use Rattle.topic_core.specs.declared.activity.Activity.{Activity}

abbrev pub none_so_far : Activity
none_so_far = record { messages = 0; acknowledgements = 0; flushes = 0; bytes = 0 }

-- a count goes up to 2^64 - 1
abbrev pub raised : ℕ → ℕ → ℕ
raised count more = min (count + more) (2 ^ 64 - 1)

abbrev pub with_message : Bool → Activity → Activity
with_message true a = record a { messages = raised a.messages 1 }
with_message false a = a

abbrev pub with_changes : Bool → ℕ → Activity → Activity
with_changes true more a = record a { acknowledgements = raised a.acknowledgements more }
with_changes false more a = a

abbrev pub with_flush : Bool → ℕ → Activity → Activity
with_flush true more a = record a { flushes = raised a.flushes 1; bytes = raised a.bytes more }
with_flush false more a = a
