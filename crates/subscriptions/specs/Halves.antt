-- What the marks of a topic's entries say.
use Rattle.std.specs.Prelude.{ℕ, ◌+◌, ◌*◌, List, ◌++◌, replicate, map as each}
use Rattle.subscriptions.specs.declared.entry_marks.Mark.{Mark}
use Rattle.subscriptions.specs.Marks.{Marks}

-- how many messages the entry has
abbrev pub messages_of : Mark → ℕ
messages_of mark = mark.high * 65536 + mark.low

abbrev pub slots_in : List Mark → List ℕ
slots_in marks = each (λ (m : Mark). m.slot) marks

abbrev pub messages_in : List Mark → List ℕ
messages_in marks = each messages_of marks

-- behind so many entries that have slot 0, and one message
abbrev pub marks_of : ℕ → List Mark → Marks
marks_of from marks = record { slots = replicate from 0 ++ slots_in marks; messages = replicate from 1 ++ messages_in marks }
