-- How many messages an entry has.
use Rattle.std.specs.Prelude.{ℕ, ℤ, pos, negsuc, Bool, false, cond, Result, Ok, Err, List, ◌++◌, map, replicate}
use Rattle.commands.specs.declared.fault.CommandFault.{CommandFault}
use Rattle.commands.specs.declared.metadata.MessageMeta.{MessageMeta}
use Rattle.commands.specs.Metadata.{entry_of}
use Rattle.managed_ledger.specs.Entries.{Ledger, is_message_count}
use Rattle.subscriptions.specs.Marks.{Marks}
use Rattle.topic_core.specs.Slots.{slots_of}

-- as many as the metadata says, and one where no entry has so many
abbrev pub messages_in : ℤ → ℕ
messages_in (pos n) = cond (is_message_count (pos n)) n 1
messages_in (negsuc n) = 1

-- the metadata can be read, and says how many messages there are
abbrev pub is_counted : Result MessageMeta CommandFault → Bool
is_counted (Ok meta) = is_message_count meta.num_messages_in_batch
is_counted (Err fault) = false

-- an entry whose metadata can't be read counts as one message
abbrev pub messages_said : Result MessageMeta CommandFault → ℕ
messages_said (Ok meta) = messages_in meta.num_messages_in_batch
messages_said (Err fault) = 1

abbrev pub messages_of_entry : List ℕ → ℕ
messages_of_entry entry = messages_said (entry_of entry)

-- how many messages a ledger's entries have, by position: one where the entry is gone
abbrev pub messages_of : Ledger → List ℕ
messages_of l = replicate l.base 1 ++ map messages_of_entry l.entries

-- the slots of a ledger's entries, and how many messages they have
abbrev pub marks_of : Ledger → Marks
marks_of l = record { slots = slots_of l; messages = messages_of l }
