-- Entries have from 1 to 1,048,576 messages.
use Rattle.std.proofs.Common.{◌≡◌, ℕ, ℤ, pos, negsuc, Bool, true, false, nat_lt, nat_le, cond, Result, Ok, Err, List, [], ◌∷◌, map, replicate, refl, ap, sym, arith}
use Rattle.std.specs.List.{AllByRecursion}
use Rattle.std.specs.Prelude.{unsigned_abs}
use Rattle.std.proofs.lemmas.Bool.{ltb-true, leb-true, false≢true}
use Rattle.commands.specs.declared.fault.CommandFault.{CommandFault}
use Rattle.commands.specs.declared.metadata.MessageMeta.{MessageMeta}
use Rattle.commands.specs.Metadata.{entry_of}
use Rattle.managed_ledger.specs.Entries.{Ledger, is_message_count}
use Rattle.subscriptions.specs.Marks.{IsCount}
use Rattle.subscriptions.proofs.Counts.{counts_joined, of_one}
use Rattle.topic_core.proofs.Flushing.{and_first, and_second}
use Rattle.topic_core.specs.Messages.{messages_in, messages_said, messages_of_entry, messages_of}

passed : (n : ℕ) → is_message_count (pos n) ≡ true → IsCount n
passed n h = (ltb-true 0 n (and_first (nat_lt 0 n) (nat_le n 1048576) h), leb-true n 1048576 (and_second (nat_lt 0 n) (nat_le n 1048576) h))

chosen : (b : Bool) (n : ℕ) → is_message_count (pos n) ≡ b → IsCount (cond b n 1)
chosen true n is = passed n is
chosen false n is = (omega arith, omega arith)

-- a number of messages is counted as it is, and any other one as one
pub counts_so : (z : ℤ) → is_message_count z ≡ true → unsigned_abs z ≡ messages_in z
counts_so (pos n) is = sym (ap (λ (b : Bool). cond b n 1) is)
counts_so (negsuc n) is = absurd (false≢true is)

pub counts_one : (z : ℤ) → is_message_count z ≡ false → 1 ≡ messages_in z
counts_one (pos n) is = sym (ap (λ (b : Bool). cond b n 1) is)
counts_one (negsuc n) is = refl

pub count_in : (z : ℤ) → IsCount (messages_in z)
count_in (pos n) = chosen (is_message_count (pos n)) n refl
count_in (negsuc n) = (omega arith, omega arith)

count_said : (r : Result MessageMeta CommandFault) → IsCount (messages_said r)
count_said (Ok meta) = count_in meta.num_messages_in_batch
count_said (Err fault) = (omega arith, omega arith)

pub count_of : (entry : List ℕ) → IsCount (messages_of_entry entry)
count_of entry = count_said (entry_of entry)

counts_of : (entries : List (List ℕ)) → AllByRecursion IsCount (map messages_of_entry entries)
counts_of [] = tt
counts_of (entry ∷ entries) = (count_of entry, counts_of entries)

pub each_count : (l : Ledger) → AllByRecursion IsCount (messages_of l)
each_count l = counts_joined (replicate l.base 1) (map messages_of_entry l.entries) (of_one l.base) (counts_of l.entries)
