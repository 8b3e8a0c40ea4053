-- What a batch has is of its form: its entries, and its changes, also beside a longer ledger.
use Rattle.std.proofs.Common.{◌≡◌, ℕ, true, ◌+◌, ◌≤◌, Result, Ok, Err, List, [], ◌∷◌, length, refl, sym, subst, ◌∙◌, arith}
use Rattle.std.proofs.Math.Logic.{∥∥₁_elim, ∥∥₁_map}
use Rattle.std.specs.Coded.{Coded-set, coded_bool, le_prop}
use mathlib.Core.HLevel.{⊥_prop}
use Rattle.commands.specs.declared.fault.CommandFault.{CommandFault}
use Rattle.commands.specs.declared.metadata.MessageMeta.{MessageMeta}
use Rattle.commands.specs.Metadata.{entry_of}
use Rattle.managed_ledger.specs.Entries.{Entries, Ledger, is_message_count, IsEntry, AreEntries, end_of, lengthened}
use Rattle.managed_ledger.specs.Trims.{end_lengthened}
use Rattle.records.specs.declared.record.Record.{Record}
use Rattle.records.specs.declared.record.Record.TheVariants.{Made, Removed, Acknowledged, AcknowledgedThrough, AcknowledgedRange}
use Rattle.records.specs.Maps.{Kept}
use Rattle.records.specs.Records.{IsFormed, AreFormed, after}

-- the metadata that was read says how many messages the entry has
is_counted : (entry : List ℕ) (meta : MessageMeta) → entry_of entry ≡ Ok meta → IsEntry entry → is_message_count meta.num_messages_in_batch ≡ true
is_counted entry meta is x =
    let read = sym x.readable ∙ is in
    let same : x.meta ≡ meta = cc in
    subst (λ (m : MessageMeta). is_message_count m.num_messages_in_batch ≡ true) same x.counted

-- an entry that is known to be one is one
is_entry : (entry : List ℕ) (read : Result MessageMeta CommandFault) → entry_of entry ≡ read → ∥ IsEntry entry ∥₁ → IsEntry entry
is_entry entry (Ok meta) is h = record {
  meta = meta;
  no_longer = ∥∥₁_elim h le_prop (λ x. x.no_longer);
  readable = is;
  counted = ∥∥₁_elim h (Coded-set coded_bool _ _) (is_counted entry meta is);
}
is_entry entry (Err why) is h = absurd (∥∥₁_elim h ⊥_prop (λ x. let e = sym x.readable ∙ is in cc))

pub are_entries : (entries : Entries) → ∥ AreEntries entries ∥₁ → AreEntries entries
are_entries [] h = tt
are_entries (entry ∷ entries) h = (is_entry entry (entry_of entry) refl (∥∥₁_map h (λ x. x.0)), are_entries entries (∥∥₁_map h (λ x. x.1)))

formed_one : (e m : ℕ) (kept : Kept) (r : Record) → e ≤ m → IsFormed e kept r → IsFormed m kept r
formed_one e m kept (Made n start) low f = record { name_is = f.name_is; placed = (f.placed.0, omega (arith, low, f.placed.1)) }
formed_one e m kept (Removed n) low f = record { name_is = f.name_is; placed = f.placed }
formed_one e m kept (Acknowledged n p) low f = record { name_is = f.name_is; placed = (f.placed.0, omega (arith, low, f.placed.1)) }
formed_one e m kept (AcknowledgedThrough n p) low f = record { name_is = f.name_is; placed = (f.placed.0, omega (arith, low, f.placed.1)) }
formed_one e m kept (AcknowledgedRange n a b) low f = record { name_is = f.name_is; placed = (f.placed.0, f.placed.1, omega (arith, low, f.placed.2)) }

pub formed_longer : (e m : ℕ) (rs : List Record) (kept : Kept) → e ≤ m → AreFormed e kept rs → AreFormed m kept rs
formed_longer e m [] kept low f = tt
formed_longer e m (r ∷ rs) kept low f = (formed_one e m kept r low f.0, formed_longer e m rs (after r kept) low f.1)

-- the changes of a batch, beside the ledger with its entries
pub formed_there : (count : ℕ) (ledger : Ledger) (batch : Entries) (kept remembered : Kept) (changes : List Record) → count ≡ end_of ledger → remembered ≡ kept → AreFormed (count + length batch) remembered changes → AreFormed (end_of (lengthened ledger batch)) kept changes
formed_there count ledger batch kept remembered changes counts same formed =
    subst (λ k. AreFormed (end_of (lengthened ledger batch)) k changes) same
    (formed_longer (count + length batch) (end_of (lengthened ledger batch)) changes remembered (omega (arith, counts, end_lengthened ledger batch)) formed)
