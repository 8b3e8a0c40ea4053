-- A body that is read as entries.
use Rattle.std.specs.Prelude.{◌≡◌, ◌≢◌, ℕ, ◌+◌, ◌≤◌, List, ◌++◌, length, take, drop, Option, None, Some, Ok}
use Rattle.commands.specs.declared.metadata.MessageMeta.{MessageMeta}
use Rattle.commands.specs.Metadata.{entry_of}
use Rattle.gated_log.specs.Batches.{sized}
use Rattle.managed_ledger.specs.declared.first_entry.FirstEntry.{FirstEntry}
use Rattle.managed_ledger.specs.Entries.{Entries, IsEntry, AreEntries, body_of}

-- the body of a batch with these entries
pub record IsBody (body : List ℕ) (entries : Entries) : Type 0 where
  pub bytes : body ≡ body_of entries
  pub each : AreEntries entries
  pub fits : length body ≤ 33554432

-- its metadata can be read
abbrev pub HasMeta : List ℕ → Type 0
HasMeta entry = (meta : MessageMeta) × (entry_of entry ≡ Ok meta)

-- its metadata, or none where it can't be read
abbrev pub IsMetaOf : List ℕ → Option MessageMeta → Type 0
IsMetaOf entry None = ¬ HasMeta entry
IsMetaOf entry (Some meta) = entry_of entry ≡ Ok meta

-- these bytes begin with an entry of this size
pub record BeginsWith (size : ℕ) (bytes : List ℕ) : Type 0 where
  pub there : 4 + size ≤ length bytes
  pub is_entry : IsEntry (take size (drop 4 bytes))
  pub bytes_are : bytes ≡ sized (take size (drop 4 bytes)) ++ drop (4 + size) bytes

-- the first entry; none where these bytes begin with no entry
abbrev pub IsFirst : List ℕ → Option FirstEntry → Type 0
IsFirst bytes None = (entry rest : List ℕ) → IsEntry entry → bytes ≢ sized entry ++ rest
IsFirst bytes (Some first) = BeginsWith first.size bytes × (entry_of (take first.size (drop 4 bytes)) ≡ Ok first.metadata)
