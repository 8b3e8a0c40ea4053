-- Which keys a consumer of a key-shared subscription takes.
use Rattle.std.specs.Prelude.{ℕ, List, Result, Ok, Err, ◌==◌, if◌then◌else◌}
use Rattle.commands.specs.declared.fault.CommandFault.{CommandFault}
use Rattle.commands.specs.declared.fault.CommandFault.TheVariants.{Unreadable}
use Rattle.commands.specs.declared.key_shared.KeySharedMode.{KeySharedMode}
use Rattle.commands.specs.declared.key_shared.KeySharedMode.TheVariants.{AutoSplit, Sticky}
use Rattle.commands.specs.declared.key_shared.IntRange.{IntRange}
use Rattle.commands.specs.declared.key_shared.KeySharedMeta.{KeySharedMeta}
use Rattle.commands.specs.Reading.{◌>>=◌, required}
use Rattle.commands.specs.Message.{message_fields, u64_field, i32_field, repeated_field}

-- the modes by their numbers
abbrev pub key_shared_mode : ℕ → Result KeySharedMode CommandFault
key_shared_mode k = if k == 0 then Ok AutoSplit else if k == 1 then Ok Sticky else Err Unreadable

unfoldable pub int_range_of : List ℕ → Result IntRange CommandFault
int_range_of bytes = do
  fields ← message_fields bytes
  start ← i32_field 1 fields >>= required
  end ← i32_field 2 fields >>= required
  Ok (record { start = start; end = end })

unfoldable pub key_shared_meta_of : List ℕ → Result KeySharedMeta CommandFault
key_shared_meta_of bytes = do
  fields ← message_fields bytes
  mode ← u64_field 1 fields >>= required >>= key_shared_mode
  hash_ranges ← repeated_field int_range_of 3 fields
  Ok (record { mode = mode; hash_ranges = hash_ranges })
