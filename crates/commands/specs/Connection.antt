-- The commands that open a connection and keep it open.
use Rattle.std.specs.Prelude.{ℕ, List, unwrap_or, Result, Ok, pos}
use Rattle.commands.specs.declared.fault.CommandFault.{CommandFault}
use Rattle.commands.specs.declared.connection.Connect.{Connect}
use Rattle.commands.specs.Reading.{◌>>=◌, required}
use Rattle.commands.specs.Message.{message_fields, i32_field, text_field}

unfoldable pub connect_of : List ℕ → Result Connect CommandFault
connect_of bytes = do
  fields ← message_fields bytes
  client_version ← text_field 1 fields >>= required
  protocol_version ← i32_field 4 fields
  Ok (record { client_version = client_version; protocol_version = unwrap_or protocol_version (pos 0) })

-- a message of which no field is known
abbrev pub empty_of : List ℕ → Result (Unit {0}) CommandFault
empty_of bytes = message_fields bytes >>= λ fields. Ok tt
