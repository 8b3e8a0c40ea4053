-- The bytes of an embedded message, in one part or joined.
use Rattle.std.specs.Prelude.{ℕ, List}
use Rattle.commands.specs.declared.content.Parts.{Parts}
use Rattle.commands.specs.declared.content.Parts.TheVariants.{One, Joined}

abbrev pub bytes_of : Parts → List ℕ
bytes_of (One part) = part
bytes_of (Joined bytes) = bytes
