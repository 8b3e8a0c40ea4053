-- What holds of every script.
use Rattle.std.specs.Prelude.{◌≡◌, ℕ, ◌<◌, List, length, ◌⊎◌}
use Rattle.hex.specs.Hex.{IsBytes}
use Rattle.script.specs.declared.line.Line.{Line}
use Rattle.script.specs.declared.script.Script.{Script}
use Rattle.script.specs.Line.{IsLine, IsHex}
use Rattle.script.specs.Script.{IsScript, IsFirstBad}
use Rattle.script.specs.Output.{hex_or_dash}

-- a text is one event at most
abbrev pub LinesHaveOneReading : Type 0
LinesHaveOneReading = (text : List ℕ) (a b : Line) → IsLine text a → IsLine text b → a ≡ b

-- bytes are one script at most
abbrev pub ScriptsHaveOneReading : Type 0
ScriptsHaveOneReading = (bytes : List ℕ) (a b : Script) → IsScript bytes a → IsScript bytes b → a ≡ b

-- bytes are a script, or have a first bad line
abbrev pub IsScriptOrBad : Type 0
IsScriptOrBad = (bytes : List ℕ) → ((script : Script) × IsScript bytes script) ⊎ ((k : ℕ) × IsFirstBad bytes k)

-- and never both
abbrev pub ScriptsHaveNoBadLine : Type 0
ScriptsHaveNoBadLine = (bytes : List ℕ) (script : Script) (k : ℕ) → IsScript bytes script → IsFirstBad bytes k → ⊥

-- there is one first bad line at most
abbrev pub OneLineIsFirstBad : Type 0
OneLineIsFirstBad = (bytes : List ℕ) (j k : ℕ) → IsFirstBad bytes j → IsFirstBad bytes k → j ≡ k

-- what is printed of some bytes is what a script writes for them
abbrev pub PrintedBytesAreRead : Type 0
PrintedBytesAreRead = (bytes : List ℕ) → IsBytes bytes → 0 < length bytes → IsHex (hex_or_dash bytes) bytes
