use Rattle.std.proofs.Common.{ℕ, ◌<◌, ◌∷◌, [], List, length, arith}
use Rattle.hex.specs.Hex.{IsBytes, lower_digits}
use Rattle.hex.proofs.HexLemmas.{decode_of-encode_lower, length-encode_with}
use Rattle.script.specs.Line.{IsHex}
use Rattle.script.specs.Output.{hex_or_dash}
use Rattle.script.proofs.laws.printed_bytes_are_read.Goals as goal

printed : (bytes : List ℕ) → IsBytes bytes → 0 < length bytes → IsHex (hex_or_dash bytes) bytes
printed [] all some = absurd (omega arith)
printed (byte ∷ bytes) all some = (omega (arith, length-encode_with lower_digits (byte ∷ bytes)), decode_of-encode_lower (byte ∷ bytes) all)

pub returns : goal.returns
returns c = printed
