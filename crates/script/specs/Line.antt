-- The grammar of a script's lines: words one space apart, numbers in decimal, bytes in hex.
use Rattle.std.specs.Prelude.{◌≡◌, ℕ, ◌<◌, ◌≤◌, ◌^◌, List, [], ◌∷◌, ◌++◌, length, codes, Ok}
use Rattle.std.specs.Str.Parse.{IsNumeral, digits_value}
use Rattle.hex.specs.Hex.{decode_of}
use Rattle.script.specs.declared.line.Line.{Line}
use Rattle.script.specs.declared.line.Line.TheVariants.{Open, Bytes, Pump, Close, Flush, Take, Write, Finish, Fail, Stop, FailRead, Crash, Reopen, Status}
use Rattle.script.specs.declared.line.CrashAs.{CrashAs}
use Rattle.script.specs.declared.line.CrashAs.TheVariants.{Old, New, Fill}

-- one decimal digit or more, which write a number below 2^64
abbrev pub IsNumber : List ℕ → ℕ → Type 0
IsNumber text n = IsNumeral 10 text × (digits_value 10 text ≡ n) × (n < 2 ^ 64)

-- two hex digits or more, two a byte, in either case
abbrev pub IsHex : List ℕ → List ℕ → Type 0
IsHex text bytes = (0 < length text) × (decode_of text ≡ Ok bytes)

-- a word, one space and a number
abbrev pub IsNumbered : List ℕ → List ℕ → ℕ → Type 0
IsNumbered text word n = (number : List ℕ) × (text ≡ word ++ 32 ∷ number) × IsNumber number n

-- the first line of a script says how many entries a ledger has: 1 to 50,000
abbrev pub IsInit : List ℕ → ℕ → Type 0
IsInit text n = IsNumbered text (codes "init") n × (1 ≤ n) × (n ≤ 50000)

-- a crash leaves what was synced, what was written, or in each place of doubt one byte, which two hex digits write
abbrev pub IsCrashAs : List ℕ → CrashAs → Type 0
IsCrashAs text Old = text ≡ codes "old"
IsCrashAs text New = text ≡ codes "new"
IsCrashAs text (Fill byte) = (hex : List ℕ) × (text ≡ codes "fill " ++ hex) × IsHex hex (byte ∷ [])

-- each further line is an event
abbrev pub IsLine : List ℕ → Line → Type 0
IsLine text Open = text ≡ codes "open"
IsLine text (Bytes session bytes) =
    (number : List ℕ) × (hex : List ℕ) × (text ≡ codes "bytes " ++ (number ++ 32 ∷ hex)) × IsNumber number session × IsHex hex bytes
IsLine text (Pump session) = IsNumbered text (codes "pump") session
IsLine text (Close session) = IsNumbered text (codes "close") session
IsLine text (Flush topic) = IsNumbered text (codes "flush") topic
IsLine text (Take topic) = IsNumbered text (codes "take") topic
IsLine text (Write topic) = IsNumbered text (codes "write") topic
IsLine text (Finish topic) = IsNumbered text (codes "finish") topic
IsLine text (Fail k) = IsNumbered text (codes "fail") k
IsLine text (Stop k) = IsNumbered text (codes "stop") k
IsLine text (FailRead k) = IsNumbered text (codes "failread") k
IsLine text (Crash form) = (words : List ℕ) × (text ≡ codes "crash " ++ words) × IsCrashAs words form
IsLine text (Reopen topic) = IsNumbered text (codes "reopen") topic
IsLine text Status = text ≡ codes "status"
