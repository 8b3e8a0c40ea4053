-- What reading gives, as functions on lists of bytes. `Line` and `Script` say what is read.
use Rattle.std.specs.Prelude.{◌≡◌, ℕ, ◌+◌, ◌^◌, ◌&&◌, ◌==◌, nat_lt, if◌then◌else◌, List, [], ◌∷◌, length, codes, Option, Some, None, Result, Ok, Err, option_map, slice_get}
use Rattle.std.specs.List.{slice_split, before_first, after_first, position_or_len}
use Rattle.std.specs.Option.{option_map_or}
use Rattle.std.specs.Result.{result_ok}
use Rattle.std.specs.Str.{all_ascii_digits, bytes_eq}
use Rattle.std.specs.Str.Parse.{digits_value}
use Rattle.hex.specs.Hex.{decode_of, decode_sized}
use Rattle.script.specs.Script.{is_line_feed, texts_of}
use Rattle.script.specs.declared.line.Line.{Line}
use Rattle.script.specs.declared.line.Line.TheVariants.{Open, Bytes, Pump, Close, Flush, Take, Write, Finish, Fail, Stop, FailRead, Crash, Reopen, Status}
use Rattle.script.specs.declared.line.CrashAs.{CrashAs}
use Rattle.script.specs.declared.line.CrashAs.TheVariants.{Old, New, Fill}
use Rattle.script.specs.declared.line.LineFault.{LineFault}
use Rattle.script.specs.declared.line.LineFault.TheVariants as line_fault
use Rattle.script.specs.declared.script.Script.{Script}
use Rattle.script.specs.declared.script.ScriptFault.{ScriptFault}
use Rattle.script.specs.declared.script.ScriptFault.TheVariants as script_fault

-- what follows the front, where the text begins with it
unfoldable pub after : List ℕ → List ℕ → Option (List ℕ)
after [] text = Some text
after (c ∷ front) [] = None
after (c ∷ front) (d ∷ text) = if d == c then after front text else None

-- the number below 2^64 that decimal digits write
unfoldable pub number_of : List ℕ → Option ℕ
number_of text =
    if nat_lt 0 (length text) && all_ascii_digits text && nat_lt (digits_value 10 text) (2 ^ 64)
    then Some (digits_value 10 text) else None

-- the bytes of hex digits, one byte or more
unfoldable pub hex_of : List ℕ → Option (List ℕ)
hex_of text = if length text == 0 then None else result_ok (decode_of text)

infixl 10 ◌>>=◌
abbrev pub ◌>>=◌ : {A B : Type 0} → Option A → (A → Option B) → Option B
None >>= f = None
Some x >>= f = f x

-- how many entries a ledger has
unfoldable pub init_of : List ℕ → Option ℕ
init_of text = do
  number ← after (codes "init ") text
  n ← number_of number
  if nat_lt n 1 then None else (if nat_lt 50000 n then None else Some n)

-- what stands before and behind the first of a byte, if there is one
unfoldable pub around : ℕ → List ℕ → Option (List ℕ × List ℕ)
around byte bytes =
    if nat_lt (position_or_len (λ other. other == byte) bytes) (length bytes)
    then Some (before_first (λ other. other == byte) bytes, after_first (λ other. other == byte) bytes) else None

-- a session's number, one space and hex
unfoldable pub bytes_line_of : List ℕ → Option Line
bytes_line_of words = do
  parts ← around 32 words
  session ← number_of parts.0
  bytes ← hex_of parts.1
  Some (Bytes session bytes)

-- the byte of two hex digits
unfoldable pub byte_of : List ℕ → Option ℕ
byte_of text = do
  bytes ← result_ok (decode_sized text 1)
  slice_get bytes 0

-- what a crash leaves
unfoldable pub crash_as_of : List ℕ → Option CrashAs
crash_as_of text =
    if bytes_eq text (codes "old") then Some Old else
    if bytes_eq text (codes "new") then Some New else
    option_map Fill (after (codes "fill ") text >>= byte_of)

-- the event of a word and a number
abbrev pub event_of : List ℕ → ℕ → Option Line
event_of word n =
    if bytes_eq word (codes "pump") then Some (Pump n) else
    if bytes_eq word (codes "close") then Some (Close n) else
    if bytes_eq word (codes "flush") then Some (Flush n) else
    if bytes_eq word (codes "take") then Some (Take n) else
    if bytes_eq word (codes "write") then Some (Write n) else
    if bytes_eq word (codes "finish") then Some (Finish n) else
    if bytes_eq word (codes "fail") then Some (Fail n) else
    if bytes_eq word (codes "stop") then Some (Stop n) else
    if bytes_eq word (codes "failread") then Some (FailRead n) else
    if bytes_eq word (codes "reopen") then Some (Reopen n) else None

-- a word, one space and a number
unfoldable pub numbered_line_of : List ℕ → Option Line
numbered_line_of text = do
  parts ← around 32 text
  n ← number_of parts.1
  event_of parts.0 n

-- what is made of what follows a front, or else of the text
abbrev pub where_after : List ℕ → List ℕ → (List ℕ → Option Line) → Option Line → Option Line
where_after front text found otherwise = option_map_or found (after front text) otherwise

-- the event of a line
unfoldable pub line_of : List ℕ → Option Line
line_of text =
    if bytes_eq text (codes "open") then Some Open else
    if bytes_eq text (codes "status") then Some Status else
    where_after (codes "bytes ") text bytes_line_of (
    where_after (codes "crash ") text (λ words. option_map Crash (crash_as_of words))
    (numbered_line_of text))

-- the pieces of what is left, if anything is
abbrev pub pieces_of : Option (List ℕ) → List (List ℕ)
pieces_of None = []
pieces_of (Some rest) = slice_split is_line_feed rest

-- what a reader of a line returned is what reading gives, unless memory ran out
abbrev pub ReadsLine : Result Line LineFault → Option Line → Type 0
ReadsLine (Ok line) read = read ≡ Some line
ReadsLine (Err line_fault.Bad) read = read ≡ None
ReadsLine (Err line_fault.NoMemory) read = Unit {0}

abbrev pub ReadsBytes : Result (List ℕ) LineFault → Option (List ℕ) → Type 0
ReadsBytes (Ok bytes) read = read ≡ Some bytes
ReadsBytes (Err line_fault.Bad) read = read ≡ None
ReadsBytes (Err line_fault.NoMemory) read = Unit {0}

-- the lines of texts that are counted from `number` on, or the number of the first bad one
abbrev pub onto_lines : Line → Result (List Line) ℕ → Result (List Line) ℕ
onto_lines line (Ok lines) = Ok (line ∷ lines)
onto_lines line (Err k) = Err k

abbrev pub lines_after : ℕ → Option Line → Result (List Line) ℕ → Result (List Line) ℕ
lines_after number None others = Err number
lines_after number (Some line) others = onto_lines line others

unfoldable pub lines_from : ℕ → List (List ℕ) → Result (List Line) ℕ
lines_from number [] = Ok []
lines_from number (text ∷ texts) = lines_after number (line_of text) (lines_from (number + 1) texts)

abbrev pub ReadsLines : Result (List Line) ScriptFault → Result (List Line) ℕ → Type 0
ReadsLines (Ok lines) read = read ≡ Ok lines
ReadsLines (Err (script_fault.BadLine k)) read = read ≡ Err k
ReadsLines (Err script_fault.NoMemory) read = Unit {0}

-- a script of its first line and the others
abbrev pub script_after : Option ℕ → Result (List Line) ℕ → Result Script ℕ
script_after None others = Err 1
script_after (Some n) (Ok lines) = Ok (record { per_ledger = n; lines = lines })
script_after (Some n) (Err k) = Err k

unfoldable pub script_of_texts : List (List ℕ) → Result Script ℕ
script_of_texts [] = Err 1
script_of_texts (first ∷ rest) = script_after (init_of first) (lines_from 2 rest)

-- the script of the bytes, or the number of their first bad line
abbrev pub script_of : List ℕ → Result Script ℕ
script_of bytes = script_of_texts (texts_of bytes)

abbrev pub ReadsScript : Result Script ScriptFault → Result Script ℕ → Type 0
ReadsScript (Ok script) read = read ≡ Ok script
ReadsScript (Err (script_fault.BadLine k)) read = read ≡ Err k
ReadsScript (Err script_fault.NoMemory) read = Unit {0}
