-- The lines that a script prints.
use Rattle.std.specs.Prelude.{ℕ, List, [], ◌∷◌, ◌++◌, codes}
use Rattle.std.specs.Fmt.{decimal}
use Rattle.hex.specs.Hex.{encode_lower}
use Rattle.script.specs.declared.output.Outcome.{Outcome}
use Rattle.script.specs.declared.output.Outcome.TheVariants.{Done, Ended, Refused, Full, Unknown}
use Rattle.script.specs.declared.output.SessionFault.{SessionFault}
use Rattle.script.specs.declared.output.SessionFault.TheVariants as fault
use Rattle.script.specs.declared.output.StorageRefusal.{StorageRefusal}
use Rattle.script.specs.declared.output.StorageRefusal.TheVariants as refusal

abbrev pub word_of_fault : SessionFault → List ℕ
word_of_fault fault.TooLarge = codes "F1"
word_of_fault fault.BadSizes = codes "F2"
word_of_fault fault.Unreadable = codes "F3"
word_of_fault fault.Missing = codes "F4"
word_of_fault fault.BadPayload = codes "F5"
word_of_fault fault.UnknownCommand = codes "F6"
word_of_fault fault.OutOfTurn = codes "F7"
word_of_fault fault.TooManyPermits = codes "F8"
word_of_fault fault.NoMemory = codes "F9"

abbrev pub word_of_refusal : StorageRefusal → List ℕ
word_of_refusal refusal.Device = codes "S1"
word_of_refusal refusal.Damaged = codes "S2"
word_of_refusal refusal.NotInitialised = codes "S3"
word_of_refusal refusal.Version = codes "S4"
word_of_refusal refusal.NoMemory = codes "S5"
word_of_refusal refusal.TooLarge = codes "S6"

abbrev pub word_of_outcome : Outcome → List ℕ
word_of_outcome Done = codes "ok"
word_of_outcome (Ended why) = word_of_fault why
word_of_outcome (Refused why) = word_of_refusal why
word_of_outcome Full = codes "full"
word_of_outcome Unknown = codes "none"

-- bytes as lower-case hex, or a dash for none
abbrev pub hex_or_dash : List ℕ → List ℕ
hex_or_dash [] = codes "-"
hex_or_dash (byte ∷ bytes) = encode_lower (byte ∷ bytes)

-- the number of the line, the bytes out and the result, one space apart
abbrev pub output_line : ℕ → List ℕ → Outcome → List ℕ
output_line number bytes outcome = decimal number ++ (32 ∷ hex_or_dash bytes ++ (32 ∷ word_of_outcome outcome ++ 10 ∷ []))
