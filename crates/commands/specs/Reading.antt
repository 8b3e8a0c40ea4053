-- How steps of reading a command follow one another.
use Rattle.std.specs.Prelude.{◌≡◌, Result, Ok, Err, Option, Some, None}
use Rattle.proto_fields.specs.declared.fault.FieldFault.{FieldFault}
use Rattle.commands.specs.declared.fault.CommandFault.{CommandFault}
use Rattle.commands.specs.declared.fault.CommandFault.TheVariants.{Unreadable, Missing, NoMemory}

-- the next step, unless this one met a fault
infixl 10 ◌>>=◌
abbrev pub ◌>>=◌ : {A B : Type 0} → Result A CommandFault → (A → Result B CommandFault) → Result B CommandFault
(Ok x) >>= f = f x
(Err e) >>= f = Err e

-- bytes that aren't fields are no message
abbrev pub readable : {A : Type 0} → Result A FieldFault → Result A CommandFault
readable (Ok x) = Ok x
readable (Err fault) = Err Unreadable

-- a required field
abbrev pub required : {A : Type 0} → Option A → Result A CommandFault
required None = Err Unreadable
required (Some x) = Ok x

-- the field of a command that its type asks for
abbrev pub present : {A : Type 0} → Option A → Result A CommandFault
present None = Err Missing
present (Some x) = Ok x

-- what a function returned is what reading gives, unless memory ran out
abbrev pub Reads : {A : Type 0} → Result A CommandFault → Result A CommandFault → Type 0
Reads (Ok x) read = read ≡ Ok x
Reads (Err Unreadable) read = read ≡ Err Unreadable
Reads (Err Missing) read = read ≡ Err Missing
Reads (Err NoMemory) read = Unit {0}
