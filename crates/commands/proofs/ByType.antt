-- A command by its last type.
use Rattle.std.proofs.Common.{◌≡◌, ◌↔◌, ℕ, List, Option, Some, None, IsSome, MatchOption, Result, Ok, Err, ◌⊎◌, inl, inr, refl, ap, ◌∙◌, sym, subst}
use Rattle.proto_fields.specs.declared.fault.FieldFault.{FieldFault}
use Rattle.proto_fields.specs.declared.value.Field.{Field}
use Rattle.proto_fields.specs.Fields.{fields_of, FieldsOf}
use Rattle.proto_fields.proofs.FieldList.{reads_whole}
use Rattle.commands.specs.declared.fault.CommandFault.{CommandFault}
use Rattle.commands.specs.declared.fault.CommandFault.TheVariants.{Missing}
use Rattle.commands.specs.declared.command.Command.{Command}
use Rattle.commands.specs.declared.command.Command.TheVariants.{Other}
use Rattle.commands.specs.declared.command.CommandType.{CommandType}
use Rattle.commands.specs.Reading.{◌>>=◌, readable, required, present}
use Rattle.commands.specs.Message.{message_fields, u64_field, message_field}
use Rattle.commands.specs.Commands.{command_type, command_in, command_by, command_of}
use Rattle.commands.specs.Laws.{IsAbsent, IsOfType, IsJoined, IsCommand, ReadsCommands}
use Rattle.commands.proofs.Occurrences.{bind_ok, reads_occurrences}
use Rattle.commands.proofs.Readable.{only-bind, only-required, only-fields, only-u64, only-message, only-command}
use Rattle.commands.proofs.Apart.{not_other}

bind_err : {A B : Type 0} (r : Result A CommandFault) (f : A → Result B CommandFault) (e : CommandFault) → (r >>= f) ≡ Err e →
    (r ≡ Err e) ⊎ ((x : A) × (r ≡ Ok x) × (f x ≡ Err e))
bind_err (Ok x) f e h = inr (x, refl, h)
bind_err (Err d) f e h = let same : d ≡ e = cc in inl (ap (λ x. Err x) same)

readable_ok : {A : Type 0} (r : Result A FieldFault) (x : A) → readable r ≡ Ok x → r ≡ Ok x
readable_ok (Ok y) x h = let e : y ≡ x = cc in ap (λ z. Ok z) e
readable_ok (Err e) x h = cc

required_ok : {A : Type 0} (found : Option A) (x : A) → required found ≡ Ok x → found ≡ Some x
required_ok (Some y) x h = let e : y ≡ x = cc in ap (λ z. Some z) e
required_ok None x h = cc

present_ok : {A : Type 0} (found : Option A) (x : A) → present found ≡ Ok x → found ≡ Some x
present_ok (Some y) x h = let e : y ≡ x = cc in ap (λ z. Some z) e
present_ok None x h = cc

present_err : {A : Type 0} (found : Option A) (e : CommandFault) → present found ≡ Err e → found ≡ None
present_err (Some y) e h = cc
present_err None e h = refl

read-are : (bytes : List ℕ) (fields : List Field) → message_fields bytes ≡ Ok fields → FieldsOf bytes fields
unfolding message_fields
read-are bytes fields h = (reads_whole bytes fields).0 (readable_ok (fields_of bytes) fields h)

are-read : (bytes : List ℕ) (fields : List Field) → FieldsOf bytes fields → message_fields bytes ≡ Ok fields
unfolding message_fields
are-read bytes fields h = rw ((reads_whole bytes fields).1 h) refl

type-last : (bytes : List ℕ) (fields : List Field) (k : ℕ) → message_fields bytes ≡ Ok fields → (u64_field 1 fields >>= required) ≡ Ok k → IsOfType k bytes fields
type-last bytes fields k read h =
    let found = bind_ok (u64_field 1 fields) _ _ h in
    let is = found.1 ∙ ap (λ x. Ok x) (required_ok found.0 k found.2) in
    record { fields_are = read-are bytes fields read; type_is = (reads_occurrences.numbers 1 k fields).0 is }

-- a command by its type
by-type : (k : ℕ) (bytes : List ℕ) (fields : List Field) → IsOfType k bytes fields → command_of bytes ≡ command_by k fields (command_type k)
unfolding command_of
by-type k bytes fields h = rw (are-read bytes fields h.fields_are) (rw ((reads_occurrences.numbers 1 k fields).1 h.type_is) refl)

-- what holds where a command is read
abbrev IsByType : ℕ → List Field → Option CommandType → Command → Type 0
IsByType k fields kind command = MatchOption kind (command ≡ Other k) (λ kind. (body : List ℕ) × IsJoined k fields body × (command_in kind body ≡ Ok command))

read-by : (k : ℕ) (fields : List Field) (kind : Option CommandType) (command : Command) → command_by k fields kind ≡ Ok command → IsByType k fields kind command
read-by k fields None command h = cc
read-by k fields (Some kind) command h =
    let body = bind_ok (message_field k fields >>= present) _ _ h in
    let found = bind_ok (message_field k fields) _ _ body.1 in
    let is = found.1 ∙ ap (λ x. Ok x) (present_ok found.0 body.0 found.2) in
    (body.0, (reads_occurrences.messages k body.0 fields).0 is, body.2)

by-read : (k : ℕ) (fields : List Field) (kind : Option CommandType) (command : Command) → IsByType k fields kind command → command_by k fields kind ≡ Ok command
by-read k fields None command h = ap (λ c. Ok c) (sym h)
by-read k fields (Some kind) command h = rw ((reads_occurrences.messages k h.0 fields).1 h.1) h.2

-- the bytes of a command begin as those of a type
begins : (bytes : List ℕ) (command : Command) → command_of bytes ≡ Ok command →
    (k : ℕ) × (fields : List Field) × IsOfType k bytes fields × (command_by k fields (command_type k) ≡ Ok command)
unfolding command_of
begins bytes command h =
    let fields = bind_ok (message_fields bytes) _ _ h in
    let k = bind_ok (u64_field 1 fields.0 >>= required) _ _ fields.2 in
    (k.0, fields.0, type-last bytes fields.0 k.0 fields.1 k.1, k.2)

commands : (bytes : List ℕ) (command : Command) → (command_of bytes ≡ Ok command) ↔ IsCommand bytes command
commands bytes command = (
  λ h. let found = begins bytes command h in (found.0, found.1, found.2, read-by found.0 found.1 (command_type found.0) command found.3),
  λ h. by-type h.0 bytes h.1 h.2 ∙ by-read h.0 h.1 (command_type h.0) command h.3,
)

other-by : (k j : ℕ) (fields : List Field) (kind : Option CommandType) → command_by k fields kind ≡ Ok (Other j) → (kind ≡ None) × (k ≡ j)
other-by k j fields None h = (refl, cc)
other-by k j fields (Some kind) h =
    let body = bind_ok (message_field k fields >>= present) _ _ h in absurd (not_other kind body.0 j body.2)

others : (bytes : List ℕ) (k : ℕ) → (command_of bytes ≡ Ok (Other k)) ↔ ((command_type k ≡ None) × (fields : List Field) × IsOfType k bytes fields)
others bytes k = (
  λ h.
      let found = begins bytes (Other k) h in
      let is = other-by found.0 k found.1 (command_type found.0) found.3 in
      let same : found.0 ≡ k = is.1 in
      let P : ℕ → Type 0 = λ j. (command_type j ≡ None) × (fields : List Field) × IsOfType j bytes fields in
      subst P same (is.0, found.1, found.2),
  λ h. by-type k bytes h.1 h.2 ∙ rw h.0 refl,
)

-- only the command of a type is missing
abbrev IsMissing : List ℕ → Type 0
IsMissing bytes = (k : ℕ) × IsSome (command_type k) × (fields : List Field) × IsOfType k bytes fields × IsAbsent k fields

missing-by : (k : ℕ) (fields : List Field) (kind : Option CommandType) → command_by k fields kind ≡ Err Missing → IsSome kind × IsAbsent k fields
missing-by k fields None h = cc
missing-by k fields (Some kind) h =
    elim (bind_err (message_field k fields >>= present) _ _ h) [
      | inl absent ↦ elim (bind_err (message_field k fields) _ _ absent) [
        | inl e ↦ let is = (only-message k fields).only Missing e in cc
        | inr found ↦
            let is = found.1 ∙ ap (λ x. Ok x) (present_err found.0 Missing found.2) in (refl, (reads_occurrences.no_message k fields).0 is)
      ]
      | inr body ↦ let is = (only-command kind body.0).only Missing body.2 in cc
    ]

by-missing : (k : ℕ) (fields : List Field) (kind : Option CommandType) → IsSome kind → IsAbsent k fields → command_by k fields kind ≡ Err Missing
by-missing k fields None some absent = cc
by-missing k fields (Some kind) some absent = rw ((reads_occurrences.no_message k fields).1 absent) refl

begins-missing : (bytes : List ℕ) → command_of bytes ≡ Err Missing → IsMissing bytes
unfolding command_of
begins-missing bytes h =
    elim (bind_err (message_fields bytes) _ _ h) [
      | inl e ↦ let is = (only-fields bytes).only Missing e in cc
      | inr fields ↦ elim (bind_err (u64_field 1 fields.0 >>= required) _ _ fields.2) [
        | inl e ↦ let is = (only-bind (only-u64 1 fields.0) (λ found. only-required found)).only Missing e in cc
        | inr k ↦
            let is = missing-by k.0 fields.0 (command_type k.0) k.2 in
            (k.0, is.0, fields.0, type-last bytes fields.0 k.0 fields.1 k.1, is.1)
      ]
    ]

missing : (bytes : List ℕ) → (command_of bytes ≡ Err Missing) ↔ IsMissing bytes
missing bytes = (begins-missing bytes, λ h. by-type h.0 bytes h.2 h.3 ∙ by-missing h.0 h.2 (command_type h.0) h.1 h.4)

pub reads_commands : ReadsCommands
reads_commands = record { commands = commands; others = others; missing = missing }
