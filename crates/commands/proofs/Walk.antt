-- A search over the fields of a message: each field of the number changes what was found.
use Rattle.std.proofs.Common.{◌≡◌, ◌≢◌, ℕ, List, [], ◌∷◌, ◌++◌, Ok, Err, Result, Option, Some, None, unwrap_or, Bool, true, false, cond, ◌||◌, nat_eq, is_ok, refl, ap, ◌∙◌, sym, arith, append_assoc, append-nil}
use Rattle.std.specs.List.{fold, flat_map}
use Rattle.std.specs.Result.{result_unwrap_or}
use Rattle.std.proofs.lemmas.Bool.Decides.{nat_tests}
use Rattle.proto_fields.specs.declared.fault.FieldFault.{FieldFault}
use Rattle.proto_fields.specs.declared.value.Field.{Field}
use Rattle.proto_fields.specs.declared.value.Value.{Value}
use Rattle.proto_fields.specs.declared.value.Value.TheVariants.{Varint, Fixed64, Bytes, Fixed32}
use Rattle.proto_fields.specs.Fields.{field_at, fields_of}
use Rattle.proto_fields.proofs.FieldList.{fields_of-none, fields_of-more, fields_of-fault}
use Rattle.proto_fields.specs.Reading.{◌>>=◌ as ◌>=>◌}
use Rattle.commands.specs.declared.fault.CommandFault.{CommandFault}
use Rattle.commands.specs.declared.fault.CommandFault.TheVariants.{Unreadable}
use Rattle.commands.specs.Reading.{◌>>=◌, readable}
use Rattle.commands.specs.Message.{message_fields, known_fields, in_message, occurrences, last, last_field, joined, varint_of, content_of, message_field, has_field}

-- the first field in front of the others
abbrev pub with_first : Field → Result (List Field) CommandFault → Result (List Field) CommandFault
with_first field others = others >>= λ fields. Ok (field ∷ fields)

readable-first : (field : Field) (r : Result (List Field) FieldFault) →
    readable (r >=> λ others. Ok (field ∷ others)) ≡ with_first field (readable r)
readable-first field (Ok others) = refl
readable-first field (Err e) = refl

pub message_fields-none : message_fields [] ≡ Ok []
unfolding message_fields
message_fields-none = rw fields_of-none refl

pub message_fields-more : (bytes : List ℕ) (x : Field × List ℕ) → field_at bytes ≡ Ok x → message_fields bytes ≡ with_first x.0 (message_fields x.1)
unfolding message_fields
message_fields-more bytes x h = rw (fields_of-more bytes x h) (readable-first x.0 (fields_of x.1))

pub message_fields-fault : (bytes : List ℕ) (fault : FieldFault) → bytes ≢ [] → field_at bytes ≡ Err fault → message_fields bytes ≡ Err Unreadable
unfolding message_fields
message_fields-fault bytes fault some h = rw (fields_of-fault bytes fault some h) refl

-- a message that can't be read is Unreadable
pub message_fields-err : (bytes : List ℕ) (e : CommandFault) → message_fields bytes ≡ Err e → e ≡ Unreadable
unfolding message_fields
message_fields-err bytes e h =
    elim (fields_of bytes) as (λ r. readable r ≡ Err e → e ≡ Unreadable) [ Ok fields ↦ λ k. cc | Err fault ↦ λ k. cc ] h

-- what a search gives from these fields on
abbrev pub found_in : {A S : Type 0} → (Value → Result A CommandFault) → ℕ → (S → A → S) → S → Result (List Field) CommandFault → Result S CommandFault
found_in kind number add found read = read >>= λ fields. occurrences kind number fields >>= λ xs. Ok (fold add found xs)

-- a search that has come so far has found this
pub record Searched {A S : Type 0} (kind : Value → Result A CommandFault) (number : ℕ) (add : S → A → S) (start : S) (bytes : List ℕ) (found : S) (rest : List ℕ) : Type 0 where
  pub same : found_in kind number add start (message_fields bytes) ≡ found_in kind number add found (message_fields rest)

pub searched-none : {A S : Type 0} (kind : Value → Result A CommandFault) (number : ℕ) (add : S → A → S) (start : S) (bytes : List ℕ) →
    Searched kind number add start bytes start bytes
searched-none kind number add start bytes = record { same = refl }

-- a field of another number
found_in-other : {A S : Type 0} (kind : Value → Result A CommandFault) (number : ℕ) (add : S → A → S) (found : S) (field : Field) (r : Result (List Field) CommandFault) →
    nat_eq field.number number ≡ false → found_in kind number add found (with_first field r) ≡ found_in kind number add found r
unfolding occurrences
found_in-other kind number add found field (Ok fields) e = rw e refl
found_in-other kind number add found field (Err fault) e = refl

pub found_in-first : {A S : Type 0} (add : S → A → S) (found : S) (x : A) (r : Result (List A) CommandFault) →
    ((r >>= λ others. Ok (x ∷ others)) >>= λ xs. Ok (fold add found xs)) ≡ (r >>= λ xs. Ok (fold add (add found x) xs))
found_in-first add found x (Ok others) = refl
found_in-first add found x (Err fault) = refl

-- a field of this number
found_in-this : {A S : Type 0} (kind : Value → Result A CommandFault) (number : ℕ) (add : S → A → S) (found : S) (field : Field) (x : A) (r : Result (List Field) CommandFault) →
    nat_eq field.number number ≡ true → kind field.value ≡ Ok x → found_in kind number add found (with_first field r) ≡ found_in kind number add (add found x) r
unfolding occurrences
found_in-this kind number add found field x (Ok fields) e k = rw e (rw k (found_in-first add found x (occurrences kind number fields)))
found_in-this kind number add found field x (Err fault) e k = refl

-- a field of this number and another wire type
found_in-wrong : {A S : Type 0} (kind : Value → Result A CommandFault) (number : ℕ) (add : S → A → S) (found : S) (field : Field) (r : Result (List Field) CommandFault) →
    nat_eq field.number number ≡ true → kind field.value ≡ Err Unreadable → ((e : CommandFault) → r ≡ Err e → e ≡ Unreadable) →
    found_in kind number add found (with_first field r) ≡ Err Unreadable
unfolding occurrences
found_in-wrong kind number add found field (Ok fields) e k only = rw e (rw k refl)
found_in-wrong kind number add found field (Err fault) e k only = ap (λ f. Err f) (only fault refl)

pub searched-other : {A S : Type 0} {kind : Value → Result A CommandFault} {number : ℕ} {add : S → A → S} {start : S} {bytes : List ℕ} {found : S} {rest : List ℕ} (field : Field) (after : List ℕ) →
    Searched kind number add start bytes found rest → field_at rest ≡ Ok (field, after) → field.number ≢ number →
    Searched kind number add start bytes found after
searched-other {A} {S} {kind} {number} {add} {start} {bytes} {found} {rest} field after h at ne =
    let e : nat_eq field.number number ≡ false = grind (arith, nat_tests) in
    record {
      same = h.same ∙ ap (found_in kind number add found) (message_fields-more rest (field, after) at)
          ∙ found_in-other kind number add found field (message_fields after) e;
    }

pub searched-this : {A S : Type 0} {kind : Value → Result A CommandFault} {number : ℕ} {add : S → A → S} {start : S} {bytes : List ℕ} {found : S} {rest : List ℕ} (field : Field) (after : List ℕ) (x : A) →
    Searched kind number add start bytes found rest → field_at rest ≡ Ok (field, after) → field.number ≡ number → Ok x ≡ kind field.value →
    Searched kind number add start bytes (add found x) after
searched-this {A} {S} {kind} {number} {add} {start} {bytes} {found} {rest} field after x h at eq k =
    let e : nat_eq field.number number ≡ true = grind (arith, nat_tests) in
    record {
      same = h.same ∙ ap (found_in kind number add found) (message_fields-more rest (field, after) at)
          ∙ found_in-this kind number add found field x (message_fields after) e (sym k);
    }

pub searched-wrong : {A S : Type 0} {kind : Value → Result A CommandFault} {number : ℕ} {add : S → A → S} {start : S} {bytes : List ℕ} {found : S} {rest : List ℕ} (field : Field) (after : List ℕ) →
    Searched kind number add start bytes found rest → field_at rest ≡ Ok (field, after) → field.number ≡ number → Err Unreadable ≡ kind field.value →
    found_in kind number add start (message_fields bytes) ≡ Err Unreadable
searched-wrong {A} {S} {kind} {number} {add} {start} {bytes} {found} {rest} field after h at eq k =
    let e : nat_eq field.number number ≡ true = grind (arith, nat_tests) in
    h.same ∙ ap (found_in kind number add found) (message_fields-more rest (field, after) at)
    ∙ found_in-wrong kind number add found field (message_fields after) e (sym k) (message_fields-err after)

pub searched-fault : {A S : Type 0} {kind : Value → Result A CommandFault} {number : ℕ} {add : S → A → S} {start : S} {bytes : List ℕ} {found : S} {rest : List ℕ} (fault : FieldFault) →
    Searched kind number add start bytes found rest → rest ≢ [] → field_at rest ≡ Err fault →
    found_in kind number add start (message_fields bytes) ≡ Err Unreadable
searched-fault {A} {S} {kind} {number} {add} {start} {bytes} {found} {rest} fault h some at =
    h.same ∙ ap (found_in kind number add found) (message_fields-fault rest fault some at)

pub searched-all : {A S : Type 0} {kind : Value → Result A CommandFault} {number : ℕ} {add : S → A → S} {start : S} {bytes : List ℕ} {found : S} {rest : List ℕ} →
    Searched kind number add start bytes found rest → rest ≡ [] → found_in kind number add start (message_fields bytes) ≡ Ok found
unfolding occurrences
searched-all {A} {S} {kind} {number} {add} {start} {bytes} {found} {rest} h e =
    h.same ∙ ap (λ b. found_in kind number add found (message_fields b)) e ∙ ap (found_in kind number add found) message_fields-none

-- the last one counts
abbrev pub newest : {A : Type 0} → Option A → A → Option A
newest found x = Some x

fold-newest : {A : Type 0} (x : A) (xs : List A) → fold newest (Some x) xs ≡ Some (unwrap_or (last xs) x)
fold-newest x [] = refl
fold-newest x (y ∷ ys) = fold-newest y ys

pub last-fold : {A : Type 0} (xs : List A) → fold newest None xs ≡ last xs
last-fold [] = refl
last-fold (x ∷ xs) = fold-newest x xs

-- one more part behind the others
abbrev pub longer : Option (List ℕ) → List ℕ → Option (List ℕ)
longer found part = Some (unwrap_or found [] ++ part)

fold-longer : (done : List ℕ) (parts : List (List ℕ)) → fold longer (Some done) parts ≡ Some (done ++ flat_map (λ p. p) parts)
fold-longer done [] = ap (λ l. Some l) (sym (append-nil done))
fold-longer done (part ∷ parts) = fold-longer (done ++ part) parts ∙ ap (λ l. Some l) (append_assoc done part (flat_map (λ p. p) parts))

pub joined-fold : (parts : List (List ℕ)) → fold longer None parts ≡ joined parts
joined-fold [] = refl
joined-fold (part ∷ parts) = fold-longer part parts

pub last-found : {A : Type 0} (r : Result (List A) CommandFault) → (r >>= λ xs. Ok (fold newest None xs)) ≡ (r >>= λ xs. Ok (last xs))
last-found (Ok xs) = ap (λ x. Ok x) (last-fold xs)
last-found (Err e) = refl

last-in : {A : Type 0} (kind : Value → Result A CommandFault) (number : ℕ) (r : Result (List Field) CommandFault) →
    found_in kind number newest None r ≡ (r >>= last_field kind number)
unfolding last_field
last-in kind number (Ok fields) = last-found (occurrences kind number fields)
last-in kind number (Err e) = refl

-- the search for the last field
pub search-last : {A : Type 0} (kind : Value → Result A CommandFault) (number : ℕ) (bytes : List ℕ) →
    found_in kind number newest None (message_fields bytes) ≡ in_message (last_field kind number) bytes
search-last kind number bytes = last-in kind number (message_fields bytes)

joined-found : (r : Result (List (List ℕ)) CommandFault) → (r >>= λ xs. Ok (fold longer None xs)) ≡ (r >>= λ xs. Ok (joined xs))
joined-found (Ok xs) = ap (λ x. Ok x) (joined-fold xs)
joined-found (Err e) = refl

joined-in : (number : ℕ) (r : Result (List Field) CommandFault) → found_in content_of number longer None r ≡ (r >>= message_field number)
unfolding message_field
joined-in number (Ok fields) = joined-found (occurrences content_of number fields)
joined-in number (Err e) = refl

-- the search for all parts of an embedded message
pub search-joined : (number : ℕ) (bytes : List ℕ) →
    found_in content_of number longer None (message_fields bytes) ≡ in_message (message_field number) bytes
search-joined number bytes = joined-in number (message_fields bytes)

-- one more part behind the others
abbrev pub with_part : List (List ℕ) → List ℕ → List (List ℕ)
with_part found part = found ++ part ∷ []

fold-with_part : (done parts : List (List ℕ)) → fold with_part done parts ≡ done ++ parts
fold-with_part done [] = sym (append-nil done)
fold-with_part done (part ∷ parts) = fold-with_part (done ++ part ∷ []) parts ∙ append_assoc done (part ∷ []) parts

parts-found : (r : Result (List (List ℕ)) CommandFault) → (r >>= λ xs. Ok (fold with_part [] xs)) ≡ r
parts-found (Ok xs) = ap (λ x. Ok x) (fold-with_part [] xs)
parts-found (Err e) = refl

parts-in : (number : ℕ) (r : Result (List Field) CommandFault) → found_in content_of number with_part [] r ≡ (r >>= occurrences content_of number)
parts-in number (Ok fields) = parts-found (occurrences content_of number fields)
parts-in number (Err e) = refl

-- the search for the parts of a repeated field
pub search-parts : (number : ℕ) (bytes : List ℕ) →
    found_in content_of number with_part [] (message_fields bytes) ≡ in_message (occurrences content_of number) bytes
search-parts number bytes = parts-in number (message_fields bytes)

-- a value of whatever wire type
abbrev pub any_of : Value → Result (Unit {0}) CommandFault
any_of value = Ok tt

-- one is there
abbrev pub seen : Bool → Unit {0} → Bool
seen found x = true

fold-seen : (xs : List (Unit {0})) → fold seen true xs ≡ true
fold-seen [] = refl
fold-seen (x ∷ xs) = fold-seen xs

one-seen : (r : Result (List (Unit {0})) CommandFault) (found : Bool) → is_ok r ≡ true →
    ((r >>= λ others. Ok (tt ∷ others)) >>= λ xs. Ok (fold seen found xs)) ≡ Ok true
one-seen (Ok xs) found h = ap (λ b. Ok b) (fold-seen xs)
one-seen (Err e) found h = cc

any-read : (number : ℕ) (fields : List Field) → is_ok (occurrences any_of number fields) ≡ true
unfolding occurrences
any-read number [] = refl
any-read number (field ∷ fields) =
    let others = any-read number fields in
    elim (nat_eq field.number number) as (λ b. is_ok (cond b (occurrences any_of number fields >>= λ others. Ok (tt ∷ others)) (occurrences any_of number fields)) ≡ true) [
      | true ↦ elim (occurrences any_of number fields) as (λ r. is_ok r ≡ true → is_ok (r >>= λ others. Ok (tt ∷ others)) ≡ true) [ Ok xs ↦ λ h. refl | Err e ↦ λ h. h ] others
      | false ↦ others
    ]

has-found : (number : ℕ) (fields : List Field) → (occurrences any_of number fields >>= λ xs. Ok (fold seen false xs)) ≡ Ok (has_field number fields)
unfolding occurrences
has-found number [] = refl
has-found number (field ∷ fields) =
    let read = any-read number fields in
    let others = has-found number fields in
    elim (nat_eq field.number number) as (λ b. (cond b (occurrences any_of number fields >>= λ others. Ok (tt ∷ others)) (occurrences any_of number fields) >>= λ xs. Ok (fold seen false xs)) ≡ Ok (b || has_field number fields)) [
      | true ↦ one-seen (occurrences any_of number fields) false read
      | false ↦ others
    ]

has-in : (number : ℕ) (r : Result (List Field) CommandFault) → found_in any_of number seen false r ≡ (r >>= λ fields. Ok (has_field number fields))
has-in number (Ok fields) = has-found number fields
has-in number (Err e) = refl

-- the search for a field of whatever wire type
pub search-has : (number : ℕ) (bytes : List ℕ) →
    found_in any_of number seen false (message_fields bytes) ≡ in_message (λ fields. Ok (has_field number fields)) bytes
search-has number bytes = has-in number (message_fields bytes)

-- the bytes are a message exactly where the rest is one
pub record Read (bytes rest : List ℕ) : Type 0 where
  pub same : is_ok (message_fields bytes) ≡ is_ok (message_fields rest)

is_ok-first : (field : Field) (r : Result (List Field) CommandFault) → is_ok (with_first field r) ≡ is_ok r
is_ok-first field (Ok fields) = refl
is_ok-first field (Err e) = refl

pub read-more : {bytes rest : List ℕ} (x : Field × List ℕ) → Read bytes rest → field_at rest ≡ Ok x → Read bytes x.1
read-more {bytes} {rest} x h at = record { same = h.same ∙ ap is_ok (message_fields-more rest x at) ∙ is_ok-first x.0 (message_fields x.1) }

pub read-fault : {bytes rest : List ℕ} (fault : FieldFault) → Read bytes rest → rest ≢ [] → field_at rest ≡ Err fault → message_fields bytes ≡ Err Unreadable
read-fault {bytes} {rest} fault h some at =
    let none : is_ok (message_fields bytes) ≡ false = h.same ∙ ap is_ok (message_fields-fault rest fault some at) in
    elim (message_fields bytes) as (λ r. message_fields bytes ≡ r → is_ok r ≡ false → message_fields bytes ≡ Err Unreadable) [
      | Ok fields ↦ λ e k. cc
      | Err e ↦ λ is k. is ∙ ap (λ f. Err f) (message_fields-err bytes e is)
    ] refl none

pub read-all : {bytes rest : List ℕ} → Read bytes rest → rest ≡ [] → message_fields bytes ≡ Ok (known_fields bytes)
read-all {bytes} {rest} h e =
    let whole : is_ok (message_fields bytes) ≡ true = h.same ∙ ap (λ b. is_ok (message_fields b)) e ∙ ap is_ok message_fields-none in
    elim (message_fields bytes) as (λ r. is_ok r ≡ true → r ≡ Ok (result_unwrap_or r [])) [
      | Ok fields ↦ λ k. refl
      | Err e ↦ λ k. cc
    ] whole

-- a value of another wire type is Unreadable
pub varint_of-err : (value : Value) (e : CommandFault) → Err e ≡ varint_of value → e ≡ Unreadable
varint_of-err (Varint n) e h = cc
varint_of-err (Fixed64 n) e h = cc
varint_of-err (Bytes bytes) e h = cc
varint_of-err (Fixed32 n) e h = cc

pub content_of-err : (value : Value) (e : CommandFault) → Err e ≡ content_of value → e ≡ Unreadable
content_of-err (Varint n) e h = cc
content_of-err (Fixed64 n) e h = cc
content_of-err (Bytes bytes) e h = cc
content_of-err (Fixed32 n) e h = cc
