-- The occurrences of a field, by the fields themselves.
use Rattle.std.proofs.Common.{◌≡◌, ◌≢◌, ◌↔◌, ℕ, List, [], ◌∷◌, ◌++◌, map, Some, None, unwrap_or, Result, Ok, Err, IsOk, true, false, ◌||◌, nat_eq, All, refl, ap, ◌∙◌, sym, subst, arith}
use Rattle.std.specs.List.{flat_map}
use Rattle.std.specs.Result.{result_unwrap_or}
use Rattle.std.proofs.lemmas.List.Elements.{All-head, All-tail, All-cons}
use Rattle.std.proofs.lemmas.Bool.Decides.{nat_tests}
use Rattle.proto_fields.specs.declared.value.Field.{Field}
use Rattle.proto_fields.specs.declared.value.Value.{Value}
use Rattle.commands.specs.declared.fault.CommandFault.{CommandFault}
use Rattle.commands.specs.Reading.{◌>>=◌}
use Rattle.commands.specs.Message.{varint_of, content_of, occurrences, last, joined, last_field, message_field, each, repeated_field, has_field}
use Rattle.commands.specs.MessageIds.{message_id_of}
use Rattle.commands.specs.KeyShared.{int_range_of}
use Rattle.commands.specs.Laws.{IsLast, IsAbsent, IsJoined, IsListed, ReadsEach, content_in, of_number, ReadsOccurrences}

-- both steps succeed where one after the other does
pub bind_ok : {A B : Type 0} (r : Result A CommandFault) (f : A → Result B CommandFault) (y : B) → (r >>= f) ≡ Ok y → (x : A) × (r ≡ Ok x) × (f x ≡ Ok y)
bind_ok (Ok x) f y h = (x, refl, h)
bind_ok (Err e) f y h = cc

pub same_number : (field : Field) (k : ℕ) → field.number ≡ k → nat_eq field.number k ≡ true
same_number field k h = grind (arith, nat_tests)

pub other_number : (field : Field) (k : ℕ) → field.number ≢ k → nat_eq field.number k ≡ false
other_number field k h = grind (arith, nat_tests)

pub is_number : (field : Field) (k : ℕ) → nat_eq field.number k ≡ true → field.number ≡ k
is_number field k h = grind (arith, nat_tests)

pub isnt_number : (field : Field) (k : ℕ) → nat_eq field.number k ≡ false → field.number ≢ k
isnt_number field k h = grind (arith, nat_tests)

-- one field more: of another number
pub occurrences-other : {A : Type 0} (kind : Value → Result A CommandFault) (k : ℕ) (field : Field) (fields : List Field) →
    nat_eq field.number k ≡ false → occurrences kind k (field ∷ fields) ≡ occurrences kind k fields
unfolding occurrences
occurrences-other kind k field fields e = rw e refl

-- one field more: of this number
pub occurrences-this : {A : Type 0} (kind : Value → Result A CommandFault) (k : ℕ) (field : Field) (fields : List Field) →
    nat_eq field.number k ≡ true → occurrences kind k (field ∷ fields) ≡ (kind field.value >>= λ first. occurrences kind k fields >>= λ others. Ok (first ∷ others))
unfolding occurrences
occurrences-this kind k field fields e = rw e refl

pub occurrences-nothing : {A : Type 0} (kind : Value → Result A CommandFault) (k : ℕ) → occurrences kind k [] ≡ Ok []
unfolding occurrences
occurrences-nothing kind k = refl

absent-nothing : (k : ℕ) → IsAbsent k []
absent-nothing k i d h = absurd (omega arith)

-- which occurrences there are where none is there
absent-occurrences : {A : Type 0} (kind : Value → Result A CommandFault) (k : ℕ) (fields : List Field) → IsAbsent k fields → occurrences kind k fields ≡ Ok []
absent-occurrences kind k [] h = occurrences-nothing kind k
absent-occurrences kind k (field ∷ fields) h =
    occurrences-other kind k field fields (other_number field k (All-head (λ f. f.number ≢ k) field fields h))
    ∙ absent-occurrences kind k fields (All-tail (λ f. f.number ≢ k) field fields h)

abbrev pub AreOk : {A : Type 0} → A → A → Type 0
AreOk {A} xs ys = let left : Result A CommandFault = Ok xs in left ≡ Ok ys

pub same_ok : {A : Type 0} (x y : A) → AreOk x y → x ≡ y
same_ok x y h = cc

occurrences-absent : {A : Type 0} (kind : Value → Result A CommandFault) (k : ℕ) (fields : List Field) → occurrences kind k fields ≡ Ok [] → IsAbsent k fields
occurrences-absent kind k [] h = absent-nothing k
occurrences-absent kind k (field ∷ fields) h =
    elim (nat_eq field.number k) as (λ b. nat_eq field.number k ≡ b → IsAbsent k (field ∷ fields)) [
      | true ↦ λ e.
          let first = bind_ok (kind field.value) _ _ (sym (occurrences-this kind k field fields e) ∙ h) in
          let others = bind_ok (occurrences kind k fields) _ _ first.2 in
          cc
      | false ↦ λ e.
          All-cons (λ f. f.number ≢ k) field fields (isnt_number field k e)
          (occurrences-absent kind k fields (sym (occurrences-other kind k field fields e) ∙ h))
    ] refl

last_field-other : {A : Type 0} (kind : Value → Result A CommandFault) (k : ℕ) (field : Field) (fields : List Field) →
    nat_eq field.number k ≡ false → last_field kind k (field ∷ fields) ≡ last_field kind k fields
unfolding last_field
last_field-other kind k field fields e = rw (occurrences-other kind k field fields e) refl

last-first : {A : Type 0} (y : A) (r : Result (List A) CommandFault) →
    ((r >>= λ others. Ok (y ∷ others)) >>= λ found. Ok (last found)) ≡ ((r >>= λ found. Ok (last found)) >>= λ found. Ok (Some (unwrap_or found y)))
last-first y (Ok xs) = refl
last-first y (Err e) = refl

last_field-this : {A : Type 0} (kind : Value → Result A CommandFault) (k : ℕ) (field : Field) (y : A) (fields : List Field) →
    nat_eq field.number k ≡ true → kind field.value ≡ Ok y →
    last_field kind k (field ∷ fields) ≡ (last_field kind k fields >>= λ found. Ok (Some (unwrap_or found y)))
unfolding last_field
last_field-this kind k field y fields e is = rw (occurrences-this kind k field fields e) (rw is (last-first y (occurrences kind k fields)))

-- nothing is found exactly where no field has the number
last_field-absent : {A : Type 0} (kind : Value → Result A CommandFault) (k : ℕ) (fields : List Field) → last_field kind k fields ≡ Ok None → IsAbsent k fields
unfolding last_field
last_field-absent kind k fields h =
    let found = bind_ok (occurrences kind k fields) _ _ h in
    elim found.0 as (λ xs. occurrences kind k fields ≡ Ok xs → AreOk (last xs) None → IsAbsent k fields) [
      | [] ↦ λ is none. occurrences-absent kind k fields is
      | x ∷ xs ↦ λ is none. let e : Some (unwrap_or (last xs) x) ≡ None = same_ok _ _ none in cc
    ] found.1 found.2

absent-last_field : {A : Type 0} (kind : Value → Result A CommandFault) (k : ℕ) (fields : List Field) → IsAbsent k fields → last_field kind k fields ≡ Ok None
unfolding last_field
absent-last_field kind k fields h = rw (absent-occurrences kind k fields h) refl

ok_kind : {A : Type 0} (r : Result A CommandFault) (y : A) → r ≡ Ok y → IsOk r
ok_kind (Ok x) y h = refl
ok_kind (Err e) y h = cc

-- one field more in front
last-in_front : {A : Type 0} {kind : Value → Result A CommandFault} {k : ℕ} {x : A} {fields : List Field} (field : Field) →
    IsLast kind k fields x → (field.number ≡ k → IsOk (kind field.value)) → IsLast kind k (field ∷ fields) x
last-in_front {A} {kind} {k} {x} {fields} field h is = record {
  before = field ∷ h.before;
  field = h.field;
  behind = h.behind;
  split = ap (λ l. field ∷ l) h.split;
  number_is = h.number_is;
  value_is = h.value_is;
  kinds = All-cons (λ other. other.number ≡ k → IsOk (kind other.value)) field h.before is h.kinds;
  no_later = h.no_later;
}

last_field-wrong : {A : Type 0} (kind : Value → Result A CommandFault) (k : ℕ) (field : Field) (e : CommandFault) (fields : List Field) →
    nat_eq field.number k ≡ true → kind field.value ≡ Err e → last_field kind k (field ∷ fields) ≡ Err e
unfolding last_field
last_field-wrong kind k field e fields t is = rw (occurrences-this kind k field fields t) (rw is refl)

last_field-last : {A : Type 0} (kind : Value → Result A CommandFault) (k : ℕ) (x : A) (fields : List Field) → last_field kind k fields ≡ Ok (Some x) → IsLast kind k fields x
last_field-last kind k x [] h = let e : None ≡ Some x = same_ok _ _ (sym (absent-last_field kind k [] (absent-nothing k)) ∙ h) in cc
last_field-last kind k x (field ∷ fields) h =
    elim (nat_eq field.number k) as (λ b. nat_eq field.number k ≡ b → IsLast kind k (field ∷ fields) x) [
      | true ↦ λ t. elim (kind field.value) as (λ r. kind field.value ≡ r → IsLast kind k (field ∷ fields) x) [
        | Ok y ↦ λ is.
            let found = bind_ok (last_field kind k fields) _ _ (sym (last_field-this kind k field y fields t is) ∙ h) in
            elim found.0 as (λ f. last_field kind k fields ≡ Ok f → AreOk (Some (unwrap_or f y)) (Some x) → IsLast kind k (field ∷ fields) x) [
              | None ↦ λ none same.
                  let e : Some y ≡ Some x = same_ok _ _ same in
                  let value : y ≡ x = cc in
                  record {
                    before = [];
                    field = field;
                    behind = fields;
                    split = refl;
                    number_is = is_number field k t;
                    value_is = is ∙ ap (λ v. Ok v) value;
                    kinds = λ i d lt. absurd (omega arith);
                    no_later = last_field-absent kind k fields none;
                  }
              | Some z ↦ λ more same.
                  let e : Some z ≡ Some x = same_ok _ _ same in
                  let value : z ≡ x = cc in
                  last-in_front field (last_field-last kind k x fields (more ∙ ap (λ v. Ok (Some v)) value)) (λ _. ok_kind (kind field.value) y is)
            ] found.1 found.2
        | Err e ↦ λ is. let wrong = sym (last_field-wrong kind k field e fields t is) ∙ h in cc
      ] refl
      | false ↦ λ e.
          last-in_front field (last_field-last kind k x fields (sym (last_field-other kind k field fields e) ∙ h)) (λ same. absurd (isnt_number field k e same))
    ] refl

last-last_field : {A : Type 0} (kind : Value → Result A CommandFault) (k : ℕ) (x : A) (before : List Field) (field : Field) (behind : List Field) →
    field.number ≡ k → kind field.value ≡ Ok x → All (λ other. other.number ≡ k → IsOk (kind other.value)) before → IsAbsent k behind →
    last_field kind k (before ++ field ∷ behind) ≡ Ok (Some x)
last-last_field kind k x [] field behind same is kinds later =
    last_field-this kind k field x behind (same_number field k same) is ∙ rw (absent-last_field kind k behind later) refl
last-last_field kind k x (first ∷ before) field behind same is kinds later =
    let others = last-last_field kind k x before field behind same is (All-tail (λ other. other.number ≡ k → IsOk (kind other.value)) first before kinds) later in
    elim (nat_eq first.number k) as (λ b. nat_eq first.number k ≡ b → last_field kind k (first ∷ (before ++ field ∷ behind)) ≡ Ok (Some x)) [
      | true ↦ λ t. elim (kind first.value) as (λ r. kind first.value ≡ r → IsOk r → last_field kind k (first ∷ (before ++ field ∷ behind)) ≡ Ok (Some x)) [
        | Ok y ↦ λ value ok. last_field-this kind k first y (before ++ field ∷ behind) t value ∙ rw others refl
        | Err e ↦ λ value ok. cc
      ] refl (All-head (λ other. other.number ≡ k → IsOk (kind other.value)) first before kinds (is_number first k t))
      | false ↦ λ e. last_field-other kind k first (before ++ field ∷ behind) e ∙ others
    ] refl

-- the last field counts
last_iff : {A : Type 0} (kind : Value → Result A CommandFault) (k : ℕ) (x : A) (fields : List Field) → (last_field kind k fields ≡ Ok (Some x)) ↔ IsLast kind k fields x
last_iff kind k x fields = (
  last_field-last kind k x fields,
  λ h. let P : List Field → Type 0 = λ l. last_field kind k l ≡ Ok (Some x) in
      subst P (sym h.split) (last-last_field kind k x h.before h.field h.behind h.number_is h.value_is h.kinds h.no_later),
)

none_iff : {A : Type 0} (kind : Value → Result A CommandFault) (k : ℕ) (fields : List Field) → (last_field kind k fields ≡ Ok None) ↔ IsAbsent k fields
none_iff kind k fields = (last_field-absent kind k fields, absent-last_field kind k fields)

-- the contents of the fields of a number
abbrev parts_of : ℕ → List Field → List (List ℕ)
parts_of k fields = map content_in (of_number k fields)

abbrev AreContents : ℕ → List Field → Type 0
AreContents k fields = All (λ field. field.number ≡ k → IsOk (content_of field.value)) fields

of_number-this : (k : ℕ) (field : Field) (fields : List Field) → nat_eq field.number k ≡ true → of_number k (field ∷ fields) ≡ field ∷ of_number k fields
of_number-this k field fields e = rw e refl

of_number-other : (k : ℕ) (field : Field) (fields : List Field) → nat_eq field.number k ≡ false → of_number k (field ∷ fields) ≡ of_number k fields
of_number-other k field fields e = rw e refl

ok_or_none : (r : Result (List ℕ) CommandFault) → IsOk r → r ≡ Ok (result_unwrap_or r [])
ok_or_none (Ok x) h = refl
ok_or_none (Err e) h = cc

contents-occurrences : (k : ℕ) (fields : List Field) → AreContents k fields → occurrences content_of k fields ≡ Ok (parts_of k fields)
contents-occurrences k [] h = occurrences-nothing content_of k
contents-occurrences k (field ∷ fields) h =
    let others = contents-occurrences k fields (All-tail (λ f. f.number ≡ k → IsOk (content_of f.value)) field fields h) in
    elim (nat_eq field.number k) as (λ b. nat_eq field.number k ≡ b → occurrences content_of k (field ∷ fields) ≡ Ok (parts_of k (field ∷ fields))) [
      | true ↦ λ t.
          let first = ok_or_none (content_of field.value) (All-head (λ f. f.number ≡ k → IsOk (content_of f.value)) field fields h (is_number field k t)) in
          occurrences-this content_of k field fields t
          ∙ (ap (λ r. r >>= λ first. occurrences content_of k fields >>= λ others. Ok (first ∷ others)) first
          ∙ (ap (λ r. r >>= λ others. Ok (content_in field ∷ others)) others ∙ ap (λ l. Ok (map content_in l)) (sym (of_number-this k field fields t))))
      | false ↦ λ e. occurrences-other content_of k field fields e ∙ (others ∙ ap (λ l. Ok (map content_in l)) (sym (of_number-other k field fields e)))
    ] refl

occurrences-contents : (k : ℕ) (fields : List Field) (parts : List (List ℕ)) → occurrences content_of k fields ≡ Ok parts → AreContents k fields
occurrences-contents k [] parts h = λ i d lt. absurd (omega arith)
occurrences-contents k (field ∷ fields) parts h =
    elim (nat_eq field.number k) as (λ b. nat_eq field.number k ≡ b → AreContents k (field ∷ fields)) [
      | true ↦ λ t.
          let first = bind_ok (content_of field.value) _ _ (sym (occurrences-this content_of k field fields t) ∙ h) in
          let others = bind_ok (occurrences content_of k fields) _ _ first.2 in
          All-cons (λ f. f.number ≡ k → IsOk (content_of f.value)) field fields (λ _. ok_kind (content_of field.value) first.0 first.1)
          (occurrences-contents k fields others.0 others.1)
      | false ↦ λ e.
          All-cons (λ f. f.number ≡ k → IsOk (content_of f.value)) field fields (λ same. absurd (isnt_number field k e same))
          (occurrences-contents k fields parts (sym (occurrences-other content_of k field fields e) ∙ h))
    ] refl

flat-parts : (fields : List Field) → flat_map (λ p. p) (map content_in fields) ≡ flat_map content_in fields
flat-parts [] = refl
flat-parts (field ∷ fields) = ap (λ l. content_in field ++ l) (flat-parts fields)

joined-some : (fields : List Field) → fields ≢ [] → joined (map content_in fields) ≡ Some (flat_map content_in fields)
joined-some [] some = absurd (some refl)
joined-some (field ∷ fields) some = ap (λ l. Some l) (flat-parts (field ∷ fields))

some-joined : (fields : List Field) (body : List ℕ) → joined (map content_in fields) ≡ Some body → (fields ≢ []) × (body ≡ flat_map content_in fields)
some-joined [] body h = cc
some-joined (field ∷ fields) body h =
    let e : Some (flat_map content_in (field ∷ fields)) ≡ Some body = sym (ap (λ l. Some l) (flat-parts (field ∷ fields))) ∙ h in
    (λ none. cc, cc)

message_iff : (k : ℕ) (body : List ℕ) (fields : List Field) → (message_field k fields ≡ Ok (Some body)) ↔ IsJoined k fields body
unfolding message_field
message_iff k body fields = (
  λ h.
      let parts = bind_ok (occurrences content_of k fields) _ _ h in
      let kinds = occurrences-contents k fields parts.0 parts.1 in
      let same = same_ok _ _ (sym (contents-occurrences k fields kinds) ∙ parts.1) in
      let whole = some-joined (of_number k fields) body (ap joined same ∙ same_ok _ _ parts.2) in
      record { present = whole.0; kinds = kinds; body_is = whole.1 },
  λ h. rw (contents-occurrences k fields h.kinds) (ap (λ x. Ok x) (joined-some (of_number k fields) h.present ∙ ap (λ l. Some l) (sym h.body_is))),
)

message_none_iff : (k : ℕ) (fields : List Field) → (message_field k fields ≡ Ok None) ↔ IsAbsent k fields
unfolding message_field
message_none_iff k fields = (
  λ h.
      let parts = bind_ok (occurrences content_of k fields) _ _ h in
      elim parts.0 as (λ xs. occurrences content_of k fields ≡ Ok xs → AreOk (joined xs) None → IsAbsent k fields) [
        | [] ↦ λ is none. occurrences-absent content_of k fields is
        | x ∷ xs ↦ λ is none. let e : Some (flat_map (λ p. p) (x ∷ xs)) ≡ None = same_ok _ _ none in cc
      ] parts.1 parts.2,
  λ h. rw (absent-occurrences content_of k fields h) refl,
)

-- the contents in order
listed_iff : (k : ℕ) (parts : List (List ℕ)) (fields : List Field) → (occurrences content_of k fields ≡ Ok parts) ↔ IsListed k fields parts
listed_iff k parts fields = (
  λ h. let kinds = occurrences-contents k fields parts h in
      record { kinds = kinds; parts_are = same_ok _ _ (sym h ∙ contents-occurrences k fields kinds) },
  λ h. contents-occurrences k fields h.kinds ∙ ap (λ x. Ok x) (sym h.parts_are),
)

abbrev AreValues : {A : Type 0} → (List ℕ → Result A CommandFault) → List (List ℕ) → List A → Type 0
AreValues read parts values = map read parts ≡ map (λ value. Ok value) values

each-values : {A : Type 0} (read : List ℕ → Result A CommandFault) (parts : List (List ℕ)) (values : List A) → each read parts ≡ Ok values → AreValues read parts values
each-values {A} read [] values h = let P : List A → Type 0 = AreValues read [] in subst P (same_ok _ _ h) refl
each-values {A} read (part ∷ parts) values h =
    let first = bind_ok (read part) _ _ h in
    let others = bind_ok (each read parts) _ _ first.2 in
    let P : List A → Type 0 = AreValues read (part ∷ parts) in
    subst P (same_ok _ _ others.2) (ap (λ r. r ∷ map read parts) first.1 ∙ ap (λ l. Ok first.0 ∷ l) (each-values read parts others.0 others.1))

values-each : {A : Type 0} (read : List ℕ → Result A CommandFault) (parts : List (List ℕ)) (values : List A) → AreValues read parts values → each read parts ≡ Ok values
values-each read [] [] h = refl
values-each read [] (value ∷ values) h = cc
values-each read (part ∷ parts) [] h = cc
values-each read (part ∷ parts) (value ∷ values) h =
    let first : read part ≡ Ok value = cc in
    let others : AreValues read parts values = cc in
    rw first (rw (values-each read parts values others) refl)

reads_each : {A : Type 0} (read : List ℕ → Result A CommandFault) → ReadsEach read
unfolding repeated_field
reads_each read k values fields = (
  λ h. let parts = bind_ok (occurrences content_of k fields) _ _ h in
      (parts.0, (listed_iff k parts.0 fields).0 parts.1, each-values read parts.0 values parts.2),
  λ h. rw ((listed_iff k h.0 fields).1 h.1) (values-each read h.0 values h.2),
)

-- which fields are there
has-absent : (k : ℕ) (fields : List Field) → has_field k fields ≡ false → IsAbsent k fields
has-absent k [] h = absent-nothing k
has-absent k (field ∷ fields) h =
    elim (nat_eq field.number k) as (λ b. nat_eq field.number k ≡ b → (b || has_field k fields) ≡ false → IsAbsent k (field ∷ fields)) [
      | true ↦ λ e so. cc
      | false ↦ λ e so. All-cons (λ f. f.number ≢ k) field fields (isnt_number field k e) (has-absent k fields so)
    ] refl h

absent-has : (k : ℕ) (fields : List Field) → IsAbsent k fields → has_field k fields ≡ false
absent-has k [] h = refl
absent-has k (field ∷ fields) h =
    rw (other_number field k (All-head (λ f. f.number ≢ k) field fields h)) (absent-has k fields (All-tail (λ f. f.number ≢ k) field fields h))

pub reads_occurrences : ReadsOccurrences
reads_occurrences = record {
  numbers = λ k n fields. last_iff varint_of k n fields;
  contents = λ k bytes fields. last_iff content_of k bytes fields;
  messages = message_iff;
  no_number = none_iff varint_of;
  no_content = none_iff content_of;
  no_message = message_none_iff;
  message_ids = reads_each message_id_of;
  ranges = reads_each int_range_of;
  not_there = λ k fields. (has-absent k fields, absent-has k fields);
}
