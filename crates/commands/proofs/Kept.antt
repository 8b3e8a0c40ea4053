-- What is kept of the fields of a number, against what the fields themselves say.
use Rattle.std.proofs.Common.{◌≡◌, ◌≢◌, ◌<◌, ◌≤◌, ℕ, List, [], ◌∷◌, length, get_or, set, replicate, Option, Some, None, Result, Ok, Err, true, false, nat_eq, refl, ap, ◌∙◌, sym, subst, arith, append-nil}
use Rattle.std.specs.List.{fold}
use Rattle.std.proofs.lemmas.List.{get_or-set_same, get_or-set_other, length-set, length-replicate, get_or-replicate}
use Rattle.proto_fields.specs.declared.value.Field.{Field}
use Rattle.proto_fields.specs.declared.value.Value.{Value}
use Rattle.proto_fields.specs.declared.value.Value.TheVariants.{Varint, Fixed64, Bytes, Fixed32}
use Rattle.proto_fields.specs.Fields.{field_at}
use Rattle.commands.specs.declared.fault.CommandFault.{CommandFault}
use Rattle.commands.specs.declared.fault.CommandFault.TheVariants.{Unreadable}
use Rattle.commands.specs.declared.held.Held.{Held}
use Rattle.commands.specs.declared.held.Held.TheVariants as held
use Rattle.commands.specs.Reading.{◌>>=◌}
use Rattle.commands.specs.Message.{message_fields, occurrences, last_field, message_field, u64_field, bytes_field, varint_of, content_of, has_field}
use Rattle.commands.specs.Kept.{Kept, Nothing, Number, Content, LastContent, Other, seen, with_number, with_content, held_with, held_from, held_of, number_in, content_in, is_there, IsRead}
use Rattle.commands.proofs.Walk.{newest, last-found, found_in-first, with_first, message_fields-more, message_fields-none, Read, read-more, read-all}
use Rattle.commands.proofs.Occurrences.{occurrences-this, occurrences-other, occurrences-nothing, other_number, is_number, isnt_number, same_ok}

held_from-none : (held : Kept) (k : ℕ) → held_from held k [] ≡ held
unfolding held_from
held_from-none held k = refl

held_from-this : (held : Kept) (k : ℕ) (field : Field) (fields : List Field) →
    nat_eq field.number k ≡ true → held_from held k (field ∷ fields) ≡ held_from (held_with held field.value) k fields
unfolding held_from
held_from-this held k field fields e = rw e refl

held_from-other : (held : Kept) (k : ℕ) (field : Field) (fields : List Field) →
    nat_eq field.number k ≡ false → held_from held k (field ∷ fields) ≡ held_from held k fields
unfolding held_from
held_from-other held k field fields e = rw e refl

-- the last of these, or else what was found before
abbrev behind : {A : Type 0} → Result (Option A) CommandFault → Result (List A) CommandFault → Result (Option A) CommandFault
behind found r = found >>= λ before. r >>= λ xs. Ok (fold newest before xs)

-- one more in front of these
abbrev in_front : {A : Type 0} → Result A CommandFault → Result (List A) CommandFault → Result (List A) CommandFault
in_front value r = value >>= λ first. r >>= λ others. Ok (first ∷ others)

behind-nothing : {A : Type 0} (found : Result (Option A) CommandFault) → behind found (Ok []) ≡ found
behind-nothing (Ok x) = refl
behind-nothing (Err e) = refl

-- what is seen of the fields of a number changes with each of them as the search for the last does
abbrev Follows : {A : Type 0} → (Value → Result A CommandFault) → (Kept → Result (Option A) CommandFault) → Type 0
Follows {A} kind view = (held : Kept) (value : Value) (r : Result (List A) CommandFault) →
    behind (view (held_with held value)) r ≡ behind (view held) (in_front (kind value) r)

seen-from : {A : Type 0} (kind : Value → Result A CommandFault) (view : Kept → Result (Option A) CommandFault) → Follows kind view →
    (held : Kept) (k : ℕ) (fields : List Field) → view (held_from held k fields) ≡ behind (view held) (occurrences kind k fields)
seen-from kind view follows held k [] =
    ap view (held_from-none held k) ∙ sym (behind-nothing (view held)) ∙ ap (behind (view held)) (sym (occurrences-nothing kind k))
seen-from kind view follows held k (field ∷ fields) =
    elim (nat_eq field.number k) as (λ b. nat_eq field.number k ≡ b → view (held_from held k (field ∷ fields)) ≡ behind (view held) (occurrences kind k (field ∷ fields))) [
      | true ↦ λ e.
          ap view (held_from-this held k field fields e)
          ∙ seen-from kind view follows (held_with held field.value) k fields
          ∙ follows held field.value (occurrences kind k fields)
          ∙ ap (behind (view held)) (sym (occurrences-this kind k field fields e))
      | false ↦ λ e.
          ap view (held_from-other held k field fields e)
          ∙ seen-from kind view follows held k fields
          ∙ ap (behind (view held)) (sym (occurrences-other kind k field fields e))
    ] refl

-- what is seen of the fields of a number is the last of them
seen-last : {A : Type 0} (kind : Value → Result A CommandFault) (view : Kept → Result (Option A) CommandFault) → Follows kind view → view Nothing ≡ Ok None →
    (k : ℕ) (fields : List Field) → view (held_of k fields) ≡ last_field kind k fields
unfolding last_field
seen-last kind view follows none k fields =
    seen-from kind view follows Nothing k fields ∙ ap (λ found. behind found (occurrences kind k fields)) none ∙ last-found (occurrences kind k fields)

number_refused : (held : Kept) → behind (number_in held) (Err Unreadable) ≡ Err Unreadable
number_refused Nothing = refl
number_refused (Number n) = refl
number_refused (Content content) = refl
number_refused (LastContent content) = refl
number_refused Other = refl

number_of_content : (held : Kept) (content : List ℕ) → number_in (with_content held content) ≡ Err Unreadable
number_of_content Nothing content = refl
number_of_content (Number n) content = refl
number_of_content (Content first) content = refl
number_of_content (LastContent before) content = refl
number_of_content Other content = refl

number_of_number : (held : Kept) (n : ℕ) (r : Result (List ℕ) CommandFault) →
    behind (number_in (with_number held n)) r ≡ behind (number_in held) (in_front (Ok n) r)
number_of_number Nothing n r = sym (found_in-first newest None n r)
number_of_number (Number m) n r = sym (found_in-first newest (Some m) n r)
number_of_number (Content content) n r = refl
number_of_number (LastContent content) n r = refl
number_of_number Other n r = refl

number-follows : Follows varint_of number_in
number-follows held (Varint n) r = number_of_number held n r
number-follows held (Fixed64 n) r = sym (number_refused held)
number-follows held (Bytes content) r = ap (λ found. behind found r) (number_of_content held content) ∙ sym (number_refused held)
number-follows held (Fixed32 n) r = sym (number_refused held)

pub number-held : (k : ℕ) (fields : List Field) → number_in (held_of k fields) ≡ u64_field k fields
number-held = seen-last varint_of number_in number-follows refl

content_refused : (held : Kept) → behind (content_in held) (Err Unreadable) ≡ Err Unreadable
content_refused Nothing = refl
content_refused (Number n) = refl
content_refused (Content content) = refl
content_refused (LastContent content) = refl
content_refused Other = refl

content_of_number : (held : Kept) (n : ℕ) → content_in (with_number held n) ≡ Err Unreadable
content_of_number Nothing n = refl
content_of_number (Number m) n = refl
content_of_number (Content content) n = refl
content_of_number (LastContent content) n = refl
content_of_number Other n = refl

content_of_content : (held : Kept) (content : List ℕ) (r : Result (List (List ℕ)) CommandFault) →
    behind (content_in (with_content held content)) r ≡ behind (content_in held) (in_front (Ok content) r)
content_of_content Nothing content r = sym (found_in-first newest None content r)
content_of_content (Number n) content r = refl
content_of_content (Content first) content r = sym (found_in-first newest (Some first) content r)
content_of_content (LastContent before) content r = sym (found_in-first newest (Some before) content r)
content_of_content Other content r = refl

content-follows : Follows content_of content_in
content-follows held (Varint n) r = ap (λ found. behind found r) (content_of_number held n) ∙ sym (content_refused held)
content-follows held (Fixed64 n) r = sym (content_refused held)
content-follows held (Bytes content) r = content_of_content held content r
content-follows held (Fixed32 n) r = sym (content_refused held)

pub content-held : (k : ℕ) (fields : List Field) → content_in (held_of k fields) ≡ bytes_field k fields
content-held = seen-last content_of content_in content-follows refl

-- what the fields of a number are where in the end this one content is kept
abbrev LeavesOne : Kept → List ℕ → Result (List (List ℕ)) CommandFault → Type 0
LeavesOne Nothing content r = r ≡ Ok (content ∷ [])
LeavesOne (Number n) content r = ⊥
LeavesOne (Content first) content r = (first ≡ content) × (r ≡ Ok [])
LeavesOne (LastContent before) content r = ⊥
LeavesOne Other content r = ⊥

leaves-nothing : (held : Kept) (content : List ℕ) → held ≡ Content content → LeavesOne held content (Ok [])
leaves-nothing Nothing content h = cc
leaves-nothing (Number n) content h = cc
leaves-nothing (Content first) content h = (cc, refl)
leaves-nothing (LastContent before) content h = cc
leaves-nothing Other content h = cc

leaves-number : (held : Kept) (n : ℕ) (content : List ℕ) (r others : Result (List (List ℕ)) CommandFault) → LeavesOne (with_number held n) content r → LeavesOne held content others
leaves-number Nothing n content r others h = absurd h
leaves-number (Number m) n content r others h = absurd h
leaves-number (Content first) n content r others h = absurd h
leaves-number (LastContent before) n content r others h = absurd h
leaves-number Other n content r others h = absurd h

leaves-content : (held : Kept) (more content : List ℕ) (r : Result (List (List ℕ)) CommandFault) → LeavesOne (with_content held more) content r → LeavesOne held content (in_front (Ok more) r)
leaves-content Nothing more content r h = rw h.1 (ap (λ x. Ok (x ∷ [])) h.0)
leaves-content (Number m) more content r h = absurd h
leaves-content (Content first) more content r h = absurd h
leaves-content (LastContent before) more content r h = absurd h
leaves-content Other more content r h = absurd h

leaves-more : (held : Kept) (value : Value) (content : List ℕ) (r : Result (List (List ℕ)) CommandFault) → LeavesOne (held_with held value) content r → LeavesOne held content (in_front (content_of value) r)
leaves-more held (Varint n) content r h = leaves-number held n content r (Err Unreadable) h
leaves-more held (Fixed64 n) content r h = absurd h
leaves-more held (Bytes more) content r h = leaves-content held more content r h
leaves-more held (Fixed32 n) content r h = absurd h

one-from : (held : Kept) (k : ℕ) (fields : List Field) (content : List ℕ) → held_from held k fields ≡ Content content → LeavesOne held content (occurrences content_of k fields)
one-from held k [] content h = rw (occurrences-nothing content_of k) (leaves-nothing held content (sym (held_from-none held k) ∙ h))
one-from held k (field ∷ fields) content h =
    elim (nat_eq field.number k) as (λ b. nat_eq field.number k ≡ b → LeavesOne held content (occurrences content_of k (field ∷ fields))) [
      | true ↦ λ e.
          rw (occurrences-this content_of k field fields e)
          (leaves-more held field.value content _ (one-from (held_with held field.value) k fields content (sym (held_from-this held k field fields e) ∙ h)))
      | false ↦ λ e.
          rw (occurrences-other content_of k field fields e)
          (one-from held k fields content (sym (held_from-other held k field fields e) ∙ h))
    ] refl

-- a content that is kept as the only one is the only occurrence
pub one-held : (k : ℕ) (fields : List Field) (content : List ℕ) → Content content ≡ held_of k fields → occurrences content_of k fields ≡ Ok (content ∷ [])
one-held k fields content h = one-from Nothing k fields content (sym h)

pub message-held : (k : ℕ) (fields : List Field) (content : List ℕ) → Content content ≡ held_of k fields → message_field k fields ≡ Ok (Some content)
unfolding message_field
message-held k fields content h = rw (one-held k fields content h) (ap (λ bytes. Ok (Some bytes)) (append-nil content))

there-with_number : (held : Kept) (n : ℕ) → is_there (with_number held n) ≡ true
there-with_number Nothing n = refl
there-with_number (Number m) n = refl
there-with_number (Content content) n = refl
there-with_number (LastContent content) n = refl
there-with_number Other n = refl

there-with_content : (held : Kept) (content : List ℕ) → is_there (with_content held content) ≡ true
there-with_content Nothing content = refl
there-with_content (Number m) content = refl
there-with_content (Content first) content = refl
there-with_content (LastContent before) content = refl
there-with_content Other content = refl

there-with : (held : Kept) (value : Value) → is_there (held_with held value) ≡ true
there-with held (Varint n) = there-with_number held n
there-with held (Fixed64 n) = refl
there-with held (Bytes content) = there-with_content held content
there-with held (Fixed32 n) = refl

there-from : (held : Kept) (k : ℕ) (fields : List Field) → is_there held ≡ true → is_there (held_from held k fields) ≡ true
there-from held k [] h = ap is_there (held_from-none held k) ∙ h
there-from held k (field ∷ fields) h =
    elim (nat_eq field.number k) as (λ b. nat_eq field.number k ≡ b → is_there (held_from held k (field ∷ fields)) ≡ true) [
      | true ↦ λ e. ap is_there (held_from-this held k field fields e) ∙ there-from (held_with held field.value) k fields (there-with held field.value)
      | false ↦ λ e. ap is_there (held_from-other held k field fields e) ∙ there-from held k fields h
    ] refl

pub there-held : (k : ℕ) (fields : List Field) → is_there (held_of k fields) ≡ has_field k fields
there-held k [] = ap is_there (held_from-none Nothing k)
there-held k (field ∷ fields) =
    elim (nat_eq field.number k) as (λ b. nat_eq field.number k ≡ b → is_there (held_of k (field ∷ fields)) ≡ has_field k (field ∷ fields)) [
      | true ↦ λ e.
          ap is_there (held_from-this Nothing k field fields e) ∙ there-from (held_with Nothing field.value) k fields (there-with Nothing field.value)
          ∙ rw e refl
      | false ↦ λ e.
          ap is_there (held_from-other Nothing k field fields e) ∙ there-held k fields
          ∙ rw e refl
    ] refl

-- what is kept from these fields on, if they can be read
abbrev pub kept_in : ℕ → Kept → Result (List Field) CommandFault → Result Kept CommandFault
kept_in k kept read = read >>= λ fields. Ok (held_from kept k fields)

-- what the table has of a number
abbrev pub entry_of : List Held → ℕ → Kept
entry_of table k = seen (get_or table k held.Absent)

-- the bytes are read so far, and of each number this is kept
pub record Keeping (bytes : List ℕ) (table : List Held) (rest : List ℕ) : Type 0 where
  pub read : Read bytes rest
  pub each : (k : ℕ) → k < length table → kept_in k Nothing (message_fields bytes) ≡ kept_in k (entry_of table k) (message_fields rest)

pub keeping-none : (n : ℕ) (bytes : List ℕ) → Keeping bytes (replicate n held.Absent) bytes
keeping-none n bytes = record {
  read = record { same = refl };
  each = λ k small. ap (λ h. kept_in k (seen h) (message_fields bytes)) (sym (get_or-replicate n k held.Absent held.Absent (rw (length-replicate n held.Absent) at small)));
}

kept_in-this : (k : ℕ) (kept : Kept) (field : Field) (r : Result (List Field) CommandFault) →
    nat_eq field.number k ≡ true → kept_in k kept (with_first field r) ≡ kept_in k (held_with kept field.value) r
kept_in-this k kept field (Ok fields) e = ap (λ h. Ok h) (held_from-this kept k field fields e)
kept_in-this k kept field (Err fault) e = refl

kept_in-other : (k : ℕ) (kept : Kept) (field : Field) (r : Result (List Field) CommandFault) →
    nat_eq field.number k ≡ false → kept_in k kept (with_first field r) ≡ kept_in k kept r
kept_in-other k kept field (Ok fields) e = ap (λ h. Ok h) (held_from-other kept k field fields e)
kept_in-other k kept field (Err fault) e = refl

-- one field more is in front of the rest
keeping-next : {bytes : List ℕ} {table : List Held} {rest : List ℕ} (field : Field) (after : List ℕ) → Keeping bytes table rest → field_at rest ≡ Ok (field, after) →
    (k : ℕ) → k < length table → kept_in k Nothing (message_fields bytes) ≡ kept_in k (entry_of table k) (with_first field (message_fields after))
keeping-next {bytes} {table} {rest} field after h at k small = h.each k small ∙ ap (kept_in k (entry_of table k)) (message_fields-more rest (field, after) at)

-- a field of a number of which nothing is kept
pub keeping-other : {bytes : List ℕ} {table : List Held} {rest : List ℕ} (field : Field) (after : List ℕ) →
    Keeping bytes table rest → field_at rest ≡ Ok (field, after) → length table ≤ field.number → Keeping bytes table after
keeping-other {bytes} {table} {rest} field after h at large = record {
  read = read-more (field, after) h.read at;
  each = λ k small.
      keeping-next field after h at k small ∙ kept_in-other k (entry_of table k) field (message_fields after) (other_number field k (λ same. absurd (omega arith)));
}

-- a write changes what is kept of its number alone
entry-this : (table : List Held) (n k : ℕ) (new : Held) → n ≡ k → k < length table → entry_of (set table n new) k ≡ seen new
entry-this table n k new same small = rw same (ap seen (get_or-set_same table k new held.Absent small))

entry-other : (table : List Held) (n k : ℕ) (new : Held) → n ≢ k → entry_of (set table n new) k ≡ entry_of table k
entry-other table n k new other = ap seen (get_or-set_other table n k new held.Absent (λ same. other (sym same)))

-- a field of a number of which something is kept
pub keeping-this : {bytes : List ℕ} {table : List Held} {rest : List ℕ} (field : Field) (after : List ℕ) (new : Held) →
    Keeping bytes table rest → field_at rest ≡ Ok (field, after) → field.number < length table → seen new ≡ held_with (entry_of table field.number) field.value →
    Keeping bytes (set table field.number new) after
keeping-this {bytes} {table} {rest} field after new h at below is = record {
  read = read-more (field, after) h.read at;
  each = λ k small. let within : k < length table = subst (λ n. k < n) (length-set table field.number new) small in elim (nat_eq field.number k) as (λ b. nat_eq field.number k ≡ b → kept_in k Nothing (message_fields bytes) ≡ kept_in k (entry_of (set table field.number new) k) (message_fields after)) [
    | true ↦ λ e.
        let same = is_number field k e in
        keeping-next field after h at k within ∙ kept_in-this k (entry_of table k) field (message_fields after) e
        ∙ ap (λ kept. kept_in k kept (message_fields after)) (ap (λ n. held_with (entry_of table n) field.value) (sym same) ∙ sym is ∙ sym (entry-this table field.number k new same within))
    | false ↦ λ e.
        keeping-next field after h at k within ∙ kept_in-other k (entry_of table k) field (message_fields after) e
        ∙ ap (λ kept. kept_in k kept (message_fields after)) (sym (entry-other table field.number k new (isnt_number field k e)))
  ] refl;
}

-- all bytes are read
pub keeping-all : {bytes : List ℕ} {table : List Held} {rest : List ℕ} → Keeping bytes table rest → rest ≡ [] → IsRead bytes table
keeping-all {bytes} {table} {rest} h e =
    let fields = read-all h.read e in
    record {
      fields = fields;
      kept = record {
        each = λ k small.
            let end = ap (kept_in k Nothing) (sym fields) ∙ h.each k small ∙ ap (λ b. kept_in k (entry_of table k) (message_fields b)) e ∙ ap (kept_in k (entry_of table k)) message_fields-none in
            sym (held_from-none (entry_of table k) k) ∙ sym (same_ok _ _ end);
      };
    }
