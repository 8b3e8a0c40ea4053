-- Reading what stands behind a command, and what an entry is, say the same.
use Rattle.std.proofs.Common.{◌≡◌, ◌≤◌, ℕ, ◌-◌, List, [], ◌∷◌, ◌++◌, length, take, drop, Result, Ok, Err, Bool, true, false, cond, nat_lt, nat_eq, ◌⊎◌, inl, inr, refl, ap, ◌∙◌, sym, subst, arith, append_assoc, append-nil, length-drop}
use Rattle.std.proofs.lemmas.Bool.{cases_Bool, ltb-false, and_parts, eqb-true, false≢true}
use Rattle.std.proofs.lemmas.List.{take-append-drop, length-take-le}
use Rattle.std.proofs.Math.Seq.{take-append_seam, drop-append_seam}
use Rattle.commands.specs.declared.command.Command.{Command}
use Rattle.commands.specs.declared.command.Command.TheVariants.{Connect, Subscribe, Producer, Send, Ack, Flow, Unsubscribe, CloseProducer, CloseConsumer, Ping, Pong, RedeliverUnacknowledgedMessages, PartitionedMetadata, Lookup, Other}
use Rattle.commands.specs.declared.metadata.MessageMeta.{MessageMeta}
use Rattle.commands.specs.declared.fault.CommandFault.{CommandFault}
use Rattle.commands.specs.Metadata.{size_at, entry_of}
use Rattle.frames.specs.declared.fault.Fault.{Fault}
use Rattle.frames.specs.declared.fault.Fault.TheVariants.{BadPayload}
use Rattle.frames.specs.declared.frame.FrameEntry.{FrameEntry}
use Rattle.frames.specs.declared.frame.FrameEntry.TheVariants.{Nothing, Checksummed, Entry}
use Rattle.frames.specs.Frames.{IsChecksummed, HasMetadata, IsSendEntry, IsNothing, IsEntry}
use Rattle.frames.specs.declared.plain_entry.PlainEntry.{PlainEntry}
use Rattle.frames.specs.Reading.{◌>>=◌, is_checksummed, plain_of, send_entry_of, nothing_of, entry_behind}
use Rattle.std.proofs.Math.Path.{path_j}

-- which way a choice went
pub chosen : {A : Type 0} (b : Bool) (x y z : A) → cond b x y ≡ z → ((b ≡ true) × (x ≡ z)) ⊎ ((b ≡ false) × (y ≡ z))
chosen true x y z h = inl (refl, h)
chosen false x y z h = inr (refl, h)

pub bind_ok : {A B : Type 0} (r : Result A Fault) (f : A → Result B Fault) (y : B) → (r >>= f) ≡ Ok y → (x : A) × (r ≡ Ok x) × (f x ≡ Ok y)
bind_ok (Ok x) f y h = (x, refl, h)
bind_ok (Err e) f y h = cc

pub take_front : (n : ℕ) (xs ys : List ℕ) → length xs ≡ n → take n (xs ++ ys) ≡ xs
take_front n xs ys e = let P : ℕ → Type 0 = λ k. take k (xs ++ ys) ≡ xs in subst P e (take-append_seam xs ys)

pub drop_front : (n : ℕ) (xs ys : List ℕ) → length xs ≡ n → drop n (xs ++ ys) ≡ ys
drop_front n xs ys e = let P : ℕ → Type 0 = λ k. drop k (xs ++ ys) ≡ ys in subst P e (drop-append_seam xs ys)

checksum-from : (bytes : List ℕ) → is_checksummed bytes ≡ true → IsChecksummed bytes
checksum-from [] h = absurd (false≢true h)
checksum-from (x ∷ []) h = absurd (false≢true (and_parts (nat_eq x 14) false h).1)
checksum-from (x ∷ y ∷ bytes) h =
    let parts = and_parts (nat_eq x 14) (nat_eq y 1) h in
    let first = eqb-true x 14 parts.0 in
    let second = eqb-true y 1 parts.1 in
    cc

checksum-to : (bytes : List ℕ) → IsChecksummed bytes → is_checksummed bytes ≡ true
checksum-to [] h = cc
checksum-to (x ∷ []) h = cc
checksum-to (x ∷ y ∷ bytes) h =
    let first : x ≡ 14 = cc in
    let second : y ≡ 1 = cc in
    rw (first, second) refl

-- metadata that is read stands in the entry
metadata-from : (bytes : List ℕ) (metadata : MessageMeta) → entry_of bytes ≡ Ok metadata → HasMetadata bytes metadata
unfolding entry_of
metadata-from bytes metadata h =
    elim (chosen (nat_lt (length bytes) 4) _ _ _ h) [
      | inl p ↦ cc
      | inr p ↦ elim (chosen (nat_lt (length bytes - 4) (size_at bytes)) _ _ _ p.1) [
        | inl q ↦ cc
        | inr q ↦
            let long : 4 ≤ length bytes = ltb-false _ _ p.0 in
            let fits : size_at bytes ≤ length bytes - 4 = ltb-false _ _ q.0 in
            let inner : size_at bytes ≤ length (drop 4 bytes) = omega (arith, length-drop 4 bytes) in
            record {
              size = take 4 bytes;
              meta = take (size_at bytes) (drop 4 bytes);
              payload = drop (size_at bytes) (drop 4 bytes);
              whole = sym (append_assoc (take 4 bytes) _ _ ∙ ap (λ b. take 4 bytes ++ b) (take-append-drop (size_at bytes) (drop 4 bytes)) ∙ take-append-drop 4 bytes);
              size_width = length-take-le 4 bytes long;
              size_is = sym (length-take-le (size_at bytes) (drop 4 bytes) inner);
              meta_is = q.1;
            }
      ]
    ]

-- a plain entry has the bytes and the metadata that is read of them
plain-from : (bytes : List ℕ) (r : Result MessageMeta CommandFault) (is : entry_of bytes ≡ r) (entry : FrameEntry) → plain_of bytes r is ≡ Ok entry →
    (plain : PlainEntry) × (let left : Result FrameEntry Fault = Ok (Entry plain) in left ≡ Ok entry) × (plain.bytes ≡ bytes) × (entry_of bytes ≡ Ok plain.metadata)
plain-from bytes (Ok metadata) is entry h = (record { bytes = bytes; metadata = metadata; readable = is }, h, refl, is)
plain-from bytes (Err e) is entry h = cc

-- it is one, however its metadata was read
one_plain : (bytes : List ℕ) {r : Result MessageMeta CommandFault} (is : entry_of bytes ≡ r) → plain_of bytes r is ≡ plain_of bytes (entry_of bytes) refl
one_plain bytes is = path_j (λ r q. plain_of bytes r q ≡ plain_of bytes (entry_of bytes) refl) refl is

-- and there is one of these bytes
pub plain-to : (bytes : List ℕ) (p : PlainEntry) → p.bytes ≡ bytes → plain_of bytes (entry_of bytes) refl ≡ Ok (Entry p)
plain-to bytes p same =
    let P : List ℕ → Type 0 = λ b. plain_of b (entry_of b) refl ≡ Ok (Entry p) in
    subst P same (sym (one_plain p.bytes p.readable))

same_entry : (e f : FrameEntry) → (let left : Result FrameEntry Fault = Ok e in left ≡ Ok f) → e ≡ f
same_entry e f h = cc

-- a slice up to the end is what is left
pub behind-is : (n : ℕ) (xs ys : List ℕ) → xs ≡ ys → take (length xs - n) (drop n xs) ≡ drop n ys
behind-is n xs ys e =
    ap (λ l. take (length xs - n) l) (sym (append-nil (drop n xs))) ∙ take_front (length xs - n) (drop n xs) [] (length-drop n xs) ∙ ap (drop n) e

-- so it is what stands behind a SEND
pub plain-sent : (bytes : List ℕ) (p : PlainEntry) → is_checksummed bytes ≡ false → p.bytes ≡ bytes → send_entry_of bytes ≡ Ok (Entry p)
unfolding send_entry_of
plain-sent bytes p plain same = rw plain (plain-to bytes p same)

send-from : (bytes : List ℕ) (entry : FrameEntry) → send_entry_of bytes ≡ Ok entry → IsSendEntry bytes entry
unfolding send_entry_of
send-from bytes entry h =
    let P : FrameEntry → Type 0 = IsSendEntry bytes in
    elim (chosen (is_checksummed bytes) _ _ _ h) [
      | inl p ↦ subst P (same_entry Checksummed entry p.1) (checksum-from bytes p.0)
      | inr p ↦
          let found = plain-from bytes (entry_of bytes) refl entry p.1 in
          subst P (same_entry (Entry found.0) entry found.1) (λ k. false≢true (sym p.0 ∙ checksum-to bytes k), found.2, metadata-from bytes found.0.metadata found.3)
    ]

send-to : (bytes : List ℕ) (entry : FrameEntry) → IsSendEntry bytes entry → send_entry_of bytes ≡ Ok entry
unfolding send_entry_of
send-to bytes Nothing h = absurd h
send-to bytes Checksummed h = rw (checksum-to bytes h) refl
send-to bytes (Entry entry) h =
    elim (cases_Bool (is_checksummed bytes)) [
      | inl so ↦ absurd (h.0 (checksum-from bytes so))
      | inr not_so ↦ rw not_so (plain-to bytes entry h.1)
    ]

send-fault : (bytes : List ℕ) (fault : Fault) → send_entry_of bytes ≡ Err fault → fault ≡ BadPayload
unfolding send_entry_of
send-fault bytes fault h =
    elim (chosen (is_checksummed bytes) _ _ _ h) [
      | inl p ↦ cc
      | inr p ↦ read (entry_of bytes) refl p.1
    ]
  where
    read : (r : Result MessageMeta CommandFault) (is : entry_of bytes ≡ r) → plain_of bytes r is ≡ Err fault → fault ≡ BadPayload
    read (Ok x) is k = cc
    read (Err e) is k = cc

no_bytes : (bytes : List ℕ) → length bytes ≡ 0 → bytes ≡ []
no_bytes [] h = refl
no_bytes (b ∷ bytes) h = absurd (omega arith)

nothing-from : (bytes : List ℕ) (entry : FrameEntry) → nothing_of bytes ≡ Ok entry → IsNothing bytes entry
nothing-from bytes entry h =
    elim (chosen (nat_eq (length bytes) 0) _ _ _ h) [
      | inl p ↦ (no_bytes bytes (eqb-true _ _ p.0), sym (same_entry Nothing entry p.1))
      | inr p ↦ cc
    ]

nothing-to : (bytes : List ℕ) (entry : FrameEntry) → IsNothing bytes entry → nothing_of bytes ≡ Ok entry
nothing-to bytes entry h = rw (h.0, h.1) refl

nothing-fault : (bytes : List ℕ) (fault : Fault) → nothing_of bytes ≡ Err fault → fault ≡ BadPayload
nothing-fault bytes fault h =
    elim (chosen (nat_eq (length bytes) 0) _ _ _ h) [
      | inl p ↦ cc
      | inr p ↦ cc
    ]

-- what is read stands behind the command
pub entry-from : (command : Command) (bytes : List ℕ) (entry : FrameEntry) → entry_behind command bytes ≡ Ok entry → IsEntry command bytes entry
unfolding entry_behind
entry-from (Send c) bytes entry h = send-from bytes entry h
entry-from (Other k) bytes entry h = sym (same_entry Nothing entry h)
entry-from (Connect c) bytes entry h = nothing-from bytes entry h
entry-from (Subscribe c) bytes entry h = nothing-from bytes entry h
entry-from (Producer c) bytes entry h = nothing-from bytes entry h
entry-from (Ack c) bytes entry h = nothing-from bytes entry h
entry-from (Flow c) bytes entry h = nothing-from bytes entry h
entry-from (Unsubscribe c) bytes entry h = nothing-from bytes entry h
entry-from (CloseProducer c) bytes entry h = nothing-from bytes entry h
entry-from (CloseConsumer c) bytes entry h = nothing-from bytes entry h
entry-from Ping bytes entry h = nothing-from bytes entry h
entry-from Pong bytes entry h = nothing-from bytes entry h
entry-from (RedeliverUnacknowledgedMessages c) bytes entry h = nothing-from bytes entry h
entry-from (PartitionedMetadata c) bytes entry h = nothing-from bytes entry h
entry-from (Lookup c) bytes entry h = nothing-from bytes entry h

-- and what stands there is read
pub entry-to : (command : Command) (bytes : List ℕ) (entry : FrameEntry) → IsEntry command bytes entry → entry_behind command bytes ≡ Ok entry
unfolding entry_behind
entry-to (Send c) bytes entry h = send-to bytes entry h
entry-to (Other k) bytes entry h = ap (λ e. Ok e) (sym h)
entry-to (Connect c) bytes entry h = nothing-to bytes entry h
entry-to (Subscribe c) bytes entry h = nothing-to bytes entry h
entry-to (Producer c) bytes entry h = nothing-to bytes entry h
entry-to (Ack c) bytes entry h = nothing-to bytes entry h
entry-to (Flow c) bytes entry h = nothing-to bytes entry h
entry-to (Unsubscribe c) bytes entry h = nothing-to bytes entry h
entry-to (CloseProducer c) bytes entry h = nothing-to bytes entry h
entry-to (CloseConsumer c) bytes entry h = nothing-to bytes entry h
entry-to Ping bytes entry h = nothing-to bytes entry h
entry-to Pong bytes entry h = nothing-to bytes entry h
entry-to (RedeliverUnacknowledgedMessages c) bytes entry h = nothing-to bytes entry h
entry-to (PartitionedMetadata c) bytes entry h = nothing-to bytes entry h
entry-to (Lookup c) bytes entry h = nothing-to bytes entry h

-- one fault alone can show there
pub entry-fault : (command : Command) (bytes : List ℕ) (fault : Fault) → entry_behind command bytes ≡ Err fault → fault ≡ BadPayload
unfolding entry_behind
entry-fault (Send c) bytes fault h = send-fault bytes fault h
entry-fault (Other k) bytes fault h = cc
entry-fault (Connect c) bytes fault h = nothing-fault bytes fault h
entry-fault (Subscribe c) bytes fault h = nothing-fault bytes fault h
entry-fault (Producer c) bytes fault h = nothing-fault bytes fault h
entry-fault (Ack c) bytes fault h = nothing-fault bytes fault h
entry-fault (Flow c) bytes fault h = nothing-fault bytes fault h
entry-fault (Unsubscribe c) bytes fault h = nothing-fault bytes fault h
entry-fault (CloseProducer c) bytes fault h = nothing-fault bytes fault h
entry-fault (CloseConsumer c) bytes fault h = nothing-fault bytes fault h
entry-fault Ping bytes fault h = nothing-fault bytes fault h
entry-fault Pong bytes fault h = nothing-fault bytes fault h
entry-fault (RedeliverUnacknowledgedMessages c) bytes fault h = nothing-fault bytes fault h
entry-fault (PartitionedMetadata c) bytes fault h = nothing-fault bytes fault h
entry-fault (Lookup c) bytes fault h = nothing-fault bytes fault h
