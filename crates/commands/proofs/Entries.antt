-- An entry is a size, metadata of that size and a payload.
use Rattle.std.proofs.Common.{◌≡◌, ◌≤◌, ◌+◌, ◌-◌, ℕ, List, ◌++◌, length, take, drop, nat_lt, Ok, false, inl, inr, ap, ◌∙◌, sym, subst, arith, length-append, length-drop}
use Rattle.std.proofs.Math.Seq.{take-append_seam, drop-append_seam}
use Rattle.std.proofs.lemmas.List.{take-append-drop, length-take-le}
use Rattle.std.proofs.lemmas.Bool.Decides.{nat_tests}
use Rattle.std.specs.Int.{w32, from_be_bytes}
use Rattle.proto_fields.proofs.Steps.{chosen}
use Rattle.commands.specs.declared.metadata.MessageMeta.{MessageMeta}
use Rattle.commands.specs.Metadata.{meta_of, size_at, entry_of}
use Rattle.commands.specs.Laws.{IsEntry, ReadsEntries}

-- such bytes are read
entry-read : (size metadata payload : List ℕ) (meta : MessageMeta) → length size ≡ 4 → from_be_bytes w32 size ≡ length metadata → meta_of metadata ≡ Ok meta →
    entry_of (size ++ (metadata ++ payload)) ≡ Ok meta
unfolding entry_of
entry-read size metadata payload meta four size_is is =
    let rest : List ℕ = metadata ++ payload in
    let P : ℕ → Type 0 = λ n. take n (size ++ rest) ≡ size in
    let Q : ℕ → Type 0 = λ n. drop n (size ++ rest) ≡ rest in
    let front : take 4 (size ++ rest) ≡ size = subst P four (take-append_seam size rest) in
    let behind : drop 4 (size ++ rest) ≡ rest = subst Q four (drop-append_seam size rest) in
    let whole : length (size ++ rest) ≡ 4 + (length metadata + length payload) = omega (arith, length-append size rest, length-append metadata payload) in
    let long : nat_lt (length (size ++ rest)) 4 ≡ false = grind (arith, nat_tests) in
    let room : nat_lt (length (size ++ rest) - 4) (length metadata) ≡ false = grind (arith, nat_tests) in
    rw long (rw front (rw size_is (rw room (rw behind (rw (take-append_seam metadata payload) is)))))

-- what is read are such bytes
read-entry : (bytes : List ℕ) (meta : MessageMeta) → entry_of bytes ≡ Ok meta → IsEntry bytes meta
unfolding entry_of
read-entry bytes meta h =
    elim (chosen (nat_lt (length bytes) 4) _ _ _ h) [
      | inl short ↦ cc
      | inr long ↦ elim (chosen (nat_lt (length bytes - 4) (size_at bytes)) _ _ _ long.1) [
        | inl past ↦ cc
        | inr within ↦
            let four : 4 ≤ length bytes = let e = long.0 in grind (arith, nat_tests) in
            let room : size_at bytes ≤ length bytes - 4 = let e = within.0 in grind (arith, nat_tests) in
            let behind : size_at bytes ≤ length (drop 4 bytes) = omega (arith, length-drop 4 bytes) in
            record {
              size = take 4 bytes;
              metadata = take (size_at bytes) (drop 4 bytes);
              payload = drop (size_at bytes) (drop 4 bytes);
              whole = sym (take-append-drop 4 bytes) ∙ ap (λ l. take 4 bytes ++ l) (sym (take-append-drop (size_at bytes) (drop 4 bytes)));
              size_is_four = length-take-le 4 bytes four;
              size_is = sym (length-take-le (size_at bytes) (drop 4 bytes) behind);
              meta_is = within.1;
            }
      ]
    ]

pub reads_entries : ReadsEntries
reads_entries bytes meta = (
  read-entry bytes meta,
  λ h. let P : List ℕ → Type 0 = λ l. entry_of l ≡ Ok meta in
      subst P (sym h.whole) (entry-read h.size h.metadata h.payload meta h.size_is_four h.size_is h.meta_is),
)
