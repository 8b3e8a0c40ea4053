-- Written frames can be told apart.
use Rattle.std.proofs.Common.{◌≡◌, ◌<◌, ◌≤◌, ◌^◌, ℕ, ◌+◌, List, [], ◌∷◌, ◌++◌, length, take, refl, ap, ◌∙◌, sym, arith, append_assoc}
use Rattle.std.proofs.lemmas.List.{append_cancel_left}
use Rattle.std.proofs.lemmas.List.Elements.{All-head, All-tail}
use Rattle.std.proofs.lemmas.Nat.{from_be_bytes-to_be_bytes_4}
use Rattle.std.specs.Int.{w32, from_be_bytes, to_be_bytes}
use Rattle.commands.specs.declared.reply.Reply.{Reply}
use Rattle.commands.specs.Replies.{spelling}
use Rattle.commands.proofs.Told.{short-spelling, tells_replies}
use Rattle.frames.specs.Laws.{FitsFrame, IsTold, WritesFrames, WritesApart, WritesLists, WritesReplies}
use Rattle.frames.proofs.Entries.{take_front}

pub writes_frames : WritesFrames
writes_frames command entry h = record {
  size = to_be_bytes w32 (4 + length command + length entry);
  command_size = to_be_bytes w32 (length command);
  whole = refl;
  size_width = refl;
  command_size_width = refl;
  size_is = from_be_bytes-to_be_bytes_4 (4 + length command + length entry) (omega arith);
  command_size_is = from_be_bytes-to_be_bytes_4 (length command) (omega arith);
  small = rw (from_be_bytes-to_be_bytes_4 (4 + length command + length entry) (omega arith)) h;
}

-- fronts of one length
fronts : (xs others ys rest : List ℕ) → length xs ≡ length others → xs ++ ys ≡ others ++ rest → (xs ≡ others) × (ys ≡ rest)
fronts xs others ys rest e h =
    let same : xs ≡ others = sym (take_front (length xs) xs ys refl) ∙ ap (take (length xs)) h ∙ take_front (length xs) others rest (sym e) in
    (same, append_cancel_left xs ys rest (h ∙ ap (λ l. l ++ rest) (sym same)))

-- four bytes tell a number
same_number : (m n : ℕ) → m < 2 ^ 32 → n < 2 ^ 32 → to_be_bytes w32 m ≡ to_be_bytes w32 n → m ≡ n
same_number m n h k e = sym (from_be_bytes-to_be_bytes_4 m h) ∙ ap (λ b. from_be_bytes w32 b) e ∙ from_be_bytes-to_be_bytes_4 n k

four_parts : (a b c d next : List ℕ) → (a ++ b ++ c ++ d) ++ next ≡ a ++ (b ++ (c ++ (d ++ next)))
four_parts a b c d next = simp append_assoc

apart_by : (command entry next other payload rest size width : List ℕ) → length size ≡ 4 → length width ≡ 4 →
    (from : List ℕ) (of : List ℕ) → length from ≡ 4 → length of ≡ 4 →
    (size ++ width ++ command ++ entry) ++ next ≡ (from ++ of ++ other ++ payload) ++ rest →
    (size ≡ from) × (width ≡ of) × (command ++ (entry ++ next) ≡ other ++ (payload ++ rest))
apart_by command entry next other payload rest size width a b from of c d h =
    let whole = sym (four_parts size width command entry next) ∙ h ∙ four_parts from of other payload rest in
    let first = fronts size from _ _ (a ∙ sym c) whole in
    let second = fronts width of _ _ (b ∙ sym d) first.1 in
    (first.0, second.0, second.1)

pub writes_apart : WritesApart
writes_apart parts others next rest h k e =
    let sizes = apart_by parts.0 parts.1 next others.0 others.1 rest
    (to_be_bytes w32 (4 + length parts.0 + length parts.1)) (to_be_bytes w32 (length parts.0)) refl refl
    (to_be_bytes w32 (4 + length others.0 + length others.1)) (to_be_bytes w32 (length others.0)) refl refl e in
    let total : 4 + length parts.0 + length parts.1 ≡ 4 + length others.0 + length others.1 = same_number _ _ h k sizes.0 in
    let first : length parts.0 ≡ length others.0 = same_number _ _ (omega arith) (omega arith) sizes.1 in
    let commands = fronts parts.0 others.0 _ _ first sizes.2 in
    let second : length parts.1 ≡ length others.1 = omega arith in
    let entries = fronts parts.1 others.1 next rest second commands.1 in
    (λ i. (commands.0 i, entries.0 i), entries.1)

pub writes_lists : WritesLists
writes_lists [] [] h k e = refl
writes_lists [] (other ∷ others) h k e = let n = ap length e in cc
writes_lists (parts ∷ written) [] h k e = let n = ap length e in cc
writes_lists (parts ∷ written) (other ∷ others) h k e =
    let same = writes_apart parts other _ _ (All-head FitsFrame parts written h) (All-head FitsFrame other others k) e in
    let rest = writes_lists written others (All-tail FitsFrame parts written h) (All-tail FitsFrame other others k) same.1 in
    λ i. same.0 i ∷ rest i

-- a reply and its entry fit a frame
fits : (told : Reply × List ℕ) → IsTold told → FitsFrame (spelling told.0, told.1)
fits told h =
    let short = short-spelling told.0 h.0 in
    let small : length told.1 ≤ 2 ^ 31 = h.1 in
    omega arith

pub writes_replies : WritesReplies
writes_replies [] [] h k e = refl
writes_replies [] (other ∷ others) h k e = let n = ap length e in cc
writes_replies (frame ∷ told) [] h k e = let n = ap length e in cc
writes_replies (frame ∷ told) (other ∷ others) h k e =
    let this = All-head IsTold frame told h in
    let that = All-head IsTold other others k in
    let same = writes_apart (spelling frame.0, frame.1) (spelling other.0, other.1) _ _ (fits frame this) (fits other that) e in
    let replies = tells_replies frame.0 other.0 this.0 that.0 (ap (λ parts. parts.0) same.0) in
    let entries = ap (λ parts. parts.1) same.0 in
    let rest = writes_replies told others (All-tail IsTold frame told h) (All-tail IsTold other others k) same.1 in
    λ i. (replies i, entries i) ∷ rest i
