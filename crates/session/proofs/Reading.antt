-- The bytes of frames tell which they are.
use Rattle.std.proofs.Common.{◌≡◌, ℕ, List, [], ◌∷◌, ◌++◌, refl, sym, ap, ◌∙◌, arith}
use Rattle.std.specs.List.{flat_map, All}
use Rattle.std.proofs.lemmas.List.Elements.{All-cons}
use Rattle.commands.specs.declared.reply.Reply.{Reply}
use Rattle.commands.specs.Replies.{spelling}
use Rattle.frames.specs.Frames.{frame_bytes}
use Rattle.frames.specs.Laws.{IsTold}
use Rattle.frames.proofs.Written.{writes_replies}
use Rattle.topic_core.specs.declared.dispatch.Outgoing.{Outgoing}
use Rattle.session.specs.Client.{frame_of, frames_of, AreBounded}
use Rattle.session.specs.Laws.{FramesTell}

abbrev pairs : List Outgoing → List (Reply × List ℕ)
pairs [] = []
pairs (o ∷ os) = (o.reply, o.entry) ∷ pairs os

abbrev unpaired : List (Reply × List ℕ) → List Outgoing
unpaired [] = []
unpaired (p ∷ ps) = record { reply = p.0; entry = p.1 } ∷ unpaired ps

unpaired_pairs : (os : List Outgoing) → unpaired (pairs os) ≡ os
unpaired_pairs [] = refl
unpaired_pairs (o ∷ os) = ap (λ (l : List Outgoing). o ∷ l) (unpaired_pairs os)

-- the bytes of pairs, as the frames' own law speaks of them
abbrev bytes_of : List (Reply × List ℕ) → List ℕ
bytes_of told = flat_map (λ frame. frame_bytes (spelling frame.0) frame.1) told

bytes_are : (os : List Outgoing) → bytes_of (pairs os) ≡ frames_of os
bytes_are [] = refl
bytes_are (o ∷ os) = ap (λ (l : List ℕ). frame_of o ++ l) (bytes_are os)

nothing_told : All IsTold []
nothing_told i d h = absurd (omega (arith, h))

all_told : (os : List Outgoing) → AreBounded os → All IsTold (pairs os)
all_told [] h = nothing_told
all_told (o ∷ os) h = All-cons IsTold (o.reply, o.entry) (pairs os) h.0 (all_told os h.1)

pub frames_tell : FramesTell
frames_tell written others h k same =
    let told : pairs written ≡ pairs others =
    writes_replies (pairs written) (pairs others) (all_told written h) (all_told others k) (bytes_are written ∙ same ∙ sym (bytes_are others)) in
    sym (unpaired_pairs written) ∙ ap (λ (l : List (Reply × List ℕ)). unpaired l) told ∙ unpaired_pairs others
