-- The names that frames search for, one frame more.
use Rattle.std.proofs.Common.{ℕ, List, [], ◌∷◌, ◌++◌}
use Rattle.std.specs.Prelude.{Contains}
use Rattle.std.proofs.lemmas.Grind.{flat_map-append}
use Rattle.std.proofs.lemmas.List.Elements.{Contains-append_left, Contains-append_right}
use Rattle.frames.specs.declared.frame.Frame.{Frame}
use Rattle.session.specs.Working.{asked_by, names_in}

pub names_before : (frames : List Frame) (frame : Frame) (name : List ℕ) → Contains (names_in frames) name → Contains (names_in (frames ++ frame ∷ [])) name
names_before frames frame name is =
    rw (flat_map-append (λ (f : Frame). asked_by f.command) frames (frame ∷ [])) (Contains-append_left (names_in frames) (names_in (frame ∷ [])) name is)

pub names_now : (frames : List Frame) (frame : Frame) (name : List ℕ) → Contains (asked_by frame.command) name → Contains (names_in (frames ++ frame ∷ [])) name
names_now frames frame name is =
    rw (flat_map-append (λ (f : Frame). asked_by f.command) frames (frame ∷ []))
    (Contains-append_right (names_in frames) (names_in (frame ∷ [])) name (Contains-append_left (asked_by frame.command) [] name is))
