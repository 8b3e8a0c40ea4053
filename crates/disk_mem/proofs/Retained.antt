-- What a crash of each file leaves of all.
use Rattle.std.proofs.Common.{◌≡◌, Bool, true, false, cond, List, [], ◌∷◌, refl, sym, ◌∙◌, ap, subst, arith}
use Rattle.std.specs.Prelude.{Some, Option}
use Rattle.std.specs.Map.{lookup}
use Rattle.std.specs.Map.Calls.{RetainsPairs}
use Rattle.disk.specs.declared.crash_shelf.CrashForm.{CrashForm}
use Rattle.disk.specs.declared.crash_shelf.CrashForm.TheVariants.{Old, New, Fill}
use Rattle.disk.specs.declared.file_id.FileId.{FileId}
use Rattle.disk_mem.specs.declared.file.File.{File}
use Rattle.disk_mem.specs.FileState.{empty, LeftBy, CrashesTo}
use Rattle.disk_mem.specs.Files.{state, state_of}

-- a missing file stays missing
pub missing_crashes : (form : CrashForm) → CrashesTo form empty empty
missing_crashes form = record { left = left form; rests = refl }
  where
    left : (form : CrashForm) → LeftBy form empty []
    left Old = refl
    left New = refl
    left (Fill byte) = record { end = refl; past_least = λ k le lt. absurd (omega (arith, lt)); written = λ k lt is. absurd (omega (arith, lt)); rest = λ k lt out. absurd (omega (arith, lt)) }

module _ {F : Type 0} (T : F → FileId → File → Bool → File → F → Type 0) (form : CrashForm) (f : F)
    (each : (k : FileId) (v : File) (b : Bool) (w : File) (f' : F) → T f k v b w f' → (b ≡ true) × CrashesTo form (state v) (state w) × (f' ≡ f)) (test : FileId → Bool) where
  abbrev Goal : List (FileId × File) → List (FileId × File) → Type 0
  Goal es kept = CrashesTo form (state_of (lookup test es)) (state_of (lookup test kept))

  pub all_crash : (es kept : List (FileId × File)) → RetainsPairs T f es kept → Goal es kept
  all_crash [] kept is = subst (Goal []) (sym is) (missing_crashes form)
  all_crash (e ∷ es) kept (b, w, f', rest, call, more, is) =
      let facts = each e.0 e.1 b w f' call in
      let later : Goal es rest = all_crash es rest (subst (λ (g : F). RetainsPairs T g es rest) facts.2 more) in
      let all : kept ≡ (e.0, w) ∷ rest = is ∙ ap (λ (c : Bool). cond c ((e.0, w) ∷ rest) rest) facts.0 in
      subst (Goal (e ∷ es)) (sym all) (here (test e.0) e.1 w (lookup test es) (lookup test rest) facts.1 later)
    where
      here : (b : Bool) (v w : File) (o p : Option File) → CrashesTo form (state v) (state w) → CrashesTo form (state_of o) (state_of p) → CrashesTo form (state_of (cond b (Some v) o)) (state_of (cond b (Some w) p))
      here true v w o p now later = now
      here false v w o p now later = later
