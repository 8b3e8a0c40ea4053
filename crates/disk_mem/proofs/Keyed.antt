-- What a change of one file leaves of all.
use Rattle.std.proofs.Common.{◌≡◌, Bool, true, false, cond, refl, sym, ◌∙◌, ap}
use Rattle.std.specs.Prelude.{Some, Option, Ok, Err, Result, OnOk, OnErr}
use Rattle.std.specs.HashMap.{get}
use Rattle.disk.specs.declared.file_id.FileId.{FileId}
use Rattle.disk_mem.specs.declared.file.File.{File}
use Rattle.disk_mem.specs.FileState.{FileState}
use Rattle.disk_mem.specs.Files.{Files, state, state_of, state_at, FileChanges, NoneChanges}
use Rattle.disk_mem.specs.SameFile.{same_file, same_file_refl, same_file_is, other_file}

-- new is old with w at this file
abbrev pub Updated : FileId → File → Files → Files → Type 0
Updated file w old new = (q : FileId) → get same_file new q ≡ cond (same_file file q) (Some w) (get same_file old q)

pub changes_at : (file : FileId) (change : FileState → FileState) (was : Option File) (w : File) (old new : Files) → get same_file old file ≡ was → Updated file w old new → state w ≡ change (state_of was) → FileChanges file change (state_at old) (state_at new)
changes_at file change was w old new found updated changed = record {
  there = ap state_of (updated file ∙ ap (λ (b : Bool). cond b (Some w) (get same_file old file)) (same_file_refl file)) ∙ changed ∙ ap (λ (o : Option File). change (state_of o)) (sym found);
  elsewhere = λ f other. ap state_of (updated f ∙ ap (λ (b : Bool). cond b (Some w) (get same_file old f)) (other_file file f other));
}

pub none_changes_at : (file : FileId) (was : Option File) (w : File) (old new : Files) → get same_file old file ≡ was → Updated file w old new → state w ≡ state_of was → NoneChanges (state_at old) (state_at new)
none_changes_at file was w old new found updated stays f = by_test (same_file file f) refl
  where
    by_test : (b : Bool) → same_file file f ≡ b → state_at new f ≡ state_at old f
    by_test true is =
        ap state_of (updated f ∙ ap (λ (b : Bool). cond b (Some w) (get same_file old f)) is) ∙ stays ∙ ap state_of (sym found) ∙ ap (state_at old) (same_file_is file f is)
    by_test false is = ap state_of (updated f ∙ ap (λ (b : Bool). cond b (Some w) (get same_file old f)) is)

-- what follows from what holds on success, or on failure
pub on_ok : {T E : Type 0} (r : Result T E) (P Q : Type 0) → (P → Q) → OnOk r P → OnOk r Q
on_ok (Ok x) P Q then p = then p
on_ok (Err e) P Q then p = tt

pub on_err : {T E : Type 0} (r : Result T E) (P Q : Type 0) → (P → Q) → OnErr r P → OnErr r Q
on_err (Ok x) P Q then p = tt
on_err (Err e) P Q then p = then p
