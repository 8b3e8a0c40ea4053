-- The device's clock, and what a crash may leave after each call.
use Rattle.std.proofs.Common.{◌≡◌, ◌≢◌, ◌⊎◌, inl, inr, ⊎_elim, ℕ, zero, suc, ◌≤◌, List, [], ◌∷◌, ◌++◌, length, refl, sym, ap, subst, arith, length-append}
use Rattle.std.specs.Prelude.{Some, slice_get}
use Rattle.disk.specs.declared.file_id.FileId.{FileId}
use Rattle.disk.specs.Disk.{Image, Same, Changes, Advances}
use Rattle.disk_mem.specs.declared.shelf.MemShelf.{MemShelf}
use Rattle.disk_mem.specs.FileState.{FileState, MayLeave}
use Rattle.disk_mem.specs.Files.{Files, state_at, FileChanges, NoneChanges}
use Rattle.disk_mem.specs.SameFile.{this_or_other}
use Rattle.disk_mem.specs.Device.{leaves, left_from, disk_of, Unwritten}

-- what stands in a list and one more
pushed : {A : Type 0} (xs : List A) (x y : A) (k : ℕ) → slice_get (xs ++ x ∷ []) k ≡ Some y → (slice_get xs k ≡ Some y) ⊎ (x ≡ y)
pushed [] x y zero is = inr (cc)
pushed [] x y (suc k) is = absurd (cc)
pushed (z ∷ xs) x y zero is = inl is
pushed (z ∷ xs) x y (suc k) is = pushed xs x y k is

still : {A : Type 0} (xs : List A) (x y : A) (k : ℕ) → slice_get xs k ≡ Some y → slice_get (xs ++ x ∷ []) k ≡ Some y
still [] x y k is = absurd (cc)
still (z ∷ xs) x y zero is = is
still (z ∷ xs) x y (suc k) is = still xs x y k is

last : {A : Type 0} (xs : List A) (x : A) → slice_get (xs ++ x ∷ []) (length xs) ≡ Some x
last [] x = refl
last (z ∷ xs) x = last xs x

-- a moment later
pub advances : (step : Image → Image → Type 0) (old new : MemShelf) → new.past.items ≡ old.past.items ++ old.files ∷ [] → ((c : Image) → leaves new.files c → (d : Image) × leaves old.files d × step d c) → Advances step (disk_of old) (disk_of new)
advances step old new noted crash = record {
  later = omega (arith, ap (λ (l : List Files). length l) noted, length-append old.past.items (old.files ∷ []));
  crash = crash;
  nothing_else = λ t c le left. ⊎_elim (λ now. inr now) (λ was. inl (earlier t c was.0 was.1 was.2 (subst (λ (l : List Files). slice_get l was.0 ≡ Some was.1) noted was.3) was.4)) left;
  keeps = λ t c le left. inr (subst (λ (l : List Files). (k : ℕ) × (was : Files) × (t ≤ k) × (slice_get l k ≡ Some was) × leaves was c) (sym noted) (⊎_elim
      (λ now. (length old.past.items, old.files, le, last old.past.items old.files, now))
      (λ was. (was.0, was.1, was.2, still old.past.items old.files was.1 was.0 was.3, was.4))
      left));
}
  where
    earlier : (t : ℕ) (c : Image) (k : ℕ) (was : Files) → t ≤ k → slice_get (old.past.items ++ old.files ∷ []) k ≡ Some was → leaves was c → left_from old.past.items old.files t c
    earlier t c k was le at left = ⊎_elim (λ before. inr (k, was, le, before, left)) (λ same. inl (subst (λ (m : Files). leaves m c) (sym same) left)) (pushed old.past.items old.files was k at)

-- a call that changes no file and notes no moment
pub reads_advance : (old new : MemShelf) → Unwritten old new → Advances Same (disk_of old) (disk_of new)
reads_advance old new r = record {
  later = omega (arith, ap (λ (l : List Files). length l) r.past);
  crash = λ c may. (c, subst (λ (m : Files). leaves m c) r.files may, refl);
  nothing_else = λ t c le left. inl (back t c left);
  keeps = λ t c le left. subst (λ (m : Files). left_from new.past.items m t c) (sym r.files) (subst (λ (l : List Files). left_from l old.files t c) (sym r.past) left);
}
  where
    back : (t : ℕ) (c : Image) → left_from new.past.items new.files t c → left_from old.past.items old.files t c
    back t c left = subst (λ (l : List Files). left_from l old.files t c) r.past (subst (λ (m : Files). left_from new.past.items m t c) r.files left)

-- where no file has changed, a crash leaves what it left
pub none_leaves : (old new : Files) → NoneChanges (state_at old) (state_at new) → (c : Image) → leaves new c → leaves old c
none_leaves old new same c may f = subst (λ (s : FileState). MayLeave s (c f)) (same f) (may f)

-- where one file has changed, a crash leaves what it left, after the step of that file
module _ (file : FileId) (change : FileState → FileState) (step : List ℕ → List ℕ → Type 0) (old new : Files)
    (there : (c : List ℕ) → MayLeave (change (state_at old file)) c → (d : List ℕ) × MayLeave (state_at old file) d × step d c)
    (changes : FileChanges file change (state_at old) (state_at new)) (c : Image) (may : leaves new c) where
  before : (f : FileId) → (d : List ℕ) × MayLeave (state_at old f) d × (((file ≡ f) × step d (c f)) ⊎ ((f ≢ file) × (c f ≡ d)))
  before f = ⊎_elim at_file (λ other. (c f, subst (λ (s : FileState). MayLeave s (c f)) (changes.elsewhere f other) (may f), inr (other, refl))) (this_or_other file f)
    where
      at_file : file ≡ f → (d : List ℕ) × MayLeave (state_at old f) d × (((file ≡ f) × step d (c f)) ⊎ ((f ≢ file) × (c f ≡ d)))
      at_file same = subst (λ (g : FileId). (d : List ℕ) × MayLeave (state_at old g) d × (((file ≡ g) × step d (c g)) ⊎ ((g ≢ file) × (c g ≡ d)))) same
          (let was = there (c file) (subst (λ (s : FileState). MayLeave s (c file)) changes.there (may file)) in (was.0, was.1, inl (refl, was.2)))

  pub one_leaves : (d : Image) × leaves old d × Changes file step d c
  one_leaves = (
    λ f. (before f).0,
    λ f. (before f).1,
    record {
      there = ⊎_elim (λ hit. hit.1) (λ miss. absurd (miss.0 refl)) (before file).2;
      elsewhere = λ f other. ⊎_elim (λ hit. absurd (other (sym hit.0))) (λ miss. miss.1) (before f).2;
    },
  )
