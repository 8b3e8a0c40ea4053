-- The device is lawful.
use Rattle.std.specs.Prelude.{◌≡◌, ℕ, ◌≤◌, List, [], ◌∷◌, length, Option, Some, None, slice_get}
use Rattle.std.proofs.Common.{zero, suc, ⊎_elim, inl, refl, arith}
use Rattle.std.specs.HashMap.{get}
use Rattle.disk.specs.declared.file_id.FileId.{FileId}
use Rattle.disk.specs.Disk.{Lawful}
use Rattle.disk_mem.specs.declared.file.File.{File}
use Rattle.disk_mem.specs.declared.shelf.MemShelf.{MemShelf}
use Rattle.disk_mem.specs.FileState.{empty, IsSound}
use Rattle.disk_mem.specs.Files.{Files, state_of, state_at}
use Rattle.disk_mem.specs.SameFile.{same_file}
use Rattle.disk_mem.specs.Device.{disk_of}

sound_empty : IsSound empty
sound_empty = record { reads = record { at_least = omega arith; at_most = omega arith; kept = λ k lt out. refl }; old_least = omega arith; old_most = omega arith; bounded = omega arith }

-- each file is sound
pub sound_at : (files : Files) (f : FileId) → IsSound (state_at files f)
sound_at files f = at (get same_file files f)
  where
    at : (o : Option File) → IsSound (state_of o)
    at None = sound_empty
    at (Some file) = file.sound

beyond : {A : Type 0} (xs : List A) (y : A) (k : ℕ) → length xs ≤ k → slice_get xs k ≡ Some y → ⊥
beyond [] y k le is = cc
beyond (z ∷ xs) y zero le is = absurd (omega (arith, le))
beyond (z ∷ xs) y (suc k) le is = beyond xs y k (omega (arith, le)) is

-- the device is lawful
pub lawful_disk : (shelf : MemShelf) → Lawful (disk_of shelf)
lawful_disk shelf = record {
  counts_now = λ t c le may. inl may;
  only_now = λ c left. ⊎_elim (λ now. now) (λ was. absurd (beyond shelf.past.items was.1 was.0 was.2 was.3)) left;
  leaves_seen = λ f. (sound_at shelf.files f).reads;
  bounded = λ c f may. omega (arith, (may f).at_most, (sound_at shelf.files f).bounded);
}
