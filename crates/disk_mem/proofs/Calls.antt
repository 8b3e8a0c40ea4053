-- What a crash may leave after a write, a cut and a sync.
use Rattle.std.proofs.Common.{◌≡◌, ⊎_elim, ℕ, List, [], ◌∷◌, ◌++◌, refl, sym, ap, subst}
use Rattle.std.specs.Prelude.{Result, Ok, Err, OnOk}
use Rattle.disk.specs.declared.crash_shelf.CrashForm.{CrashForm}
use Rattle.disk.specs.declared.crash_shelf.CrashForm.TheVariants.{Old, New, Fill}
use Rattle.disk.specs.declared.file_id.FileId.{FileId}
use Rattle.disk.specs.declared.shelf.DeviceError.{DeviceError}
use Rattle.disk.specs.Disk.{Image, Same, Changes, LeftOf, Advances}
use Rattle.disk_mem.specs.declared.shelf.MemShelf.{MemShelf}
use Rattle.disk_mem.specs.FileState.{FileState, MayLeave, IsSound, settled, LeftBy, CrashesTo}
use Rattle.disk_mem.specs.Device.{states, leaves, disk_of, Counted}
use Rattle.disk_mem.specs.Laws.{sound_at}
use Rattle.disk_mem.specs.SameFile.{this_or_other}
use Rattle.disk_mem.proofs.Advance.{advances, none_leaves, one_leaves}
use Rattle.disk_mem.proofs.Left.{left_settled}
use Rattle.disk_mem.proofs.Sound.{filled_left, synced_left}

-- a call that changes one file, and of it leaves what was left before, after a step
pub counted_time : (file : FileId) (change : FileState → FileState) (step : List ℕ → List ℕ → Type 0) (outcome : Result (Unit {0}) DeviceError) (old new : MemShelf)
    → Counted file change outcome old new → new.past.items ≡ old.past.items ++ old.files ∷ [] → ((d : List ℕ) → step d d)
    → ((c : List ℕ) → MayLeave (change (states old file)) c → (d : List ℕ) × MayLeave (states old file) d × step d c) → Advances (Changes file step) (disk_of old) (disk_of new)
counted_time file change step (Ok x) old new counted noted stays there = advances (Changes file step) old new noted (one_leaves file change step old.files new.files there counted.done)
counted_time file change step (Err e) old new counted noted stays there =
    advances (Changes file step) old new noted (λ c may. (c, none_leaves old.files new.files counted.refused c may, record { there = stays (c file); elsewhere = λ f other. refl }))

-- a sync, after which a crash leaves what it might have left before
module _ (file : FileId) (old new : MemShelf) where
  abbrev Syncs : Result (Unit {0}) DeviceError → Type 0
  Syncs outcome = Counted file (λ was. settled was.bytes) outcome old new

  pub sync_time : (outcome : Result (Unit {0}) DeviceError) → Syncs outcome → new.past.items ≡ old.past.items ++ old.files ∷ [] → Advances Same (disk_of old) (disk_of new)
  sync_time (Err e) counted noted = advances Same old new noted (λ c may. (c, none_leaves old.files new.files counted.refused c may, refl))
  sync_time (Ok x) counted noted = advances Same old new noted (λ c may. (c, left c may, refl))
    where
      there : (c : List ℕ) → MayLeave (settled (states old file).bytes) c → MayLeave (states old file) c
      there c may = subst (λ (b : List ℕ). MayLeave (states old file) b) (sym (left_settled (states old file).bytes c may)) (sound_at old.files file).reads

      left : (c : Image) → leaves new.files c → leaves old.files c
      left c may f = ⊎_elim
          (λ same. subst (λ (g : FileId). MayLeave (states old g) (c g)) same (there (c file) (subst (λ (s : FileState). MayLeave s (c file)) counted.done.there (may file))))
          (λ other. subst (λ (s : FileState). MayLeave s (c f)) (counted.done.elsewhere f other) (may f))
          (this_or_other file f)

  same_bytes : (outcome : Result (Unit {0}) DeviceError) → Syncs outcome → (f : FileId) → (states new f).bytes ≡ (states old f).bytes
  same_bytes (Err e) counted f = ap (λ (s : FileState). s.bytes) (counted.refused f)
  same_bytes (Ok x) counted f = ⊎_elim
      (λ same. subst (λ (g : FileId). (states new g).bytes ≡ (states old g).bytes) same (ap (λ (s : FileState). s.bytes) counted.done.there))
      (λ other. ap (λ (s : FileState). s.bytes) (counted.done.elsewhere f other))
      (this_or_other file f)

  pub sync_seen : (outcome : Result (Unit {0}) DeviceError) → Syncs outcome → OnOk outcome (Unit {0} → Same (disk_of old).seen (disk_of new).seen)
  sync_seen (Err e) counted = tt
  sync_seen (Ok x) counted = λ honest i f. same_bytes (Ok x) counted f i

  pub sync_torn : (outcome : Result (Unit {0}) DeviceError) → Syncs outcome → Changes file (λ was is. LeftOf file (disk_of old) is) (disk_of old).seen (disk_of new).seen
  sync_torn outcome counted = record {
    there = ((disk_of old).seen, (λ f. (sound_at old.files f).reads), same_bytes outcome counted file);
    elsewhere = λ f other. same_bytes outcome counted f;
  }

-- what a crash of any form leaves is one of what a crash may leave
left_by : (form : CrashForm) (file : FileState) (c : List ℕ) → IsSound file → LeftBy form file c → MayLeave file c
left_by Old file c sound is = subst (λ (b : List ℕ). MayLeave file b) (sym is) (synced_left file sound)
left_by New file c sound is = subst (λ (b : List ℕ). MayLeave file b) (sym is) sound.reads
left_by (Fill byte) file c sound is = filled_left byte file c sound is

-- a crash, after which another leaves the same
pub crash_time : (form : CrashForm) (old new : MemShelf) → new.past.items ≡ old.past.items ++ old.files ∷ [] → ((f : FileId) → CrashesTo form (states old f) (states new f)) → Advances Same (disk_of old) (disk_of new)
crash_time form old new noted crashes = advances Same old new noted (λ c may. (c, left c may, refl))
  where
    left : (c : Image) → leaves new.files c → leaves old.files c
    left c may f =
        let is = left_settled (states new f).bytes (c f) (subst (λ (s : FileState). MayLeave s (c f)) (crashes f).rests (may f)) in
        subst (λ (b : List ℕ). MayLeave (states old f) b) (sym is) (left_by form (states old f) (states new f).bytes (sound_at old.files f) (crashes f).left)
