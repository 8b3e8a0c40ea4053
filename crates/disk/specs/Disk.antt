-- What the calls of a device do to its files, and what a crash may leave of them.
use Rattle.std.specs.Prelude.{◌≡◌, ◌≢◌, ◌⊎◌, ℕ, ◌+◌, ◌<◌, ◌≤◌, ◌^◌, min, max, List, ◌++◌, length, take, drop}
use Rattle.disk.specs.declared.file_id.FileId.{FileId}

-- what is in each file
abbrev pub Image : Type 0
Image = FileId → List ℕ

-- the device at one moment
pub record Disk : Type 1 where
  -- what reads give
  pub seen : Image
  -- what a crash now may leave
  pub may_leave : Image → Type 0
  -- this moment, a number that doesn't fall
  pub moment : ℕ
  -- what a crash at some moment from that one on might have left
  pub left_since : ℕ → Image → Type 0
  -- how often the device has failed, a number without a limit
  pub faults : ℕ
  -- it does what is said here of reads and crashes
  pub honest : Type 0

-- both have the same in each file
abbrev pub Same : Image → Image → Type 0
Same a b = b ≡ a

-- new has old's files but for one, which has changed so
pub record Changes (file : FileId) (change : List ℕ → List ℕ → Type 0) (old new : Image) : Type 0 where
  pub there : change (old file) (new file)
  pub elsewhere : (f : FileId) → f ≢ file → new f ≡ old f

-- these bytes stand at this place, and the rest is as before
abbrev pub Overwritten : ℕ → List ℕ → List ℕ → List ℕ → Type 0
Overwritten at bytes old new = new ≡ take at old ++ bytes ++ drop (at + length bytes) old

-- after a write of n bytes that a crash or a fault cuts short: any bytes in the range and past the old end
pub record Torn (at n : ℕ) (old new : List ℕ) : Type 0 where
  pub before : take (min at (length old)) new ≡ take (min at (length old)) old
  pub after : drop (at + n) new ≡ drop (at + n) old
  pub no_shorter : length old ≤ length new
  pub no_longer : length new ≤ max (length old) (at + n)

-- after a cut that a crash or a fault cuts short: any bytes from there on, and an end between the two
pub record TornCut (at : ℕ) (old new : List ℕ) : Type 0 where
  pub before : take (min at (length old)) new ≡ take (min at (length old)) old
  pub no_shorter : min at (length old) ≤ length new
  pub no_longer : length new ≤ length old

-- Time goes on from old to new. What a crash leaves now is what it left before, after this step;
-- what it might have left since an earlier moment is what it might have before, and what it may leave now.
pub record Advances (step : Image → Image → Type 0) (old new : Disk) : Type 0 where
  pub later : old.moment ≤ new.moment
  pub crash : (c : Image) → new.may_leave c → (d : Image) × old.may_leave d × step d c
  pub nothing_else : (t : ℕ) (c : Image) → t ≤ old.moment → new.left_since t c → old.left_since t c ⊎ new.may_leave c
  pub keeps : (t : ℕ) (c : Image) → t ≤ old.moment → old.left_since t c → new.left_since t c

-- a crash leaves what reads give of this file
abbrev pub Synced : FileId → Disk → Type 0
Synced file disk = (c : Image) → disk.may_leave c → c file ≡ disk.seen file

-- these bytes are what a crash may leave of this file
abbrev pub LeftOf : FileId → Disk → List ℕ → Type 0
LeftOf file disk bytes = (c : Image) × disk.may_leave c × (bytes ≡ c file)

-- Its failures are counted. It stays honest, or not.
pub record Kept (old new : Disk) : Type 0 where
  pub faults : old.faults ≤ new.faults
  pub honest : old.honest → new.honest
  pub not_honest : new.honest → old.honest

-- the device has failed since
abbrev pub Failed : Disk → Disk → Type 0
Failed old new = old.faults < new.faults

-- nothing has changed: not what reads give, not what a crash may leave, not the clock, not the failures
pub record Stays (old new : Disk) : Type 0 where
  pub seen : new.seen ≡ old.seen
  pub leaves : (c : Image) → old.may_leave c → new.may_leave c
  pub nothing_else : (c : Image) → new.may_leave c → old.may_leave c
  pub moment : new.moment ≡ old.moment
  pub since : (t : ℕ) (c : Image) → old.left_since t c → new.left_since t c
  pub nothing_since : (t : ℕ) (c : Image) → new.left_since t c → old.left_since t c
  pub faults : new.faults ≡ old.faults
  pub honest : old.honest → new.honest
  pub not_honest : new.honest → old.honest

-- The laws of a device that is honest.
pub record Lawful (disk : Disk) : Type 0 where
  -- this moment is one of those since an earlier one
  pub counts_now : (t : ℕ) (c : Image) → t ≤ disk.moment → disk.may_leave c → disk.left_since t c
  -- since this moment there is no other
  pub only_now : (c : Image) → disk.left_since disk.moment c → disk.may_leave c
  -- a crash may leave what reads give
  pub leaves_seen : disk.may_leave disk.seen
  -- no file is longer, and no crash makes it so
  pub bounded : (c : Image) (f : FileId) → disk.may_leave c → length (c f) ≤ 2 ^ 62

-- the first n bytes of the buffer are the file's from the offset on, as many as there are, and the rest is as before
pub record Filled (file : List ℕ) (offset : ℕ) (old : List ℕ) (n : ℕ) (new : List ℕ) : Type 0 where
  pub count : n ≡ length (take (length old) (drop offset file))
  pub bytes : new ≡ take (length old) (drop offset file) ++ drop n old

-- what a crash may leave after this step
abbrev pub After : Disk → (Image → Image → Type 0) → Image → Type 0
After disk step c = (d : Image) × disk.may_leave d × step d c

-- A crash at any moment from old to new leaves what has P.
pub record Leaves (P : Image → Type 0) (old new : Disk) : Type 0 where
  pub later : old.moment ≤ new.moment
  pub now : (c : Image) → new.may_leave c → P c
  -- for a run that began earlier
  pub since : (t : ℕ) (c : Image) → t ≤ old.moment → new.left_since t c → old.left_since t c ⊎ P c

-- The files of the area have P, and every other file is one that a crash of old may have left.
pub record Outcome (old : Disk) (area : FileId → Type 0) (P : Image → Type 0) (c : Image) : Type 0 where
  pub from : Image
  pub left : old.may_leave from
  pub elsewhere : (f : FileId) → ¬ area f → c f ≡ from f
  pub own : P c

-- The files of the area read as before, and a crash leaves of them what it left before.
pub record Undisturbed (area : FileId → Type 0) (old new : Disk) : Type 0 where
  pub honest : old.honest → new.honest
  pub seen : (f : FileId) → area f → new.seen f ≡ old.seen f
  pub left : (c : Image) → new.may_leave c → (d : Image) × old.may_leave d × ((f : FileId) → area f → c f ≡ d f)
