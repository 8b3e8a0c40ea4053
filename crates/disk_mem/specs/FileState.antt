-- One file of the device: what reads give, and what a crash may leave.
use Rattle.std.specs.Prelude.{◌≡◌, ℕ, Bool, true, false, ◌&&◌, ◌+◌, ◌<◌, ◌≤◌, ◌^◌, min, max, nat_lt, nat_le, slice_index, List, [], ◌∷◌, ◌++◌, length, take, drop}
use Rattle.std.specs.List.{list_any}
use Rattle.disk.specs.declared.crash_shelf.CrashForm.{CrashForm}
use Rattle.disk.specs.declared.crash_shelf.CrashForm.TheVariants.{Old, New, Fill}
use Rattle.disk_mem.specs.declared.span.Span.{Span}

pub record FileState : Type 0 where
  -- what reads give
  pub bytes : List ℕ
  -- what they gave at the last good sync
  pub synced : List ℕ
  -- the ranges written since
  pub written : List Span
  -- the least and the greatest end since
  pub least : ℕ
  pub greatest : ℕ

-- a file that nothing was done to, as a missing one
abbrev pub empty : FileState
empty = record { bytes = []; synced = []; written = []; least = 0; greatest = 0 }

-- the place lies in the range
abbrev pub is_within : ℕ → Span → Bool
is_within k span = nat_le span.start k && nat_lt k span.end

-- the place was written since the last good sync
abbrev pub is_written : ℕ → List Span → Bool
is_written k spans = list_any (is_within k) spans

-- A crash leaves the file as the last good sync did, but for the written ranges and all from the least end
-- on, which may hold anything, and for its end, which lies between the least and the greatest.
pub record MayLeave (file : FileState) (c : List ℕ) : Type 0 where
  pub at_least : file.least ≤ length c
  pub at_most : length c ≤ file.greatest
  pub kept : (k : ℕ) → k < file.least → is_written k file.written ≡ false → slice_index c k ≡ slice_index file.synced k

-- what reads give is one of what a crash may leave, and so is what the last good sync left; no end is greater than 2^62
pub record IsSound (file : FileState) : Type 0 where
  pub reads : MayLeave file file.bytes
  pub old_least : file.least ≤ length file.synced
  pub old_most : length file.synced ≤ file.greatest
  pub bounded : file.greatest ≤ 2 ^ 62

-- the bytes stand at the place, and the rest is as before
abbrev pub overwritten : ℕ → List ℕ → List ℕ → List ℕ
overwritten at bytes old = take at old ++ bytes ++ drop (at + length bytes) old

-- after a write, which begins at the end where it would begin past it
abbrev pub after_write : ℕ → List ℕ → FileState → FileState
after_write offset bytes file =
    let at = min offset (length file.bytes) in
    record {
      bytes = overwritten at bytes file.bytes;
      synced = file.synced;
      written = file.written ++ record { start = at; end = at + length bytes } ∷ [];
      least = file.least;
      greatest = max file.greatest (at + length bytes);
    }

abbrev pub after_cut : ℕ → FileState → FileState
after_cut len file = record {
  bytes = take len file.bytes;
  synced = file.synced;
  written = file.written;
  least = min len file.least;
  greatest = file.greatest;
}

-- a file whose bytes a crash leaves as they are
abbrev pub settled : List ℕ → FileState
settled bytes = record { bytes = bytes; synced = bytes; written = []; least = length bytes; greatest = length bytes }

-- each byte that may be anything is this one, the others are as the last good sync left them, and the end is the greatest that may be
pub record IsFilled (byte : ℕ) (file : FileState) (c : List ℕ) : Type 0 where
  pub end : length c ≡ file.greatest
  pub past_least : (k : ℕ) → file.least ≤ k → k < file.greatest → slice_index c k ≡ byte
  pub written : (k : ℕ) → k < file.least → is_written k file.written ≡ true → slice_index c k ≡ byte
  pub rest : (k : ℕ) → k < file.least → is_written k file.written ≡ false → slice_index c k ≡ slice_index file.synced k

-- what a crash of this form leaves of the file
abbrev pub LeftBy : CrashForm → FileState → List ℕ → Type 0
LeftBy Old file c = c ≡ file.synced
LeftBy New file c = c ≡ file.bytes
LeftBy (Fill byte) file c = IsFilled byte file c

-- the file after a crash of this form
pub record CrashesTo (form : CrashForm) (old new : FileState) : Type 0 where
  pub left : LeftBy form old new.bytes
  pub rests : new ≡ settled new.bytes
