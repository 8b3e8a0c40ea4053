-- The fuses that are laid, as a device keeps them.
use Rattle.std.specs.Prelude.{ℕ, ◌==◌, min, Option, Some, None, List, [], ◌∷◌, ◌++◌, if◌then◌else◌}
use Rattle.disk.specs.declared.crash_shelf.CrashForm.{CrashForm}
use Rattle.disk.specs.declared.crash_shelf.Fuse.{Fuse}
use Rattle.disk.specs.declared.crash_shelf.Fuse.TheVariants.{Fail, Stop, FailRead, CrashAs}

-- Each number counts the calls up to the one that fails, that one included; 0 is none.
pub record Laid : Type 0 where
  -- of writes, cuts and syncs
  pub fails : List ℕ
  -- of the first that fails with all later ones
  pub stop : Option ℕ
  -- of reads
  pub read_fails : List ℕ
  -- what a crash makes of the bytes that may be anything
  pub form : CrashForm

-- a crash ends a stop
abbrev pub after_crash : Laid → Laid
after_crash laid = record laid { stop = None }

-- the sooner of two stops
abbrev pub sooner : ℕ → Option ℕ → Option ℕ
sooner k None = if k == 0 then None else Some k
sooner k (Some j) = if k == 0 then Some j else Some (min k j)

-- one more is laid
abbrev pub after_arm : Fuse → Laid → Laid
after_arm (Fail k) laid = record laid { fails = laid.fails ++ k ∷ [] }
after_arm (Stop k) laid = record laid { stop = sooner k laid.stop }
after_arm (FailRead k) laid = record laid { read_fails = laid.read_fails ++ k ∷ [] }
after_arm (CrashAs form) laid = record laid { form = form }
