-- The fuses that were laid, and how they burn.
use Rattle.std.specs.Prelude.{ℕ, Bool, false, ◌==◌, ◌||◌, ◌-◌, max, Option, Some, None, List, [], map}
use Rattle.std.specs.List.{list_any}
use Rattle.disk.specs.declared.crash_shelf.CrashForm.TheVariants.{Old}
use Rattle.disk.specs.Laid.{Laid}
use Rattle.disk_mem.specs.declared.fuses.Fuses.{Fuses}

abbrev pub laid_by : Fuses → Laid
laid_by fuses = record { fails = fuses.fails.items; stop = fuses.stop; read_fails = fuses.read_fails.items; form = fuses.form }

abbrev pub nothing_laid : Laid
nothing_laid = record { fails = []; stop = None; read_fails = []; form = Old }

-- one of these is at the next call
abbrev pub is_next : List ℕ → Bool
is_next numbers = list_any (λ k. k == 1) numbers

abbrev pub stops_next : Option ℕ → Bool
stops_next None = false
stops_next (Some k) = k == 1

-- the next write, cut or sync fails
abbrev pub fires : Laid → Bool
fires laid = is_next laid.fails || stops_next laid.stop

-- the next read fails
abbrev pub fires_at_read : Laid → Bool
fires_at_read laid = is_next laid.read_fails

-- one call nearer; a stop stays at the next call
abbrev pub nearer : List ℕ → List ℕ
nearer numbers = map (λ k. k - 1) numbers

abbrev pub stop_nearer : Option ℕ → Option ℕ
stop_nearer None = None
stop_nearer (Some k) = Some (max (k - 1) 1)

-- after a write, a cut or a sync, and after a read
abbrev pub after_call : Laid → Laid
after_call laid = record laid { fails = nearer laid.fails; stop = stop_nearer laid.stop }

abbrev pub after_read : Laid → Laid
after_read laid = record laid { read_fails = nearer laid.read_fails }
