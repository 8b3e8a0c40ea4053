-- The ledger begins later.
use Rattle.std.proofs.Common.{◌≡◌, ℕ, ◌≤◌, arith}
use Rattle.records.specs.Maps.{Kept}
use Rattle.gated_log.specs.declared.start.Start.{Start}
use Rattle.cursor_store.specs.declared.told.Told.{Told}
use Rattle.cursor_store.specs.Items.{FitsLedger, told_of}
use Rattle.cursor_store.specs.Trimming.{MayTrim}

-- what is kept fits the ledger that begins there
pub trim_fits : (entries : ℕ) (from start : Start) (kept : Kept) → FitsLedger entries (told_of from kept) → MayTrim from kept start → start.base ≤ entries → FitsLedger entries (told_of start kept)
trim_fits entries from start kept fits may long = record {
  within = fits.within;
  begins = record { rises = omega arith; within = long; acknowledged = may.acknowledged; in_range = may.in_range };
}

-- where it begins is swapped
pub moved : (old : Told) (from start to : Start) (kept : Kept) → old ≡ told_of from kept → to ≡ start → told_of to old.kept ≡ told_of start kept
moved old from start to kept same is = λ i. told_of (is i) (same i).kept
