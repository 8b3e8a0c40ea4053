-- What bodies tell fits the ledger beside which they are of their form.
use Rattle.std.proofs.Common.{sym, subst, ℕ, ◌≤◌, ◌^◌, List, [], ◌∷◌, arith}
use Rattle.disk.specs.declared.file_id.Folder.{Folder}
use Rattle.disk.specs.declared.file_id.Folder.TheVariants as version
use Rattle.gated_log.specs.declared.start.Start.{Start}
use Rattle.gated_log.specs.Starts.{untrimmed}
use Rattle.records.specs.Within.{within_after}
use Rattle.cursor_store.specs.declared.told.Told.{Told}
use Rattle.cursor_store.specs.declared.item.Item.{Item}
use Rattle.cursor_store.specs.declared.item.Item.TheVariants.{Change, Trim}
use Rattle.records.specs.Staying.{none_there, none_have, stays_after}
use Rattle.cursor_store.specs.Items.{IsItem, AreItems, FitsLedger, told_after, all_told, untold}
use Rattle.cursor_store.specs.ItemBytes.{MeansItems}

fits_after : (folder : Folder) (entries : ℕ) (told : Told) (item : Item) → IsItem folder entries told item → FitsLedger entries told → FitsLedger entries (told_after item told)
fits_after folder entries told (Change change) formed fits = record {
  within = within_after entries told.kept change formed.0 fits.within;
  begins = record {
    rises = omega arith;
    within = fits.begins.within;
    acknowledged = stays_after told.start.base told.kept change formed.1 fits.begins.acknowledged;
    in_range = fits.begins.in_range;
  };
}
fits_after version.One entries told (Trim start) formed fits = record {
  within = fits.within;
  begins = record { rises = omega arith; within = formed.within; acknowledged = formed.acknowledged; in_range = formed.in_range };
}
fits_after version.Two entries told (Trim start) formed fits = absurd formed

fits_all : (folder : Folder) (entries : ℕ) (told : Told) (items : List Item) → AreItems folder entries told items → FitsLedger entries told → FitsLedger entries (all_told items told)
fits_all folder entries told [] formed fits = fits
fits_all folder entries told (item ∷ items) formed fits = fits_all folder entries (told_after item told) items formed.1 (fits_after folder entries told item formed.0 fits)

pub told_fits : (folder : Folder) (entries : ℕ) (old : Told) (bodies : List (List ℕ)) (told : Told) → MeansItems folder entries old bodies told → FitsLedger entries old → FitsLedger entries told
told_fits folder entries old [] told is fits = subst (λ (t : Told). FitsLedger entries t) (sym is) fits
told_fits folder entries old (body ∷ bodies) told is fits =
    told_fits folder entries is.0 bodies told is.2 (subst (λ (t : Told). FitsLedger entries t) (sym is.1.new_is) (fits_all folder entries old is.1.items is.1.formed fits))

-- before the first item a ledger fits that may begin where the header says
pub start_fits : (entries : ℕ) (start : Start) → start.base ≤ entries → start.first ≤ 2 ^ 62 → FitsLedger entries (untold start)
start_fits entries start within in_range = record {
  within = λ name acked there. absurd (none_there name acked there);
  begins = record { rises = omega arith; within = within; acknowledged = none_have start.base; in_range = in_range };
}

pub none_fits : (entries : ℕ) → FitsLedger entries (untold untrimmed)
none_fits entries = start_fits entries untrimmed (omega arith) (omega arith)

-- as what was told in the end does
pub first_fits : (entries : ℕ) (told : Told) → FitsLedger entries told → FitsLedger entries (untold told.start)
first_fits entries told fits = start_fits entries told.start fits.begins.within fits.begins.in_range

-- a longer ledger
pub fits_longer : (entries more : ℕ) (start : Start) → entries ≤ more → FitsLedger entries (untold start) → FitsLedger more (untold start)
fits_longer entries more start low fits = start_fits more start (omega (arith, low, fits.begins.within)) fits.begins.in_range
