use Rattle.std.proofs.Common.{◌↔◌, drop}
use Rattle.records.specs.Floors.{StartFrom}
use Rattle.cursor_store.proofs.told.Told.fits.Given as goal

-- none that is gone over begins before
abbrev pub invariant-loop-change : goal.invariant-loop-change
invariant-loop-change l = StartFrom l.self.start.base (drop l.change-index l.changes) ↔ StartFrom l.self.start.base l.changes
