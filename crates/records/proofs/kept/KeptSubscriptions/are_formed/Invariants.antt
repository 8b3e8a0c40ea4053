use Rattle.std.proofs.Common.{◌↔◌, drop}
use Rattle.records.specs.Maps.{Kept}
use Rattle.records.specs.Records.{AreFormed}
use Rattle.records.specs.Present.{AreNamesOf, texts}
use Rattle.records.proofs.kept.KeptSubscriptions.are_formed.Given as goal

-- the names are those of what the records before make, and what is behind is of its form there where all of it is
abbrev pub invariant-loop-change : goal.invariant-loop-change
invariant-loop-change l = (now : Kept) × AreNamesOf now (texts l.names) × (AreFormed l.entries now (drop l.change-index l.changes) ↔ AreFormed l.entries l.self l.changes)
