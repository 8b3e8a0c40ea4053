use Rattle.std.proofs.Common.{◌≡◌, ◌-◌, ◌≤◌, length, take}
use Rattle.disk.specs.declared.file_id.Folder.TheVariants.{Two}
use Rattle.gated_log.specs.Wholes.{Builds}
use Rattle.catalog.proofs.old.OldCatalog.prepare.Given as goal

abbrev pub invariant-names : goal.invariant-names
invariant-names l = (l.place ≤ length l.fn.self.names.keys) × (l.log.folder ≡ Two) × Builds l.log (take l.place l.fn.self.names.keys)

abbrev pub decreases-names : goal.decreases-names
decreases-names l = length l.fn.self.names.keys - l.place
