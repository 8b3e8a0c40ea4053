use Rattle.std.proofs.Common.{◌≡◌}
use Rattle.disk.specs.declared.file_id.Folder.TheVariants.{Two}
use Rattle.stores_tests.proofs.slots.log_of.Given as goal

abbrev pub invariant-words : goal.invariant-words
invariant-words l = l.log.folder ≡ Two
