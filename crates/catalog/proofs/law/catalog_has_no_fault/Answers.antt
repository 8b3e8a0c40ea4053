use Rattle.catalog.specs.Laws.{no_fault}
use Rattle.catalog.proofs.law.catalog_has_no_fault.Goals as goal

pub returns : goal.returns
returns c = no_fault
