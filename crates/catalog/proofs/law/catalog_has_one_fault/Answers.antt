use Rattle.catalog.specs.Laws.{one_fault}
use Rattle.catalog.proofs.law.catalog_has_one_fault.Goals as goal

pub returns : goal.returns
returns c = one_fault
