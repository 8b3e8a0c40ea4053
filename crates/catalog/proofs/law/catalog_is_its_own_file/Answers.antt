use Rattle.catalog.specs.Laws.{own_file}
use Rattle.catalog.proofs.law.catalog_is_its_own_file.Goals as goal

pub returns : goal.returns
returns c = own_file
