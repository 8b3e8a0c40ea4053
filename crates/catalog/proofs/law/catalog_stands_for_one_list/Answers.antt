use Rattle.catalog.specs.Laws.{one_list}
use Rattle.catalog.proofs.law.catalog_stands_for_one_list.Goals as goal

pub returns : goal.returns
returns c = one_list
