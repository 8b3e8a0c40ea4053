use Rattle.managed_ledger.specs.Trims.{grows_both}
use Rattle.managed_ledger.proofs.law.publishings_join.Goals as goal

pub returns : goal.returns
returns c = λ a b d first second. grows_both a b d first second
