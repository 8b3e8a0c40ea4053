use Rattle.cursor_store.proofs.Counting.{none_behind, few_stay}
use Rattle.cursor_store.proofs.law.few_records_are_behind.Goals as goal

pub returns-clause-begun : goal.returns-clause-begun
returns-clause-begun c = none_behind

pub returns-clause-stay : goal.returns-clause-stay
returns-clause-stay c = few_stay
