use Rattle.std.proofs.Common.{arith}
use Rattle.std.proofs.lemmas.Grind.{common_steps}
use Rattle.catalog.proofs.names_fold.take_name.Goals as goal

-- `search`, which is tried first where there is no answer, takes long to find nothing at these
pub returns-then-len-ge-MAX_TOPICS-clause-taken : goal.returns-then-len-ge-MAX_TOPICS-clause-taken
returns-then-len-ge-MAX_TOPICS-clause-taken c = grind (arith, common_steps)

pub returns-in_ok-new-in-Ok-clause-taken : goal.returns-in_ok-new-in-Ok-clause-taken
returns-in_ok-new-in-Ok-clause-taken c = grind (arith, common_steps)

pub returns-in-Err-Bad-clause-taken : goal.returns-in-Err-Bad-clause-taken
returns-in-Err-Bad-clause-taken c = grind (arith, common_steps)
