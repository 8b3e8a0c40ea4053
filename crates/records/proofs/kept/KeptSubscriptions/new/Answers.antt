use Rattle.records.proofs.Sound.{sound_empty}
use Rattle.records.proofs.kept.KeptSubscriptions.new.Goals as goal

pub invariant_of-result : goal.invariant_of-result
invariant_of-result c = rw c.new.ensures.empty sound_empty
