use Rattle.key_shared.proofs.Apart.{meet_or_not}
use Rattle.key_shared.proofs.laws.ranges_that_meet.Goals as goal

pub returns : goal.returns
returns c = meet_or_not
