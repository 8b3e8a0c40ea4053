use Rattle.journal.specs.Links.{stands_behind}
use Rattle.journal.proofs.law.chains_stand_from_each_segment_on.Goals as goal

pub returns : goal.returns
returns c = stands_behind
