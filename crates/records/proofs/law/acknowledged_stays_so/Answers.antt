use Rattle.records.specs.Staying.{stays_all}
use Rattle.records.proofs.law.acknowledged_stays_so.Goals as goal

pub returns : goal.returns
returns c = stays_all
