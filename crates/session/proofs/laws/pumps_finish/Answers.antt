use Rattle.session.proofs.Ends.{pumps_finish}
use Rattle.session.proofs.laws.pumps_finish.Goals as goal

pub returns : goal.returns
returns c = pumps_finish
