use Rattle.session.proofs.Admitted.{pumps_serve}
use Rattle.session.proofs.laws.pumps_serve.Goals as goal

pub returns : goal.returns
returns c = pumps_serve
