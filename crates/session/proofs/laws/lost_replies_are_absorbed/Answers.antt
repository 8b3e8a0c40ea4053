use Rattle.session.proofs.Absorbing.{lost_replies_are_absorbed}
use Rattle.session.proofs.laws.lost_replies_are_absorbed.Goals as goal

pub returns : goal.returns
returns c = lost_replies_are_absorbed
