use Rattle.key_shared.proofs.Apart.{admitted_once}
use Rattle.key_shared.proofs.laws.no_position_for_two.Goals as goal

pub returns : goal.returns
returns c = admitted_once
