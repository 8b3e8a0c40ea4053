use Rattle.node.proofs.Folders.{hold_one}
use Rattle.node.proofs.laws.folders_hold_one_content.Goals as goal

pub returns : goal.returns
returns c = hold_one
