use Rattle.node.proofs.Unfolding.{run_unfolds}
use Rattle.node.proofs.laws.runs_unfold.Goals as goal

pub returns : goal.returns
returns c = run_unfolds
