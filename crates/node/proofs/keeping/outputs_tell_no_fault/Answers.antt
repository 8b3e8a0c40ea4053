use Rattle.node.proofs.Outages.{run_tells, life_tells, cut_life_tells}
use Rattle.node.proofs.keeping.outputs_tell_no_fault.Goals as goal

pub returns : goal.returns
returns c = record { run = run_tells; life = life_tells; cut = cut_life_tells }
