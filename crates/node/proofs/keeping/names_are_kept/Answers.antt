use Rattle.node.proofs.KeptNames.{run_keeps, life_keeps, cut_life_keeps}
use Rattle.node.proofs.keeping.names_are_kept.Goals as goal

pub returns : goal.returns
returns c = record { run = run_keeps; life = life_keeps; cut = cut_life_keeps }
