use Rattle.node.proofs.UpgradeFault.{one_fault_each}
use Rattle.node.proofs.laws.upgrades_have_one_fault.Goals as goal

pub returns : goal.returns
returns c = one_fault_each
