use Rattle.std.proofs.Common.{[]}
use Rattle.gated_log.specs.Folds.{behind}
use Rattle.two_slot.specs.One.{slots_fault_one}
use Rattle.two_slot.proofs.law.slots_have_one_fault.Goals as goal

pub returns : goal.returns
returns g c = λ rule. slots_fault_one (behind (g.F.Fold.form rule) []) (g.met.F.Fold.form_less rule [])
