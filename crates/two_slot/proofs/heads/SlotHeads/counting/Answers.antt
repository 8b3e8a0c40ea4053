use Rattle.std.proofs.Common.{refl, sym, ◌∙◌}
use Rattle.two_slot.proofs.Opening.{counting_by}
use Rattle.two_slot.proofs.heads.SlotHeads.counting.Goals as goal

pub returns-in-Refuse : goal.returns-in-Refuse
returns-in-Refuse c = λ image zero one. counting_by c.args.self.now image c.header_of.result c.header_of-2.result _ _ zero one c.header_of.ensures c.header_of-2.ensures (sym c.in-Refuse.is ∙ c.choose.ensures) refl

pub returns-in-Read : goal.returns-in-Read
returns-in-Read c = λ image zero one. counting_by c.args.self.now image c.header_of.result c.header_of-2.result _ _ zero one c.header_of.ensures c.header_of-2.ensures (sym c.in-Read.is ∙ c.choose.ensures) refl
