use Rattle.two_slot.proofs.Opening.{begins_by}
use Rattle.two_slot.proofs.heads.SlotHeads.start.Goals as goal

pub returns : goal.returns
returns c = λ image zero one. begins_by c.args.self.now image c.header_of.result c.header_of-2.result _ zero one c.header_of.ensures c.header_of-2.ensures c.start_by.ensures
