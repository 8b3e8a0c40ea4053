use Rattle.two_slot.specs.One.{slots_one}
use Rattle.two_slot.proofs.law.slots_stand_for_one_list.Goals as goal

pub returns : goal.returns
returns c = slots_one
