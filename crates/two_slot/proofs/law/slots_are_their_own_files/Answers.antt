use Rattle.two_slot.specs.Local.{stands_local_lem}
use Rattle.two_slot.proofs.law.slots_are_their_own_files.Goals as goal

pub returns : goal.returns
returns c = stands_local_lem
