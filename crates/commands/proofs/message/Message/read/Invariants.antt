use Rattle.std.proofs.Common.{length}
use Rattle.commands.proofs.Kept.{Keeping}
use Rattle.commands.proofs.message.Message.read.Given as goal

abbrev pub invariant-fields : goal.invariant-fields
invariant-fields l = Keeping l.bytes l.held l.input

abbrev pub decreases-fields : goal.decreases-fields
decreases-fields l = length l.input
