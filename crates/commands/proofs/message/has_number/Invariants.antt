use Rattle.std.proofs.Common.{length, false}
use Rattle.commands.proofs.Walk.{Searched, any_of, seen}
use Rattle.commands.proofs.message.has_number.Given as goal

abbrev pub invariant-fields : goal.invariant-fields
invariant-fields l = Searched any_of l.number seen false l.bytes l.found l.input

abbrev pub decreases-fields : goal.decreases-fields
decreases-fields l = length l.input
