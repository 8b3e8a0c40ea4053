use Rattle.std.proofs.Common.{length, []}
use Rattle.commands.specs.Message.{content_of}
use Rattle.commands.proofs.Walk.{Searched, with_part}
use Rattle.commands.proofs.message.each_content.Given as goal

abbrev pub invariant-fields : goal.invariant-fields
invariant-fields l = Searched content_of l.number with_part [] l.bytes l.found.items l.input

abbrev pub decreases-fields : goal.decreases-fields
decreases-fields l = length l.input
