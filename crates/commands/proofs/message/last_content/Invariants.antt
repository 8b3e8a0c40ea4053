use Rattle.std.proofs.Common.{length, None}
use Rattle.commands.specs.Message.{content_of}
use Rattle.commands.proofs.Walk.{Searched, newest}
use Rattle.commands.proofs.message.last_content.Given as goal

abbrev pub invariant-fields : goal.invariant-fields
invariant-fields l = Searched content_of l.number newest None l.bytes l.found l.input

abbrev pub decreases-fields : goal.decreases-fields
decreases-fields l = length l.input
