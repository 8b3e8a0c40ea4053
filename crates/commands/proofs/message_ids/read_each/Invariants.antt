use Rattle.commands.specs.MessageIds.{message_id_of}
use Rattle.commands.proofs.Each.{ReadParts}
use Rattle.commands.proofs.message_ids.read_each.Given as goal

abbrev pub invariant-loop-part : goal.invariant-loop-part
invariant-loop-part l = ReadParts message_id_of l.parts l.part-index l.ids.items
