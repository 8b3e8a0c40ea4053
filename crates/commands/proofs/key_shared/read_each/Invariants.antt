use Rattle.commands.specs.KeyShared.{int_range_of}
use Rattle.commands.proofs.Each.{ReadParts}
use Rattle.commands.proofs.key_shared.read_each.Given as goal

abbrev pub invariant-loop-part : goal.invariant-loop-part
invariant-loop-part l = ReadParts int_range_of l.parts l.part-index l.ranges.items
