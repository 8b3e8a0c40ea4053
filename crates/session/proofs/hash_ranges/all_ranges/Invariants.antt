use Rattle.session.proofs.AllRanges.{ReadRanges}
use Rattle.session.proofs.hash_ranges.all_ranges.Given as goal

abbrev pub invariant-loop-range : goal.invariant-loop-range
invariant-loop-range l = ReadRanges l.asked l.range-index l.ranges.items
