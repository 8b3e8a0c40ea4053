use Rattle.std.proofs.Common.{◌≤◌, length}
use Rattle.topic_core_tests.proofs.tests.gauges.add_entries.Given as goal

abbrev pub invariant-loop-i : goal.invariant-loop-i
invariant-loop-i g l = (l.i ≤ length l.subs.slots) × (l.i ≤ length l.subs.messages)
