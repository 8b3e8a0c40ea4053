use Rattle.std.proofs.Common.{◌≤◌, length}
use Rattle.subscriptions_tests.proofs.topic.add_entries.Given as goal

abbrev pub invariant-loop-i : goal.invariant-loop-i
invariant-loop-i g l = (l.i ≤ length l.subs.slots) × (l.i ≤ length l.subs.messages)
