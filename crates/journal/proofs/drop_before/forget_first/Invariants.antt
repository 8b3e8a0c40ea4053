use Rattle.std.proofs.Common.{◌≡◌, ◌≤◌, drop}
use Rattle.std.specs.VecDeque.{deque_len, deque_capacity}
use Rattle.journal.proofs.drop_before.forget_first.Given as goal

abbrev pub invariant-logs : goal.invariant-logs
invariant-logs l = (drop l.left l.logs.items ≡ drop l.fn.count l.fn.logs.items) × (deque_len l.logs ≤ deque_len l.fn.logs) × (deque_capacity l.logs ≡ deque_capacity l.fn.logs)

abbrev pub decreases-logs : goal.decreases-logs
decreases-logs l = l.left
